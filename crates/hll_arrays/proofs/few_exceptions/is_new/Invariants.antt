-- SPDX-License-Identifier: Apache-2.0
use Rattle.std.proofs.Common.{◌≡◌, ◌*◌, ◌%◌, ◌^◌, None, drop}
use Rattle.hll_coupons.specs.AuxMap.{entry_at}
use Rattle.hll_coupons.specs.Coupons.{raw_coupons}
use Rattle.hll_coupons.specs.Pair.{slot_of}
use Rattle.hll_arrays.proofs.few_exceptions.is_new.Given as goal

-- none of the raw coupons so far has the slot
abbrev pub invariant-loop : goal.invariant-loop
invariant-loop l = record {
  rest : l.cursor ≡ drop (4 * l.counter) l.entries;
  none : entry_at l.lg_k (raw_coupons l.counter l.entries) (slot_of l.fn.entry % 2 ^ l.lg_k) ≡ None;
}
