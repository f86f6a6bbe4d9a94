-- SPDX-License-Identifier: Apache-2.0
use Rattle.std.proofs.Common.{◌≡◌, ◌*◌, ◌%◌, ◌^◌, All, Some, drop}
use Rattle.hll_coupons.specs.Coupons.{raw_coupons}
use Rattle.hll_coupons.specs.Pair.{slot_of, value_of}
use Rattle.hll_kernels.specs.Packed.{nibble_at}
use Rattle.hll_registers.specs.Payload.{Agrees, AreEntries}
use Rattle.hll_arrays.proofs.few_exceptions.are_exceptions.Given as goal

-- the raw coupons so far are exceptions
abbrev pub invariant-loop-index : goal.invariant-loop-index
invariant-loop-index l = record {
  rest : l.cursor ≡ drop (4 * l.index) l.entries;
  are : AreEntries l.lg_k (raw_coupons l.index l.entries);
  marked : All (λ c. Agrees l.minimum (nibble_at l.nibbles (slot_of c % 2 ^ l.lg_k)) (Some (value_of c))) (raw_coupons l.index l.entries);
}
