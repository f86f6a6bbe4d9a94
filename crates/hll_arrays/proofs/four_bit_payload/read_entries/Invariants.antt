-- SPDX-License-Identifier: Apache-2.0
use Rattle.std.proofs.Common.{◌≡◌, ◌*◌, ◌≤◌, ℕ, None, drop, length}
use Rattle.hll_coupons.specs.AuxMap.{entry_at}
use Rattle.hll_coupons.specs.Coupons.{coupons_at}
use Rattle.hll_registers.specs.FourBits.{exception_in, IsMapFor}
use Rattle.hll_registers.specs.Payload.{AreEntries}
use Rattle.hll_arrays.proofs.four_bit_payload.read_entries.Given as goal

-- the exceptions of the buckets so far are in the map
abbrev pub invariant-loop : goal.invariant-loop
invariant-loop g l = record {
  rest : l.cursor ≡ drop (4 * l.counter) l.frame.entries.now;
  map_for : IsMapFor l.lg_config_k l.map;
  values : (s : ℕ) → exception_in l.map s ≡ entry_at l.lg_config_k (coupons_at l.frame.compact l.counter l.frame.entries.now) s;
  are : AreEntries l.lg_config_k (coupons_at l.frame.compact l.counter l.frame.entries.now);
  number : l.filled ≡ length (coupons_at l.frame.compact l.counter l.frame.entries.now);
  few : l.filled ≤ l.counter;
  none : l.counter ≡ 0 → l.map ≡ None;
}
