-- SPDX-License-Identifier: Apache-2.0
use Rattle.std.proofs.Common.{◌≡◌, All, Some}
use Rattle.hll_coupons.specs.AuxMap.{value_in}
use Rattle.hll_registers.proofs.same_registers.are_all_entries_of.Given as goal

-- each entry so far is one of the map
abbrev pub invariant-loop-slot : goal.invariant-loop-slot
invariant-loop-slot g l = All (λ p. value_in l.map p.0 ≡ Some p.1) l.yielded
