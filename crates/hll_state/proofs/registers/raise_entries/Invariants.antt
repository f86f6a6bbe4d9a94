-- SPDX-License-Identifier: Apache-2.0
use Rattle.std.proofs.Common.{◌≡◌}
use Rattle.hll_coupons.specs.AuxMap.{entries_in, ExceptionMap, IsMap}
use Rattle.hll_registers.proofs.RaisedEntries.{RaisedSoFar}
use Rattle.hll_state.specs.Registers.{values}
use Rattle.hll_state.proofs.registers.raise_entries.Given as goal

-- the values of the entries so far are reached
abbrev pub invariant-loop-slot : goal.invariant-loop-slot
invariant-loop-slot l = (t : ExceptionMap) → IsMap t → l.initial.slot-iterator ≡ entries_in t → RaisedSoFar t 0 (values l.initial.elements) (values l.elements) l.yielded
