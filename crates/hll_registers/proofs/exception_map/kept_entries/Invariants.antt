-- SPDX-License-Identifier: Apache-2.0
use Rattle.hll_registers.proofs.FourBits.{KeptSoFar}
use Rattle.hll_registers.proofs.exception_map.kept_entries.Given as goal

abbrev pub invariant-loop-slot : goal.invariant-loop-slot
invariant-loop-slot g l = KeptSoFar l.map l.minimum l.kept l.yielded
