-- SPDX-License-Identifier: Apache-2.0
use Rattle.hll_registers.proofs.RaisedEntries.{RaisedSoFar}
use Rattle.hll_registers.proofs.exception_maxima.max_with_entries.Given as goal

abbrev pub invariant-loop-slot : goal.invariant-loop-slot
invariant-loop-slot g l = RaisedSoFar l.map l.first l.initial.values l.values l.yielded
