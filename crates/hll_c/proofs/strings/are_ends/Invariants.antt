-- SPDX-License-Identifier: Apache-2.0
use Rattle.std.proofs.Common.{◌↔◌, ◌≤◌, drop}
use Rattle.hll_c.specs.Batches.{AreEnds, AreEndsFrom}
use Rattle.hll_c.proofs.strings.are_ends.Given as goal

-- the ends that are left ascend from a start and are within the size exactly if all ends do from 0
abbrev pub invariant-loop-end : goal.invariant-loop-end
invariant-loop-end l = ((l.start ≤ l.size) × AreEndsFrom l.start l.size (drop l.end-index l.ends)) ↔ AreEnds l.size l.ends
