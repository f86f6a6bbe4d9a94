-- SPDX-License-Identifier: Apache-2.0
use Rattle.std.proofs.Common.{◌↔◌, ◌≤◌, drop}
use Rattle.hll_c.specs.Batches.{AreEnds, AreEndsFrom}
use Rattle.hll_c.proofs.strings.are_offsets.Given as goal

-- the offsets that are left ascend from the one before, which is within the bound, exactly if all do from 0
abbrev pub invariant-loop-offset : goal.invariant-loop-offset
invariant-loop-offset l = ((l.before ≤ l.most) × AreEndsFrom l.before l.most (drop l.offset-index l.offsets)) ↔ AreEnds l.most l.offsets
