-- SPDX-License-Identifier: Apache-2.0
use Rattle.hll_coupons.proofs.Marks.{MarkedSoFar}
use Rattle.hll_coupons.proofs.aux_map_builder.mark_slots.Given as goal

abbrev pub invariant-loop-slot : goal.invariant-loop-slot
invariant-loop-slot g l = MarkedSoFar l.map l.blocks l.yielded
