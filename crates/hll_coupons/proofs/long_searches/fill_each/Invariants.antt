-- SPDX-License-Identifier: Apache-2.0
use Rattle.hll_coupons.proofs.Fillings.{FilledSoFar}
use Rattle.hll_coupons.proofs.long_searches.fill_each.Given as goal

abbrev pub invariant-loop-cycle : goal.invariant-loop-cycle
invariant-loop-cycle g l = FilledSoFar l.bucket l.cycle-index l.fn.cycles l.cycles
