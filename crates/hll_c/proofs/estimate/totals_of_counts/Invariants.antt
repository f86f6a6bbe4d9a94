-- SPDX-License-Identifier: Apache-2.0
use Rattle.hll_c.proofs.Histograms.{SumsSoFar}
use Rattle.hll_c.proofs.estimate.totals_of_counts.Given as goal

-- the counts so far were summed
abbrev pub invariant-loop-count : goal.invariant-loop-count
invariant-loop-count l = SumsSoFar l.counts l.total l.units l.weight l.count-index
