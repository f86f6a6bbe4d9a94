-- SPDX-License-Identifier: Apache-2.0
use Rattle.std.proofs.Common.{arith, ℕ, ◌+◌, ◌*◌, ◌/◌, get_or, refl, sym, subst}
use Rattle.hll_c.proofs.Histograms.{SumsSoFar, sums_none, sums_more, sums_all, too_many}
use Rattle.hll_c.proofs.estimate.totals_of_counts.Goals as goal

pub loop-count-init : goal.loop-count-init
loop-count-init c = sums_none _

pub loop-count-preserved : goal.loop-count-preserved
loop-count-preserved c =
    let n : ℕ = get_or c.args.counts.now c.loop-count.count-index 0 in
    subst (λ m. SumsSoFar c.args.counts.now (c.loop-count.total + n) (c.loop-count.units + m * c.loop-count.weight) (c.loop-count.weight / 2) (c.loop-count.count-index + 1)) (sym c.from.ensures)
    (sums_more c.args.counts.now c.loop-count.total c.loop-count.units c.loop-count.weight c.loop-count.count-index n c.loop-count.invariant
    (omega (arith, c.loop-count-test.true, c.told-counts)) c.told-counts refl (omega (arith, c.if-total-count.false, c.loop-count.invariant.few)))

pub returns-then-total-count-clause-none : goal.returns-then-total-count-clause-none
returns-then-total-count-clause-none c =
    let n : ℕ = get_or c.args.counts.now c.loop-count.count-index 0 in
    too_many c.args.counts.now c.loop-count.total c.loop-count.units c.loop-count.weight c.loop-count.count-index n c.loop-count.invariant
    (omega (arith, c.loop-count-test.true, c.told-counts)) c.told-counts refl (omega (arith, c.if-total-count.true, c.loop-count.invariant.few))

pub returns-clause-some : goal.returns-clause-some
returns-clause-some c =
    sums_all c.args.counts.now c.loop-count.total c.loop-count.units c.loop-count.weight c.loop-count.count-index c.loop-count.invariant c.told-counts c.loop-count-test.false
