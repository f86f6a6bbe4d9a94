-- SPDX-License-Identifier: Apache-2.0
use Rattle.std.proofs.Common.{◌+◌, take, set, get_or, length, refl, sym, ap, subst, ◌∙◌}
use Rattle.std.proofs.lemmas.List.{length-set}
use Rattle.hll_c.specs.Info.{AreCountsOf}
use Rattle.hll_c.proofs.Counts.{counts_none, counts_more, counts_skip, counts_all}
use Rattle.hll_c.proofs.info.counts_of.Goals.{then-value-lt64, else-value-lt64}
use Rattle.hll_c.proofs.info.counts_of.Goals as goal

pub loop-value-init : goal.loop-value-init
loop-value-init c = (counts_none, refl)

pub loop-value-preserved : goal.loop-value-preserved
loop-value-preserved c = elim c.if-value-lt64.branch [
  | then-value-lt64 w ↦
      let is = w.counts-is ∙ ap (λ v. set c.loop-value.counts v (get_or c.loop-value.counts v 0 + 1)) w.from.ensures in (
        subst (AreCountsOf (take (c.loop-value.value-index + 1) c.args.registers.now)) (sym is)
            (counts_more c.args.registers.now c.loop-value.counts c.loop-value.value-index c.loop-value-test.true c.loop-value.invariant.0 w.if-value-lt64.true c.loop-value.invariant.1),
        ap length is ∙ length-set c.loop-value.counts (get_or c.args.registers.now c.loop-value.value-index 0) (get_or c.loop-value.counts (get_or c.args.registers.now c.loop-value.value-index 0) 0 + 1)
            ∙ c.loop-value.invariant.1,
      )
  | else-value-lt64 w ↦ (
    subst (AreCountsOf (take (c.loop-value.value-index + 1) c.args.registers.now)) (sym w.counts-is)
        (counts_skip c.args.registers.now c.loop-value.counts c.loop-value.value-index c.loop-value-test.true c.loop-value.invariant.0 w.if-value-lt64.false),
    ap length w.counts-is ∙ c.loop-value.invariant.1,
  )
]

pub returns : goal.returns
returns c = counts_all c.args.registers.now c.loop-value.counts c.loop-value.value-index c.loop-value-test.false c.loop-value.invariant.0
