-- SPDX-License-Identifier: Apache-2.0
use Rattle.std.proofs.Common.{◌+◌, arith, subst, sym}
use Rattle.std.proofs.lemmas.List.{length-take, take_more}
use Rattle.hll_kernels.specs.WeightSums.{AreSumsOf}
use Rattle.hll_kernels.proofs.WeightParts.{AreSumsOf-append, AreSumsOf-fits}
use Rattle.hll_kernels.proofs.kernels.weight_sums_one_by_one.Goals as goal

pub plus-sums-requires : goal.plus-sums-requires
plus-sums-requires c =
    let fit = AreSumsOf-fits _ _ _ _ _ c.loop-value.invariant c.value_sums.ensures (take_more c.args.bytes.now c.loop-value.value-index 0 c.loop-value-test.true) (omega (arith, length-take (c.loop-value.value-index + 1) c.args.bytes.now, c.requires.few)) in
    record { low = fit.0; high = fit.1 }

pub loop-value-preserved : goal.loop-value-preserved
loop-value-preserved c =
    subst (AreSumsOf _) (sym (take_more c.args.bytes.now c.loop-value.value-index 0 c.loop-value-test.true))
    (AreSumsOf-append _ _ _ _ _ c.loop-value.invariant c.value_sums.ensures c.plus-sums.ensures.low c.plus-sums.ensures.high)
