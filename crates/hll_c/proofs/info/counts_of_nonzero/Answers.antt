-- SPDX-License-Identifier: Apache-2.0
use Rattle.std.proofs.Common.{◌-◌, length, set, sym, subst, arith}
use Rattle.hll_c.specs.Info.{AreCountsOf}
use Rattle.hll_c.proofs.Counts.{counts_with_zeros, few_nonzero}
use Rattle.hll_c.proofs.info.counts_of_nonzero.Goals as goal

pub overflow_sub-counts : goal.overflow_sub-counts
overflow_sub-counts c =
    let R = c.requires.registers in
    omega (arith, few_nonzero c.args.lg_k R.0 c.args.nonzero.now R.1 R.2, c.two_to.ensures)

pub returns : goal.returns
returns c = λ R size is.
    let counted = c.counts_of_values-counts in
    subst (λ n. AreCountsOf R (set counted.result 0 (n - length c.args.nonzero.now))) (sym c.two_to.ensures)
    (counts_with_zeros c.args.lg_k R c.args.nonzero.now counted.result c.requires.lg_k size is counted.ensures.size counted.ensures.counts)
