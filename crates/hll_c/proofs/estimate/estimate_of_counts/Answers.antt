-- SPDX-License-Identifier: Apache-2.0
use Rattle.std.proofs.Common.{arith, ◌≤◌, ◌^◌, sym, ◌∙◌}
use Rattle.std.proofs.Math.Pow.{pow_mono}
use Rattle.hll_c.specs.Estimates.{registers_of_counts}
use Rattle.hll_c.proofs.Histograms.{counted, registers_are}
use Rattle.hll_c.proofs.estimate.estimate_of_counts.Goals as goal

pub returns-in_default-clause-err : goal.returns-in_default-clause-err
returns-in_default-clause-err c = record {
  is = c.new.ensures;
  no_lg_k = λ k sum_to.
      let most : 2 ^ k ≤ 2 ^ 21 = pow_mono {i = k} {j = 21} sum_to.is.high in
      let no : ⊥ = omega (arith, c.in_default.ensures.none, sum_to.sum_is, most) in no;
}

pub estimate_of_totals-requires : goal.estimate_of_totals-requires
estimate_of_totals-requires c =
    let counts = c.args.histogram.now.counts in
    let totals = c.in-Some.ensures.some in
    let lg_k = c.in_ok-lg_k.ensures.ok in
    record {
      least = lg_k.0.low;
      most = lg_k.0.high;
      registers = registers_of_counts 0 counts;
      are_registers = registers_are counts c.in_ok-lg_k.lg_k totals.each_value (sym totals.total_is ∙ lg_k.1);
      zero_count = (counted counts).each 0 (omega arith);
      weight = totals.units_are;
    }

pub returns-clause-ok : goal.returns-clause-ok
returns-clause-ok c =
    let counts = c.args.histogram.now.counts in
    let totals = c.in-Some.ensures.some in
    let lg_k = c.in_ok-lg_k.ensures.ok in
    record {
      lg_k = c.in_ok-lg_k.lg_k;
      sum_to = record { is = lg_k.0; sum_is = sym totals.total_is ∙ lg_k.1 };
      registers = registers_of_counts 0 counts;
      are = registers_are counts c.in_ok-lg_k.lg_k totals.each_value (sym totals.total_is ∙ lg_k.1);
      counted = counted counts;
      says = c.estimate_of_totals.ensures (registers_of_counts 0 counts) ((counted counts).each 0 (omega arith)) totals.units_are;
    }
