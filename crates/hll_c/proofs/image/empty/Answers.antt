-- SPDX-License-Identifier: Apache-2.0
use Rattle.std.proofs.Common.{◌∙◌, sym, ap, subst}
use Rattle.hll_base.proofs.Errors.{IfErr-passed}
use Rattle.hll_sketch.specs.Layout.{sketch_of}
use Rattle.hll_sketch.specs.Value.{IsLgK, empty_sketch}
use Rattle.hll_sketch.proofs.FirstFailing.{IfErr-with}
use Rattle.hll_c.specs.Answers.{RefusesArguments}
use Rattle.hll_c.specs.Calls.{AreNewArguments, IsEmptyAt}
use Rattle.hll_c.proofs.Answers.{IfOk-with}
use Rattle.hll_c.proofs.Images.{refuses_new}
use Rattle.hll_c.proofs.image.empty.Goals as goal

pub returns-in_err-lg_k-clause-err : goal.returns-in_err-lg_k-clause-err
returns-in_err-lg_k-clause-err c =
    let e = c.in_err-lg_k in
    IfErr-passed (RefusesArguments (AreNewArguments c.args.lg_k c.args.width)) c.from_residual.result e.field-0.0 c.from_residual.ensures.1
    (refuses_new (AreNewArguments c.args.lg_k c.args.width) e.field-0.0 e.ensures.outside.0 (λ are. e.ensures.outside.1 are.lg_k_is))

pub returns-in_err-width_of-clause-err : goal.returns-in_err-width_of-clause-err
returns-in_err-width_of-clause-err c =
    let e = c.in_err-width_of in
    IfErr-passed (RefusesArguments (AreNewArguments c.args.lg_k c.args.width)) c.from_residual-in_err-width_of.result e.field-0.0 c.from_residual-in_err-width_of.ensures.1
    (refuses_new (AreNewArguments c.args.lg_k c.args.width) e.field-0.0 e.ensures.outside.0 (λ are. e.ensures.outside.1 are.width_is))

pub returns-clause-ok : goal.returns-clause-ok
returns-clause-ok c =
    IfOk-with c.new.result _ _ (λ s. IsEmptyAt c.args.lg_k c.args.width (sketch_of s))
    (λ s made lg_k. record {
      arguments = record { lg_k_is = c.in_ok-lg_k.ensures.ok.1; width_is = record { width = c.in_ok-width_of.field-0; is = c.in_ok-width_of.ensures.ok } };
      is = made ∙ ap (λ k. empty_sketch k c.in_ok-width_of.field-0) c.in_ok-lg_k.ensures.ok.0;
    })
    c.new.ensures.ok c.new.ensures.lg_k

pub returns-clause-err : goal.returns-clause-err
returns-clause-err c =
    IfErr-with c.new.result _ _ (RefusesArguments (AreNewArguments c.args.lg_k c.args.width))
    (λ e is no. refuses_new (AreNewArguments c.args.lg_k c.args.width) e is (λ are. no (subst IsLgK (sym c.in_ok-lg_k.ensures.ok.0) are.lg_k_is)))
    c.new.ensures.err c.new.ensures.outside
