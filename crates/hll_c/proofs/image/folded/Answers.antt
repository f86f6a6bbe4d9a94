-- SPDX-License-Identifier: Apache-2.0
use Rattle.std.proofs.Common.{subst}
use Rattle.std.specs.Option.{IfSome}
use Rattle.std.proofs.lemmas.Result.{IfOk-weaker, IfErr-weaker}
use Rattle.hll_base.proofs.Errors.{IfErr-passed}
use Rattle.hll_sketch.specs.Layout.{sketch_of}
use Rattle.hll_sketch.specs.Value.{IsLgK}
use Rattle.hll_c.specs.Answers.{IsImageOf, WithFields, image_refused}
use Rattle.hll_c.specs.Calls.{IsMadeOf, IsFoldOf, RefusesFold, with}
use Rattle.hll_c.proofs.Answers.{made_with_fields}
use Rattle.hll_c.proofs.Images.{refuses_argument, refuses_memory}
use Rattle.hll_c.proofs.image.folded.Goals as goal

pub returns-in_err-target-clause-err : goal.returns-in_err-target-clause-err
returns-in_err-target-clause-err c =
    let e = c.in_err-target in
    IfErr-passed (RefusesFold c.args.lg_k c.args.image.now) c.from_residual.result e.field-0.0 c.from_residual.ensures.1
    (with (refuses_argument (IsLgK c.args.lg_k) c.args.image.now e.field-0.0 e.ensures.outside.0 e.ensures.outside.1))

pub returns-in_err-written-clause-err : goal.returns-in_err-written-clause-err
returns-in_err-written-clause-err c =
    let e = c.in_err-written in
    IfErr-passed (RefusesFold c.args.lg_k c.args.image.now) c.from_residual-in_err-written.result e.field-0.0 c.from_residual-in_err-written.ensures.1
    (with (image_refused c.in_ok-target.ensures.ok.1 (refuses_memory c.args.image.now e.ensures.read.0 e.field-0.0 e.ensures.read.1 e.ensures.err)))

pub returns-in-Some-clause-ok : goal.returns-in-Some-clause-ok
returns-in-Some-clause-ok c =
    let items = c.in-Some.written.items in
    subst (λ k. IsImageOf (WithFields (IsMadeOf c.args.image.now (IsFoldOf k))) items) c.in_ok-target.ensures.ok.0
    (subst (λ o. IfSome o (λ written. IsImageOf (WithFields (IsMadeOf c.args.image.now (IsFoldOf c.in_ok-target.target))) written.items)) c.in-Some.is c.in_ok-written.ensures.some)

pub returns-in_err-folded_sketch-clause-err : goal.returns-in_err-folded_sketch-clause-err
returns-in_err-folded_sketch-clause-err c =
    let e = c.in_err-folded_sketch in
    IfErr-passed (RefusesFold c.args.lg_k c.args.image.now) c.from_residual-in_err-folded_sketch.result e.field-0.0 c.from_residual-in_err-folded_sketch.ensures.1
    (subst (λ k. RefusesFold k c.args.image.now e.field-0.0) c.in_ok-target.ensures.ok.0 e.ensures.err)

pub returns-clause-ok : goal.returns-clause-ok
returns-clause-ok c =
    let Made = IsMadeOf c.args.image.now (IsFoldOf c.args.lg_k) in
    let y = sketch_of c.in_ok-folded_sketch.field-0 in
    let made = subst (λ k. IsMadeOf c.args.image.now (IsFoldOf k) y) c.in_ok-target.ensures.ok.0 c.in_ok-folded_sketch.ensures.ok in
    IfOk-weaker c.image_with_fields.result _ (λ v. IsImageOf (WithFields Made) v.items) (λ v is. made_with_fields Made y v.items made is) c.image_with_fields.ensures.ok

pub returns-clause-err : goal.returns-clause-err
returns-clause-err c =
    let made = c.in_ok-folded_sketch.ensures.ok in
    IfErr-weaker c.image_with_fields.result _ (RefusesFold c.args.lg_k c.args.image.now)
    (λ e memory. with (image_refused c.in_ok-target.ensures.ok.1 (refuses_memory c.args.image.now made.sketch e made.read memory)))
    c.image_with_fields.ensures.err
