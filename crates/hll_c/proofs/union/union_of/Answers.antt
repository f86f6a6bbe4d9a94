-- SPDX-License-Identifier: Apache-2.0
use Rattle.std.proofs.Common.{ℕ, List, length, refl, ap, subst, ◌∙◌}
use Rattle.std.specs.Option.{IfSome}
use Rattle.std.proofs.lemmas.Result.{IfOk-weaker, IfErr-weaker}
use Rattle.hll_base.proofs.Errors.{IfErr-passed}
use Rattle.hll_sketch.specs.Merging.{empty_union}
use Rattle.hll_sketch.specs.Value.{Sketch}
use Rattle.hll_c.specs.Answers.{IsImageOf, WithFields, RefusesImages}
use Rattle.hll_c.specs.Calls.{bits_of, AreUnionArguments, IsUnionOf}
use Rattle.hll_c.specs.Steps.{union_so_far, IsUnionInBytes}
use Rattle.hll_c.proofs.Answers.{made_with_fields}
use Rattle.hll_c.proofs.GrowingUnions.{is_union, refuses_images}
use Rattle.hll_c.proofs.Images.{asked_after, refuses_arguments, refuses_more_memory}
use Rattle.hll_c.proofs.union.union_of.Goals as goal

pub returns-in_err-lg_max_k-clause-err : goal.returns-in_err-lg_max_k-clause-err
returns-in_err-lg_max_k-clause-err g c =
    let all : List (List ℕ) = g.S.Strings.strings c.args.images.now in
    let f : ℕ = c.args.failed.now in
    let e = c.in_err-lg_max_k in
    let Are = AreUnionArguments c.args.lg_max_k c.args.width in
    IfErr-passed (RefusesImages Are all f f) c.from_residual.result e.field-0.0 c.from_residual.ensures.1
    (refuses_arguments Are all f f e.field-0.0 e.ensures.outside.0 (λ are. e.ensures.outside.1 are.lg_max_k_is) refl)

pub returns-in_err-hll_type-clause-err : goal.returns-in_err-hll_type-clause-err
returns-in_err-hll_type-clause-err g c =
    let all : List (List ℕ) = g.S.Strings.strings c.args.images.now in
    let f : ℕ = c.args.failed.now in
    let e = c.in_err-hll_type in
    let Are = AreUnionArguments c.args.lg_max_k c.args.width in
    IfErr-passed (RefusesImages Are all f f) c.from_residual-in_err-hll_type.result e.field-0.0 c.from_residual-in_err-hll_type.ensures.1
    (refuses_arguments Are all f f e.field-0.0 e.ensures.outside.0 (λ are. e.ensures.outside.1 are.width_is) refl)

pub returns-in_err-image-clause-err : goal.returns-in_err-image-clause-err
returns-in_err-image-clause-err g c =
    let all : List (List ℕ) = g.S.Strings.strings c.args.images.now in
    let Are = AreUnionArguments c.args.lg_max_k c.args.width in
    let are : Are = record { lg_max_k_is = c.in_ok-lg_max_k.ensures.ok.1; width_is = record { width = c.in_ok-hll_type.hll_type; is = c.in_ok-hll_type.ensures.ok } } in
    let f : ℕ = c.args.failed.now in
    let refused = c.in_err-image in
    let read = refused.ensures.err.1 in
    IfErr-passed (RefusesImages Are all f f) c.from_residual-in_err-image.result refused.field-0.0 c.from_residual-in_err-image.ensures.1
    (refuses_more_memory Are all f f refused.field-0.0 (length all) refused.ensures.err.0 are (asked_after all read.0 read.1) refl)

pub returns-in-Some-clause-ok : goal.returns-in-Some-clause-ok
returns-in-Some-clause-ok g c =
    let all : List (List ℕ) = g.S.Strings.strings c.args.images.now in
    let items : List ℕ = c.in-Some.image.items in
    let k : ℕ = c.in_ok-lg_max_k.lg_max_k in
    let bits : ℕ = bits_of c.in_ok-hll_type.hll_type in
    let f : ℕ = c.args.failed.now in
    let made : IsUnionInBytes k bits all items = subst (λ o. IfSome o (λ image. IsUnionInBytes k bits all image.items)) c.in-Some.is c.in_ok-image.ensures.some in
    subst (λ n. IsImageOf (WithFields (IsUnionOf c.args.lg_max_k n all f f)) items) c.in_ok-hll_type.ensures.ok
    (subst (λ n. IsImageOf (WithFields (IsUnionOf n bits all f f)) items) c.in_ok-lg_max_k.ensures.ok.0 (made f))

pub returns-in_err-merge_in_all-clause-err : goal.returns-in_err-merge_in_all-clause-err
returns-in_err-merge_in_all-clause-err g c =
    let all : List (List ℕ) = g.S.Strings.strings c.args.images.now in
    let e = c.in_err-merge_in_all in
    let Are = AreUnionArguments c.args.lg_max_k c.args.width in
    let are : Are = record { lg_max_k_is = c.in_ok-lg_max_k.ensures.ok.1; width_is = record { width = c.in_ok-hll_type.hll_type; is = c.in_ok-hll_type.ensures.ok } } in
    IfErr-passed (RefusesImages Are all c.args.failed.now c.merge_in_all.new.failed) c.from_residual-in_err-merge_in_all.result e.field-0.0 c.from_residual-in_err-merge_in_all.ensures.1
    (refuses_images Are all c.args.failed.now c.merge_in_all.new.failed e.field-0.0 are e.ensures.err)

pub returns-clause-ok : goal.returns-clause-ok
returns-clause-ok g c =
    let k : ℕ = c.args.lg_max_k in
    let all : List (List ℕ) = g.S.Strings.strings c.args.images.now in
    let Are = AreUnionArguments k c.args.width in
    let are : Are = record { lg_max_k_is = c.in_ok-lg_max_k.ensures.ok.1; width_is = record { width = c.in_ok-hll_type.hll_type; is = c.in_ok-hll_type.ensures.ok } } in
    let Made = IsUnionOf k c.args.width all c.args.failed.now c.merge_in_all.new.failed in
    let taken = c.in_ok-merge_in_all.ensures.ok in
    let same = c.in_ok-lg_max_k.ensures.ok.0 in
    let at : Sketch = record (union_so_far c.merge_in_all.new.union) { width = c.in_ok-hll_type.hll_type } in
    IfOk-weaker c.into_image.result _ (λ image. IsImageOf (WithFields Made) image.items)
    (λ image is. made_with_fields Made at image.items
    (is_union k c.args.width c.in_ok-hll_type.hll_type all c.args.failed.now c.merge_in_all.new.failed are c.new-union.result c.merge_in_all.new.union
    (c.new-union.ensures.bound ∙ same) (c.new-union.ensures.empty ∙ ap empty_union same) taken.0 refl taken.1) is)
    c.into_image.ensures.ok

pub returns-clause-err : goal.returns-clause-err
returns-clause-err g c =
    let all : List (List ℕ) = g.S.Strings.strings c.args.images.now in
    let Are = AreUnionArguments c.args.lg_max_k c.args.width in
    let are : Are = record { lg_max_k_is = c.in_ok-lg_max_k.ensures.ok.1; width_is = record { width = c.in_ok-hll_type.hll_type; is = c.in_ok-hll_type.ensures.ok } } in
    let taken = c.in_ok-merge_in_all.ensures.ok in
    IfErr-weaker c.into_image.result _ (RefusesImages Are all c.args.failed.now c.merge_in_all.new.failed)
    (λ e memory. refuses_more_memory Are all c.args.failed.now c.merge_in_all.new.failed e (length all) memory are (asked_after all taken.0.sketches taken.0.read) taken.1)
    c.into_image.ensures.err
