-- SPDX-License-Identifier: Apache-2.0
use Rattle.std.proofs.Common.{◌≡◌, inl, inr, ◌∷◌, [], ◌++◌, ap, sym, subst, ◌∙◌, Ok, Some, List, ℕ}
use Rattle.hll_base.proofs.Errors.{IfErr-passed}
use Rattle.hll_sketch.specs.Layout.{SketchLayout}
use Rattle.hll_text.specs.Step.{fault_of}
use Rattle.hll_text.specs.Text.{image, image_step, image_reading}
use Rattle.hll_merge.specs.Stack.{StackCarries}
use Rattle.hll_merge.proofs.StackLemmas.{carries-image, fault_of-image, gives-step, faults-step, image-read}
use Rattle.hll_merge.proofs.stack.Stack.push_digits.Goals as goal

pub returns-in_err-read-clause-err : goal.returns-in_err-read-clause-err
returns-in_err-read-clause-err g c =
    let bytes : List ℕ = c.deref.result.now in
    let digits : image_step c.args.digits.now ≡ Ok (image bytes) = subst (λ bs. image_step c.args.digits.now ≡ Ok (image bs)) (sym c.deref.ensures.value) c.in_ok-bytes.ensures.ok in
    let read : image_reading c.args.digits.now ≡ Ok (Some (image bytes)) = image-read c.args.digits.now bytes digits in
    IfErr-passed _ c.from_residual-in_err-read.result (fault_of c.in_err-read.field-0.0) c.from_residual-in_err-read.ensures.1
    (faults-step image_reading c.args.self.now c.args.digits.now (image bytes) read (fault_of c.in_err-read.field-0.0)
    (λ ts h. elim c.in_err-read.ensures.order [ inl m ↦ inl (ap fault_of m) | inr f ↦ inr (fault_of-image ts bytes c.in_err-read.field-0.0 f) ]))

pub returns-clause-ok : goal.returns-clause-ok
returns-clause-ok g c =
    let bytes : List ℕ = c.deref.result.now in
    let made : SketchLayout = c.in_ok-read.field-0 in
    let digits : image_step c.args.digits.now ≡ Ok (image bytes) = subst (λ bs. image_step c.args.digits.now ≡ Ok (image bs)) (sym c.deref.ensures.value) c.in_ok-bytes.ensures.ok in
    let read : image_reading c.args.digits.now ≡ Ok (Some (image bytes)) = image-read c.args.digits.now bytes digits in
    let is = c.in_ok-push.ensures.items ∙ ap (λ xs. xs ++ made ∷ []) (c.self.view_is ∙ c.decode.ensures.unchanged) in
    gives-step image_reading c.args.self.now c.args.digits.now (image bytes) read c.push.new.self.items
    (subst (λ xs. StackCarries c.args.self.now (image bytes) xs) (sym is) (carries-image c.args.self.now bytes made c.in_ok-read.ensures.ok))
