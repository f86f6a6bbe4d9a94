-- SPDX-License-Identifier: Apache-2.0
use Rattle.std.proofs.Common.{◌≡◌, ℕ, List, refl, sym, subst}
use Rattle.std.specs.Prelude.{Ok}
use Rattle.hll_text.specs.Text.{image, image_step, printed_line}
use Rattle.hll_estimator_fields.specs.Passing.{IsPassed}
use Rattle.hll_estimator_fields.proofs.PassingLemmas.{refused_line, written_line}
use Rattle.hll_estimator_fields.proofs.filter.pass_line.Goals as goal

pub returns-in_err-image : goal.returns-in_err-image
returns-in_err-image g c =
    let bytes : List ℕ = c.deref.result.now in
    let digits : image_step c.args.line.now ≡ Ok (image bytes) = subst (λ bs. image_step c.args.line.now ≡ Ok (image bs)) (sym c.deref.ensures.value) c.in_ok-bytes.ensures.ok in
    refused_line _ c.args.line.now bytes _ _ c.in_err-image.field-0.0 _ c.from_residual-in_err-image.ensures.1 c.requires digits c.in_err-image.ensures.err

pub returns : goal.returns
returns g c =
    let bytes : List ℕ = c.deref.result.now in
    let passed : IsPassed c.args.line.now (printed_line c.in_ok-image.image.items) = record {
      bytes = bytes;
      digits = subst (λ bs. image_step c.args.line.now ≡ Ok (image bs)) (sym c.deref.ensures.value) c.in_ok-bytes.ensures.ok;
      new = c.in_ok-image.image.items;
      fields = c.in_ok-image.ensures.ok;
      shown = refl;
    } in
    written_line c.args.line.now c.deref-2.result.now _ _ _ _ _ c.requires (subst (λ new. IsPassed c.args.line.now (printed_line new)) (sym c.deref-2.ensures.value) passed) c.write_hex_line.ensures.ok c.write_hex_line.ensures.err
