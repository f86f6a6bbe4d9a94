-- SPDX-License-Identifier: Apache-2.0
use Rattle.std.proofs.Common.{refl, sym, ap, subst, ◌∙◌}
use Rattle.hll_base.specs.Reason.{number_of}
use Rattle.hll_sketch.specs.ByteRegisters.{TakesMaxWithImage}
use Rattle.hll_c.specs.Answers.{argument_with_image, image_refused}
use Rattle.hll_c.specs.ByteRegisters.{MergesImageInto, joined, coarser, refused}
use Rattle.hll_c.proofs.Images.{refuses_image}
use Rattle.hll_c.proofs.States.{no_memory}
use Rattle.hll_c.proofs.byte_registers.merge.Goals as goal

pub returns-in_default : goal.returns-in_default
returns-in_default c =
    subst (MergesImageInto c.args.image.now c.args.registers.now c.args.registers.now c.args.coarser.now c.args.coarser.now) (sym c.number.ensures)
    (refused (argument_with_image c.in_default.ensures.err.1) (λ same. absurd (no_memory same)) refl refl)

pub returns-in-Ok-None : goal.returns-in-Ok-None
returns-in-Ok-None c =
    joined c.in-Ok.ensures.ok (subst (TakesMaxWithImage c.in-Ok.lg_k c.args.image.now c.args.registers.now c.merge_image.new.registers) c.in-Ok-None.field-0-is c.in-Ok-None.ensures.ok) refl

pub returns-in-Ok-Some : goal.returns-in-Ok-Some
returns-in-Ok-Some c =
    coarser c.in-Ok.ensures.ok (subst (TakesMaxWithImage c.in-Ok.lg_k c.args.image.now c.args.registers.now c.merge_image.new.registers) c.in-Ok-Some.field-0-is c.in-Ok-Some.ensures.ok) refl

pub returns-in-Err : goal.returns-in-Err
returns-in-Err c =
    let says = c.in-Err.ensures in
    subst (MergesImageInto c.args.image.now c.args.registers.now c.merge_image.new.registers c.args.coarser.now c.args.coarser.now) (sym (c.number-in-Err.ensures ∙ ap number_of c.reason.ensures))
    (refused (image_refused (record { lg_k = c.in-Ok.lg_k; of = c.in-Ok.ensures.ok }) (refuses_image c.args.image.now c.in-Err.e says.err.first says.err.asked)) says.needed says.unchanged refl)
