-- SPDX-License-Identifier: Apache-2.0
use Rattle.std.proofs.Common.{◌^◌, ◌++◌, drop, ◌∙◌, refl, sym, ap, subst, arith}
use Rattle.hll_coupons.specs.Fold.{fold_to, pairs}
use Rattle.hll_kernels.specs.Packed.{AreRegisters}
use Rattle.hll_c.specs.ByteRegisters.{FoldsInPlace, folded, fold_argument, fold_register}
use Rattle.hll_c.proofs.Answers.{not_so}
use Rattle.hll_c.proofs.Powers.{same_lg_k}
use Rattle.hll_c.proofs.byte_registers.fold.Goals as goal

pub returns-in_default : goal.returns-in_default
returns-in_default c =
    subst (FoldsInPlace c.args.to c.args.registers.now c.args.registers.now) (sym c.number.ensures) (fold_argument (λ are. c.in_default.ensures.err.1 are.kept) refl)

pub returns-in_default-lg_k_of_number : goal.returns-in_default-lg_k_of_number
returns-in_default-lg_k_of_number c =
    subst (FoldsInPlace c.args.to c.args.registers.now c.args.registers.now) (sym c.number-in_default-lg_k_of_number.ensures)
    (fold_argument (λ are. c.in_default-lg_k_of_number.ensures.outside.1 are.to_is) refl)

pub returns-then-lg_k-target : goal.returns-then-lg_k-target
returns-then-lg_k-target c =
    subst (FoldsInPlace c.args.to c.args.registers.now c.args.registers.now) (sym c.number-then-lg_k-target.ensures)
    (fold_argument (λ are.
    let no : ⊥ = omega (arith, c.if-lg_k-target.true, c.in-Ok-lg_k_of_number.ensures.ok.0, are.within, same_lg_k c.args.registers.now c.in-Ok.lg_k are.kept.lg_k c.in-Ok.ensures.ok are.kept.of) in no) refl)

pub returns-then-not-are_small : goal.returns-then-not-are_small
returns-then-not-are_small c =
    subst (FoldsInPlace c.args.to c.args.registers.now c.args.registers.now) (sym c.number-then-not-are_small.ensures)
    (fold_register c.in-Ok.ensures.ok c.in-Ok-lg_k_of_number.ensures.ok.1 (omega (arith, c.if-lg_k-target.false, c.in-Ok-lg_k_of_number.ensures.ok.0))
    (not_so c.are_small.result (AreRegisters c.in-Ok.lg_k c.args.registers.now) c.if-not-are_small.true c.are_small.ensures) refl)

pub returns : goal.returns
returns c =
    folded c.in-Ok.ensures.ok c.in-Ok-lg_k_of_number.ensures.ok.1 (omega (arith, c.if-lg_k-target.false, c.in-Ok-lg_k_of_number.ensures.ok.0))
    (c.are_small.ensures.0 c.if-not-are_small.false)
    (c.fold_in_place.ensures ∙ ap (λ t. fold_to (pairs c.args.registers.now) t ++ drop (2 ^ t) c.args.registers.now) c.in-Ok-lg_k_of_number.ensures.ok.0)
