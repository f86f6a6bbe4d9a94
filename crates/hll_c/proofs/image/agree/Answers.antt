-- SPDX-License-Identifier: Apache-2.0
use Rattle.std.proofs.Common.{◌≡◌, ℕ, List, [], ◌∷◌, true, refl, subst, sym, ◌∙◌}
use lib.Pointwise.{bytes_decides}
use Rattle.hll_base.proofs.Errors.{IfErr-passed}
use Rattle.hll_images.specs.BorrowedRegisters.{lg_k_of, values_of}
use Rattle.hll_sketch.specs.Image.{IsReadAs}
use Rattle.hll_base.specs.declared.error.Reason.{Reason}
use Rattle.hll_base.specs.declared.error.Reason.TheVariants.{Memory}
use Rattle.hll_c.specs.Answers.{RefusesImages, ArePlainAlike}
use Rattle.hll_c.proofs.Agreement.{bit_of, same_is_agreement, lie_alike}
use Rattle.hll_c.proofs.Images.{asked_after, refuses_first, refuses_more_memory, refuses_second}
use Rattle.hll_c.proofs.image.agree.Goals as goal

pub returns-in_err-check_at-clause-err : goal.returns-in_err-check_at-clause-err
returns-in_err-check_at-clause-err c =
    let all = c.args.left.now ∷ c.args.right.now ∷ [] in
    let e = c.in_err-check_at in
    IfErr-passed (RefusesImages (Unit {0}) all c.args.failed.now c.check_at.new.failed) c.from_residual.result e.field-0.0 c.from_residual.ensures.1
    (refuses_first (Unit {0}) all c.args.failed.now c.check_at.new.failed e.field-0.0 c.args.left.now (c.args.right.now ∷ []) refl tt e.ensures.err)

pub returns-then-eq-clause-ok : goal.returns-then-eq-clause-ok
returns-then-eq-clause-ok c =
    let found = c.in_ok-check_at.ensures.ok in
    let same : c.args.left.now ≡ c.args.right.now = (bytes_decides c.args.left.now c.args.right.now).0 (sym c.eq.ensures ∙ c.if-eq.true) in
    record {
      here = found.0.0;
      here_read = found.0.1;
      there = found.0.0;
      there_read = subst (λ b. IsReadAs b found.0.0) same found.0.1;
      answer = true;
      same_is = refl;
      is = (λ t. refl, λ agree. refl);
      untold = found.1;
    }

pub returns-in_err-left-clause-err : goal.returns-in_err-left-clause-err
returns-in_err-left-clause-err c =
    let all = c.args.left.now ∷ c.args.right.now ∷ [] in
    let e = c.in_err-left in
    IfErr-passed (RefusesImages (Unit {0}) all c.args.failed.now c.read_registers.new.failed) c.from_residual-in_err-left.result e.field-0.0 c.from_residual-in_err-left.ensures.1
    (refuses_first (Unit {0}) all c.args.failed.now c.read_registers.new.failed e.field-0.0 c.args.left.now (c.args.right.now ∷ []) refl tt e.ensures.err)

pub returns-in_err-right-clause-err : goal.returns-in_err-right-clause-err
returns-in_err-right-clause-err c =
    let all = c.args.left.now ∷ c.args.right.now ∷ [] in
    let e = c.in_err-right in
    let left = c.in_ok-left.ensures.ok in
    IfErr-passed (RefusesImages (Unit {0}) all c.args.failed.now c.read_registers-2.new.failed) c.from_residual-in_err-right.result e.field-0.0 c.from_residual-in_err-right.ensures.1
    (refuses_second (Unit {0}) all c.args.failed.now c.read_registers-2.new.failed e.field-0.0 c.args.left.now c.args.right.now left.0.sketch c.read_registers.new.failed refl tt
    left.0.read left.2 e.ensures.err)

pub returns-in_err-agrees_with-clause-err : goal.returns-in_err-agrees_with-clause-err
returns-in_err-agrees_with-clause-err c =
    let all = c.args.left.now ∷ c.args.right.now ∷ [] in
    let e = c.in_err-agrees_with in
    let left = c.in_ok-left.ensures.ok in
    let right = c.in_ok-right.ensures.ok in
    IfErr-passed (RefusesImages (Unit {0}) all c.args.failed.now _) c.from_residual-in_err-agrees_with.result e.field-0.0 c.from_residual-in_err-agrees_with.ensures.1
    (refuses_more_memory (Unit {0}) all c.args.failed.now _ e.field-0.0 2 e.ensures.err tt
    (asked_after all (left.0.sketch ∷ right.0.sketch ∷ []) (left.0.read, (right.0.read, tt))) (right.2 ∙ left.2))

pub returns-clause-ok : goal.returns-clause-ok
returns-clause-ok c =
    let left = c.in_ok-left.ensures.ok in
    let right = c.in_ok-right.ensures.ok in
    let same = same_is_agreement c.args.left.now c.args.right.now (lg_k_of c.in_ok-left.left) (lg_k_of c.in_ok-right.right) (values_of c.in_ok-left.left) (values_of c.in_ok-right.right) left.0 right.0 left.1.lg_k right.1.lg_k in
    record {
      here = left.0.sketch;
      here_read = left.0.read;
      there = right.0.sketch;
      there_read = right.0.read;
      answer = c.in_ok-agrees_with.field-0;
      same_is = c.from.ensures ∙ bit_of c.in_ok-agrees_with.field-0;
      is = (λ t. same.0 (c.in_ok-agrees_with.ensures.ok.0 t), λ agree. c.in_ok-agrees_with.ensures.ok.1 (same.1 agree));
      untold = right.2 ∙ left.2;
    }

-- why the comparison can't fail
abbrev Never : List ℕ → List ℕ → Reason → Type 0
Never left right e = e ≡ Memory → ArePlainAlike left right → ⊥

pub returns-in_err-check_at-clause-plain : goal.returns-in_err-check_at-clause-plain
returns-in_err-check_at-clause-plain c =
    IfErr-passed (Never c.args.left.now c.args.right.now) c.from_residual.result c.in_err-check_at.field-0.0 c.from_residual.ensures.1 (λ memory alike. c.in_err-check_at.ensures.plain memory alike.left_plain)

pub returns-in_err-left-clause-plain : goal.returns-in_err-left-clause-plain
returns-in_err-left-clause-plain c =
    IfErr-passed (Never c.args.left.now c.args.right.now) c.from_residual-in_err-left.result c.in_err-left.field-0.0 c.from_residual-in_err-left.ensures.1 (λ memory alike. c.in_err-left.ensures.plain memory alike.left_plain)

pub returns-in_err-right-clause-plain : goal.returns-in_err-right-clause-plain
returns-in_err-right-clause-plain c =
    IfErr-passed (Never c.args.left.now c.args.right.now) c.from_residual-in_err-right.result c.in_err-right.field-0.0 c.from_residual-in_err-right.ensures.1 (λ memory alike. c.in_err-right.ensures.plain memory alike.right_plain)

pub returns-in_err-agrees_with-clause-plain : goal.returns-in_err-agrees_with-clause-plain
returns-in_err-agrees_with-clause-plain c =
    let left = c.in_ok-left in
    let right = c.in_ok-right in
    IfErr-passed (Never c.args.left.now c.args.right.now) c.from_residual-in_err-agrees_with.result c.in_err-agrees_with.field-0.0 c.from_residual-in_err-agrees_with.ensures.1
    (λ memory alike. c.in_err-agrees_with.ensures.never (lie_alike c.args.left.now c.args.right.now left.left right.right left.ensures.ok.0 right.ensures.ok.0 left.ensures.width right.ensures.width alike))
