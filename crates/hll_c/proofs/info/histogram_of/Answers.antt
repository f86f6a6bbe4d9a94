-- SPDX-License-Identifier: Apache-2.0
use Rattle.std.proofs.Common.{◌≡◌, List, ℕ, subst, sym, ap, ◌∙◌}
use Rattle.hll_base.proofs.Errors.{IfErr-passed}
use Rattle.hll_base.specs.declared.error.Reason.{Reason}
use Rattle.hll_base.specs.declared.error.Reason.TheVariants.{Memory}
use Rattle.hll_coupons.proofs.Folds.{length-fold_to}
use Rattle.hll_coupons.proofs.Registers.{fold_to-pairs}
use Rattle.hll_coupons.specs.Fold.{fold_to, pairs}
use Rattle.hll_coupons.specs.Pair.{set_of}
use Rattle.hll_images.specs.BorrowedRegisters.{lg_k_of, values_of}
use Rattle.hll_sketch.specs.ByteRegisters.{AreRegistersOf}
use Rattle.hll_sketch.specs.Value.{pairs_of}
use Rattle.hll_c.specs.Answers.{RefusesImage}
use Rattle.hll_c.specs.Info.{AreCountsOf}
use Rattle.hll_c.proofs.Images.{refuses_image, refuses_memory}
use Rattle.hll_c.proofs.info.histogram_of.Goals.{in-Some+in_ok-nonzero_registers-in-Some, in-None+in_ok-folded_values-in-None}
use Rattle.hll_c.proofs.info.histogram_of.Goals as goal

-- an allocation that fails once the image was read
after_reading : (b : List ℕ) (k : ℕ) (R : List ℕ) (e : Reason) → AreRegistersOf b k R → e ≡ Memory → RefusesImage b e
after_reading b k R e of is = refuses_memory b of.sketch e of.read is

pub returns-in_err-registers-clause-err : goal.returns-in_err-registers-clause-err
returns-in_err-registers-clause-err c =
    let e = c.in_err-registers in
    IfErr-passed (RefusesImage c.args.image.now) c.from_residual.result e.field-0.0 c.from_residual.ensures.1 (refuses_image c.args.image.now e.field-0.0 e.ensures.err.first e.ensures.err.asked)

pub returns-in_err-nonzero_registers-in-Some-clause-err : goal.returns-in_err-nonzero_registers-in-Some-clause-err
returns-in_err-nonzero_registers-in-Some-clause-err c =
    let e = c.in_err-nonzero_registers-in-Some in
    IfErr-passed (RefusesImage c.args.image.now) c.from_residual-in_err-nonzero_registers-in-Some.result e.field-0.0 c.from_residual-in_err-nonzero_registers-in-Some.ensures.1 (after_reading c.args.image.now _ _ e.field-0.0 c.in_ok-registers.ensures.ok e.ensures.err)

pub returns-in_err-folded_values-in-None-clause-err : goal.returns-in_err-folded_values-in-None-clause-err
returns-in_err-folded_values-in-None-clause-err c =
    let e = c.in_err-folded_values-in-None in
    IfErr-passed (RefusesImage c.args.image.now) c.from_residual-in_err-folded_values-in-None.result e.field-0.0 c.from_residual-in_err-folded_values-in-None.ensures.1 (after_reading c.args.image.now _ _ e.field-0.0 c.in_ok-registers.ensures.ok e.ensures.err)

pub returns-clause-ok : goal.returns-clause-ok
returns-clause-ok c =
    let of = c.in_ok-registers.ensures.ok in
    let r = c.in_ok-registers.registers in
    let k : ℕ = c.lg_k-lg_k.result in
    let own : k ≡ lg_k_of r = c.lg_k-lg_k.ensures in
    let values : values_of r ≡ fold_to (pairs_of of.sketch) of.sketch.lg_k = of.are ∙ ap (fold_to (pairs_of of.sketch)) (sym of.lg_k) in
    elim c.match-coupons.branch [
      | in-Some+in_ok-nonzero_registers-in-Some w ↦
          let S = set_of w.in-Some.coupons.now.raw_coupons.items in
          let R : List ℕ = fold_to S k in
          let same : R ≡ values_of r = ap (fold_to S) own ∙ sym w.in-Some.ensures.values in
          let says : AreCountsOf R c.match-coupons.counts =
          subst (AreCountsOf R) (sym w.counts-is) (w.counts_of_nonzero-counts.ensures R (length-fold_to S k) (w.deref.ensures.value ∙ w.in_ok-nonzero_registers-in-Some.ensures.ok)) in
          record { sketch = of.sketch; read = of.read; says = subst (λ Q. AreCountsOf Q c.match-coupons.counts) (same ∙ values) says }
      | in-None+in_ok-folded_values-in-None w ↦
          let same : w.deref-in-None.result.now ≡ values_of r =
          w.deref-in-None.ensures.value ∙ w.in_ok-folded_values-in-None.ensures.ok ∙ ap (fold_to (pairs (values_of r))) own ∙ fold_to-pairs (values_of r) (lg_k_of r) c.in_ok-registers.ensures.whole.lg_k.high c.in_ok-registers.ensures.whole.size in
          record { sketch = of.sketch; read = of.read; says = subst (λ Q. AreCountsOf Q c.match-coupons.counts) (same ∙ values) (subst (AreCountsOf w.deref-in-None.result.now) (sym w.counts-is) w.counts_of-counts.ensures) }
    ]
