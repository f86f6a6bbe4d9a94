-- SPDX-License-Identifier: Apache-2.0
use Rattle.std.proofs.Common.{◌≡◌, ℕ, inl, inr, ◌∷◌, [], ap, subst, ◌∙◌}
use Rattle.std.proofs.Math.Nat.{mod-eq_of_lt}
use Rattle.std.proofs.lemmas.Result.{IfErr-weaker, on_ok_weaker}
use Rattle.hll_coupons.specs.Pair.{pair, set_of}
use Rattle.hll_sketch.specs.Adding.{add}
use Rattle.hll_text.specs.Step.{step_of, IsInRange}
use Rattle.hll_merge.specs.Stack.{ReplacesLast}
use Rattle.hll_merge.proofs.StackLemmas.{AllRepresent-nil, carries-coupon, carries-fold, above-plans}
use Rattle.hll_merge.proofs.stack.Stack.carry_out.Goals as goal

pub returns-in-Coupon-clause-ok : goal.returns-in-Coupon-clause-ok
returns-in-Coupon-clause-ok g c =
    let slot : ℕ = c.in-Coupon.slot in
    let value : ℕ = c.in-Coupon.value in
    let legal = subst (λ s. IsInRange (step_of s)) c.in-Coupon.is c.requires in
    let packed : c.pack.result ≡ pair slot value = c.pack.ensures ∙ ap (λ s. pair s value) (mod-eq_of_lt legal.0) in
    rw c.in-Coupon.is
    (on_ok_weaker c.add_coupon.result (λ u. carries-coupon c.args.self.now c.add_coupon.new.self slot value
    (subst (λ q. ReplacesLast c.args.self.now (λ x y. y ≡ add x (set_of (q ∷ []))) c.add_coupon.new.self) packed u)) c.add_coupon.ensures.ok)

pub returns-in-Coupon-clause-err : goal.returns-in-Coupon-clause-err
returns-in-Coupon-clause-err g c =
    rw c.in-Coupon.is
    (IfErr-weaker c.add_coupon.result _ _ (λ e r ts h. elim r [
      | inl m ↦ inl m
      | inr none ↦ inr (AllRepresent-nil c.args.self.now ts none.0 h, none.1)
    ]) c.add_coupon.ensures.err)

pub returns-in-Fold-clause-ok : goal.returns-in-Fold-clause-ok
returns-in-Fold-clause-ok g c =
    rw c.in-Fold.is (on_ok_weaker c.fold_last.result (carries-fold c.args.self.now c.fold_last.new.self c.in-Fold.lg_k) c.fold_last.ensures.ok)

pub returns-in-Fold-clause-err : goal.returns-in-Fold-clause-err
returns-in-Fold-clause-err g c =
    rw c.in-Fold.is
    (IfErr-weaker c.fold_last.result _ _ (λ e r ts h. elim r [
      | inl m ↦ inl m
      | inr (inl none) ↦ inr (inl (AllRepresent-nil c.args.self.now ts none.0 h, none.1))
      | inr (inr above) ↦ inr (inr (above-plans c.args.self.now ts c.in-Fold.lg_k h above.0, above.1))
    ]) c.fold_last.ensures.err)
