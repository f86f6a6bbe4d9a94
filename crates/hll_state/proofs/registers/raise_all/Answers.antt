-- SPDX-License-Identifier: Apache-2.0
use Rattle.std.proofs.Common.{◌≡◌, ℕ, ◌*◌, ◌∷◌, [], List, length, get_or, refl, sym, ap, ◌∙◌, arith}
use Rattle.hll_base.specs.Join.{join}
use Rattle.hll_base.proofs.Joins.{length-join}
use Rattle.hll_coupons.specs.Fold.{fold_to}
use Rattle.hll_coupons.specs.Pair.{set_of}
use Rattle.hll_coupons.proofs.Folds.{length-fold_to}
use Rattle.hll_state.specs.CouponRun.{raws}
use Rattle.hll_state.specs.Registers.{values}
use Rattle.hll_state.proofs.Promoting.{coupons_more, coupons_all}
use Rattle.hll_state.proofs.Raws.{length-raws, get_or-raws}
use Rattle.hll_state.proofs.Values.{length-values, four_each}
use Rattle.hll_state.proofs.registers.raise_all.Goals as goal

pub loop-coupon-init : goal.loop-coupon-init
loop-coupon-init c = (length-values c.args.elements.now c.told-elements ∙ ap (λ n. 4 * n) c.requires.size ∙ four_each c.args.lg_k c.requires.least, refl, λ are. are)

pub loop-coupon-preserved : goal.loop-coupon-preserved
loop-coupon-preserved c =
    let k : ℕ = c.args.lg_k in
    let coupons : List (List ℕ) = c.args.coupons.now in
    let i : ℕ = c.loop-coupon.coupon-index in
    let now : List ℕ = values c.loop-coupon.elements in
    let raw : ℕ = get_or (raws coupons) i 0 in
    let one : List ℕ = fold_to (set_of (raw ∷ [])) k in
    let raised : values c.raise.new.elements ≡ join now one =
    c.raise.ensures.joined ∙ ap (λ n. join now (fold_to (set_of (n ∷ [])) k)) (c.from_le_bytes.ensures ∙ sym (get_or-raws coupons i 0 (omega (arith, c.loop-coupon-test.true)))) in (
      ap length raised ∙ length-join now one (c.loop-coupon.invariant.0 ∙ sym (length-fold_to (set_of (raw ∷ [])) k)) ∙ c.loop-coupon.invariant.0,
      coupons_more k now (values c.raise.new.elements) (raws coupons) i _ (omega (arith, c.loop-coupon-test.true, length-raws coupons)) c.loop-coupon.invariant.1 raised,
      λ are. c.raise.ensures.small (c.loop-coupon.invariant.2 are),
    )

pub returns-clause-joined : goal.returns-clause-joined
returns-clause-joined c =
    let coupons : List (List ℕ) = c.args.coupons.now in
    coupons_all c.args.lg_k (values c.loop-coupon.elements) (raws coupons) c.loop-coupon.coupon-index _ (omega (arith, c.loop-coupon-test.false, length-raws coupons))
    c.loop-coupon.invariant.0 c.loop-coupon.invariant.1
