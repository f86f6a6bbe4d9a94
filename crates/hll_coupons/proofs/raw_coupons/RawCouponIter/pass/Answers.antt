-- SPDX-License-Identifier: Apache-2.0
use Rattle.std.proofs.Common.{◌≡◌, ℕ, ◌-◌, true, false, nat_eq, List, [], ◌∷◌, drop, get_or, Option, Some, None, sym, ap, subst, ◌∙◌}
use Rattle.std.specs.Option.{IfSome, IfNone, option_eq}
use Rattle.std.proofs.lemmas.Bool.{eqb-true, eq-eqb, true≢false}
use Rattle.std.proofs.lemmas.List.{take_rest}
use Rattle.hll_coupons.specs.Ascending.{without_first}
use Rattle.hll_coupons.specs.Coupons.{raw_coupons}
use Rattle.hll_coupons.proofs.Merging.{raw_coupons_without, without_other}
use Rattle.hll_coupons.proofs.raw_coupons.RawCouponIter.pass.Goals as goal

-- whether a first raw coupon is this one
module _ (xs : List ℕ) (w : ℕ) where
  is_first : (found : Option ℕ) → option_eq nat_eq found (Some w) ≡ true → IfSome found (λ x. xs ≡ x ∷ drop 1 xs) → xs ≡ w ∷ drop 1 xs
  is_first None same first = absurd (true≢false (sym same))
  is_first (Some x) same first = subst (λ y. xs ≡ y ∷ drop 1 xs) (eqb-true x w same) first

  is_not_first : (found : Option ℕ) → option_eq nat_eq found (Some w) ≡ false → IfSome found (λ x. xs ≡ x ∷ drop 1 xs) → IfNone found (xs ≡ []) → xs ≡ w ∷ drop 1 xs → ⊥
  is_not_first None other first none is = absurd (cc)
  is_not_first (Some x) other first none is = true≢false (sym (eq-eqb x w (ap (λ ys. get_or ys 0 0) (sym first ∙ is))) ∙ other)

pub returns-then-eq : goal.returns-then-eq
returns-then-eq c =
    let before : raw_coupons c.self.inside.count c.self.inside.bytes.now ≡ c.args.self.now = c.self.view_is in
    let first : c.args.self.now ≡ c.args.raw_coupon ∷ drop 1 c.args.self.now = is_first c.args.self.now c.args.raw_coupon c.first.result (sym c.eq.ensures ∙ c.if-eq.true) c.first.ensures.some in
    ap (raw_coupons (c.self.inside.count - 1)) (take_rest c.self.inside.bytes.now 4)
    ∙ raw_coupons_without c.self.inside.count c.args.raw_coupon c.self.inside.bytes.now (before ∙ first ∙ ap (λ xs. c.args.raw_coupon ∷ drop 1 xs) (sym before)) ∙ ap (without_first c.args.raw_coupon) before

pub returns-else-eq : goal.returns-else-eq
returns-else-eq c =
    without_other c.args.raw_coupon c.args.self.now (is_not_first c.args.self.now c.args.raw_coupon c.first.result (sym c.eq.ensures ∙ c.if-eq.false) c.first.ensures.some c.first.ensures.none)
