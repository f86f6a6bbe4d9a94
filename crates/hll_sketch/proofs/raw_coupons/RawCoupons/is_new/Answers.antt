-- SPDX-License-Identifier: Apache-2.0
use Rattle.std.proofs.Common.{◌≡◌, Bool, true, false, IsTrue, refl, sym, subst, ◌∙◌}
use Rattle.std.specs.FinSet.{contains-from_list_nat}
use Rattle.std.proofs.Math.Bool.{not}
use Rattle.std.proofs.lemmas.Bool.{true≢false}
use Rattle.hll_coupons.specs.Coupons.{raw_coupons}
use Rattle.hll_sketch.proofs.raw_coupons.RawCoupons.is_new.Goals as goal

-- the negation in both forms
lacks : (found : Bool) → (IsTrue (not found) → found ≡ false) × (found ≡ false → IsTrue (not found))
lacks true = (λ t. absurd (true≢false (sym t)), λ f. absurd (true≢false f))
lacks false = (λ t. refl, λ f. refl)

pub returns-else-not-marks-raw_coupon : goal.returns-else-not-marks-raw_coupon
returns-else-not-marks-raw_coupon c =
    subst (λ there. (IsTrue (not c.stands_before.result) → there ≡ false) × (there ≡ false → IsTrue (not c.stands_before.result)))
    (c.stands_before.ensures ∙ sym (contains-from_list_nat (raw_coupons c.args.index c.args.self.now.bytes.now) c.args.raw_coupon))
    (lacks c.stands_before.result)
