-- SPDX-License-Identifier: Apache-2.0
-- A run and its tail, after each step.
use Rattle.std.proofs.Common.{◌≡◌, ℕ, ◌+◌, ◌<◌, List, length, take, set, ap, ◌∙◌, arith}
use Rattle.std.specs.FinSet.{insert}
use Rattle.std.proofs.lemmas.List.{take_more_set}
use Rattle.hll_coupons.specs.Pair.{set_of}
use Rattle.hll_state.proofs.Sets.{set_of-push}
use Rattle.hll_state.specs.CouponRun.{members, raws}
use Rattle.hll_state.specs.declared.run.CouponRun.{CouponRun}
use Rattle.hll_state.proofs.Raws.{length-raws}

-- ---- one more coupon in the tail
module _ (r : CouponRun) (coupons new : List (List ℕ)) (raw : ℕ) (l : r.used < length coupons) (w : raws new ≡ set (raws coupons) r.used raw) where
  pub members-push : members (record { run = r.run; used = r.used + 1 }) new ≡ insert (members r coupons) raw
  members-push =
      ap (λ raws. set_of (take (r.used + 1) raws)) w ∙ ap set_of (take_more_set (raws coupons) r.used raw (omega (arith, l, length-raws coupons)))
      ∙ set_of-push (take r.used (raws coupons)) raw
