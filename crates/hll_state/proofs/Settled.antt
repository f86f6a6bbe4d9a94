-- SPDX-License-Identifier: Apache-2.0
-- Coupons that are settled.
use Rattle.std.proofs.Common.{◌≡◌, ℕ, ◌≤◌, List, length, take, refl, sym, ◌∙◌, arith}
use Rattle.std.specs.FinSet.{len}
use Rattle.std.specs.List.Sorted.{IsStrictlyIncreasing}
use Rattle.std.proofs.lemmas.List.{length-take-le}
use Rattle.hll_coupons.specs.Coupons.{IsAscending}
use Rattle.hll_coupons.specs.Pair.{Pairs}
use Rattle.hll_coupons.proofs.Ascending.{len-ascending}
use Rattle.hll_state.proofs.Raws.{length-raws}
use Rattle.hll_state.specs.CouponRun.{members, raws}
use Rattle.hll_state.specs.declared.run.CouponRun.{CouponRun}

-- their number is the number of members of their set
pub used_count : (n : ℕ) (body : List (List ℕ)) (S : Pairs) → n ≤ length body → IsAscending (take n (raws body)) S → n ≡ len S
used_count n body S within up = sym (length-take-le n (raws body) (omega (arith, within, length-raws body))) ∙ len-ascending (take n (raws body)) S up

pub resolved_count : (r : CouponRun) (body : List (List ℕ)) → r.used ≤ length body → IsStrictlyIncreasing (take r.used (raws body)) → r.used ≡ len (members r body)
resolved_count r body within up = used_count r.used body (members r body) within (record { increasing = up; members = refl })
