-- SPDX-License-Identifier: Apache-2.0
-- The estimate in fixed point is near the exact one, by cases.
use Rattle.std.proofs.Common.{◌≡◌, ℕ, ◌+◌, ◌-◌, ◌*◌, ◌^◌, ◌≤◌, inl, inr, arith}
use Rattle.std.specs.Prelude.{max}
use Rattle.std.proofs.Math.Nat.{mul-le-mul_right}
use Rattle.std.proofs.lemmas.Bool.{cases_lt}
use Rattle.hll_estimate.specs.Estimate.{IsNear, IsFiniteEstimate, least_estimate, estimate_over, estimate_under}
use Rattle.hll_estimate.specs.FixedPoint.{AreBounded, raw_estimate_of}
use Rattle.hll_estimate.proofs.Nearness.{estimate_near}

-- if n is near a fraction, the maximum of n and a number is near the maximum of both
above_greater : (a l b n under over M : ℕ) → n * under * 2 ^ 40 ≤ over * (2 ^ 40 + 1) → over ≤ M → l * under ≤ M → b ≡ max n l → b * under * 2 ^ 40 ≤ M * (2 ^ 40 + 1)
above_greater a l b n under over M near first second is = elim (cases_lt n l) [
  | inl less ↦ let e : b ≡ l = omega (arith, is, less) in rw e (omega (arith, second))
  | inr more ↦ let e : b ≡ n = omega (arith, is, more) in rw e (omega (arith, near, first))
]

below_greater : (l b n under over : ℕ) → over * (2 ^ 40 - 1) ≤ (n + 1) * under * 2 ^ 40 → b ≡ max n l → max over (l * under) * (2 ^ 40 - 1) ≤ (b + 1) * under * 2 ^ 40
below_greater l b n under over near is =
    let first : (n + 1) * under ≤ (b + 1) * under = mul-le-mul_right under (omega (arith, is)) in
    let second : l * under ≤ (b + 1) * under = mul-le-mul_right under (omega (arith, is)) in
    elim (cases_lt over (l * under)) [
      | inl less ↦ let e : max over (l * under) ≡ l * under = omega (arith, less) in rw e (omega (arith, second))
      | inr more ↦ let e : max over (l * under) ≡ over = omega (arith, more) in rw e (omega (arith, near, first))
    ]

near_greater : (l n over under : ℕ) → IsNear n over under → IsNear (max n l) (max over (l * under)) under
near_greater l n over under a = record {
  fraction = a.fraction;
  not_above = above_greater 0 l (max n l) n under over (max over (l * under)) a.not_above (omega arith) (omega arith) (omega arith);
  not_below = below_greater l (max n l) n under over a.not_below (omega arith);
}

pub finite_means : (k c u : ℕ) → AreBounded k c u → IsFiniteEstimate k c u (max (raw_estimate_of k c u) (least_estimate k c))
finite_means k c u a = record {
  least = omega arith;
  near = λ t enough. near_greater (least_estimate k c) (raw_estimate_of k c u) (estimate_over t k) (estimate_under t k c u) (estimate_near t k c u enough a);
}
