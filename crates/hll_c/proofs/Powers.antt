-- SPDX-License-Identifier: Apache-2.0
-- Counts that are powers of two.
use Rattle.std.proofs.Common.{◌≡◌, ◌⊎◌, arith, ℕ, suc, ◌+◌, ◌-◌, ◌*◌, ◌<◌, ◌≤◌, ◌^◌, List, length, inl, inr, sym, subst, ap, ◌∙◌}
use Rattle.std.specs.Int.Count.{count_leading_zeros}
use Rattle.std.proofs.Math.Pow.{pow_mono}
use Rattle.std.proofs.lemmas.Bool.{cases_lt}
use Rattle.std.proofs.lemmas.Nat.{leading_top, pow-add, pow_pos}
use Rattle.hll_sketch.specs.Value.{IsLgK}
use Rattle.hll_c.specs.ByteRegisters.{IsLgKOf}

up : (i j : ℕ) → i ≤ j → 2 ^ i ≤ 2 ^ j
up i j h = pow_mono h

-- if a power of two is at least 2^j and less than 2^(j + 1), it is 2^j
same_power : (n j k : ℕ) → 2 ^ j ≤ n → n < 2 ^ (j + 1) → n ≡ 2 ^ k → j ≡ k
same_power n j k low high is = elim (cases_lt j k) [
  | inl less ↦ let more : 2 ^ (j + 1) ≤ 2 ^ k = up (j + 1) k (omega (arith, less)) in omega (arith, more, high, is)
  | inr least ↦ elim (cases_lt k j) [
    | inl more ↦ let less : 2 ^ (k + 1) ≤ 2 ^ j = up (k + 1) j (omega (arith, more)) in let next : 2 ^ (k + 1) ≡ 2 ^ k * 2 = pow-add 2 k 1 in omega (arith, less, next, low, is, pow_pos k)
    | inr most ↦ omega (arith, least, most)
  ]
]

-- registers have one lg_k
pub same_lg_k : (R : List ℕ) (j k : ℕ) → IsLgKOf R j → IsLgKOf R k → j ≡ k
same_lg_k R j k here there =
    let next : 2 ^ (j + 1) ≡ 2 ^ j * 2 = pow-add 2 j 1 in
    same_power (length R) j k (omega (arith, here.size)) (omega (arith, here.size, next, pow_pos j)) there.size

-- a power of two from 2^4 to 2^21 that is at most the number and more than half of it
pub record IsTop (n j : ℕ) : Type 0 where
  pub low : 4 ≤ j
  pub high : j ≤ 21
  pub least : 2 ^ j ≤ n
  pub most : n < 2 ^ (j + 1)

pub top_of : (n : ℕ) → 16 ≤ n → n ≤ 2097152 → IsTop n (63 - count_leading_zeros 64 n)
top_of n low high = of (leading_top 64 n (omega (arith, low)) (omega (arith, high)))
  where
    of : (j : ℕ) × (count_leading_zeros 64 n + suc j ≡ 64) × (2 ^ j ≤ n) × (n < 2 ^ suc j) → IsTop n (63 - count_leading_zeros 64 n)
    of found =
        let at : found.0 ≡ 63 - count_leading_zeros 64 n = omega (arith, found.1) in
        let next : suc found.0 ≡ (63 - count_leading_zeros 64 n) + 1 = omega (arith, at) in
        let least : 2 ^ (63 - count_leading_zeros 64 n) ≤ n = subst (λ j. 2 ^ j ≤ n) at found.2 in
        let most : n < 2 ^ (63 - count_leading_zeros 64 n + 1) = subst (λ j. n < 2 ^ j) next found.3 in
        record {
          low = elim (cases_lt (63 - count_leading_zeros 64 n) 4) [
            | inl less ↦ let small : 2 ^ (63 - count_leading_zeros 64 n + 1) ≤ 2 ^ 4 = up (63 - count_leading_zeros 64 n + 1) 4 (omega (arith, less)) in absurd (let no : ⊥ = omega (arith, small, most, low) in no)
            | inr is ↦ is
          ];
          high = elim (cases_lt 21 (63 - count_leading_zeros 64 n)) [
            | inl more ↦ let large : 2 ^ 22 ≤ 2 ^ (63 - count_leading_zeros 64 n) = up 22 (63 - count_leading_zeros 64 n) (omega (arith, more)) in absurd (let no : ⊥ = omega (arith, large, least, high) in no)
            | inr is ↦ is
          ];
          least = least;
          most = most;
        }

-- a number that is too small or too large
pub few_or_many : (n k : ℕ) → (n < 16) ⊎ (2097152 < n) → IsLgK k → n ≡ 2 ^ k → ⊥
few_or_many n k (inl few) is size = let least : 2 ^ 4 ≤ 2 ^ k = up 4 k is.low in let no : ⊥ = omega (arith, least, few, size) in no
few_or_many n k (inr many) is size = let most : 2 ^ k ≤ 2 ^ 21 = up k 21 is.high in let no : ⊥ = omega (arith, most, many, size) in no

-- a number that is not a power of two
pub no_power : (n j k : ℕ) → IsTop n j → (2 ^ j ≡ n → ⊥) → IsLgK k → n ≡ 2 ^ k → ⊥
no_power n j k top not is size = not (ap (λ m. 2 ^ m) (same_power n j k top.least top.most size) ∙ sym size)
