-- SPDX-License-Identifier: Apache-2.0
-- Lemmas on the 64 bits of binary64 numbers.
use Rattle.std.proofs.Common.{◌≡◌, ℕ, ◌+◌, ◌-◌, ◌*◌, ◌/◌, ◌%◌, ◌^◌, ◌<◌, ◌≤◌, suc, [], ◌∷◌, get_or, inl, inr, sym, ap, ◌∙◌, arith}
use Rattle.std.specs.Int.Count.{count_leading_zeros}
use Rattle.std.proofs.Math.Nat.{le_of_mul-le-mul_right, mul-le-mul_right, mul_assoc}
use Rattle.std.proofs.Math.Pow.{pow_mono}
use Rattle.std.proofs.lemmas.Bool.{cases_lt}
use Rattle.std.proofs.lemmas.Nat.{leading_top, pow-add, pow_pos}
use Rattle.hll_kernels.proofs.Grouping.{three}
use Rattle.hll_registers.specs.EstimatorFields.{IsNormal, IsBinary64, OneEstimatorState}

-- a number below 2^53, shifted so that its highest bit is bit 52
pub record IsShifted (n z : ℕ) : Type 0 where
  pub least : 11 ≤ z
  pub most : z ≤ 63
  pub low : 2 ^ 52 ≤ n * 2 ^ (z - 11)
  pub high : n * 2 ^ (z - 11) < 2 ^ 53

shifted : (n z j up : ℕ) → z + suc j ≡ 64 → j + up ≡ 52 → 2 ^ j ≤ n → n < 2 ^ suc j → (2 ^ 52 ≤ n * 2 ^ up) × (n * 2 ^ up < 2 ^ 53)
shifted n z j up all top low high =
    let first : 2 ^ j * 2 ^ up ≡ 2 ^ 52 = sym (pow-add 2 j up) ∙ ap (λ k. 2 ^ k) top in
    let second : 2 ^ suc j * 2 ^ up ≡ 2 ^ 53 = sym (pow-add 2 (suc j) up) ∙ ap (λ k. 2 ^ k) (let e : suc j + up ≡ 53 = omega arith in e) in
    let below : 2 ^ j * 2 ^ up ≤ n * 2 ^ up = mul-le-mul_right (2 ^ up) low in
    let above : (n + 1) * 2 ^ up ≤ 2 ^ suc j * 2 ^ up = mul-le-mul_right (2 ^ up) (let more : n + 1 ≤ 2 ^ suc j = omega arith in more) in
    (omega (arith, first, below), omega (arith, second, above, pow_pos up))

pub shifted_top : (n : ℕ) → 0 < n → n < 2 ^ 53 → IsShifted n (count_leading_zeros 64 n)
shifted_top n positive small =
    let z : ℕ = count_leading_zeros 64 n in
    let top = leading_top 64 n positive (omega arith) in
    let j : ℕ = top.0 in
    let last : j ≤ 52 = elim (cases_lt j 53) [
      | inl less ↦ omega arith
      | inr more ↦ let large : 2 ^ 53 ≤ 2 ^ j = pow_mono more in absurd (omega (arith, large, top.2))
    ] in
    let s = shifted n z j (z - 11) top.1 (omega (arith, top.1)) top.2 top.3 in
    record { least = omega (arith, top.1); most = omega (arith, top.1); low = s.0; high = s.1 }

-- the bits of a number by its exponent and its fraction
pub normal_word : (n s up E f word : ℕ) → up + (E + s) ≡ 1075 → 1 ≤ E → E ≤ 2046 → f < 2 ^ 52 → 2 ^ 52 + f ≡ n * 2 ^ up → word ≡ E * 2 ^ 52 + f → IsNormal word n s
normal_word n s up E f word sum least most small fraction is =
    let exponent : word / 2 ^ 52 ≡ E = omega arith in
    let rest : word % 2 ^ 52 ≡ f = omega arith in
    record {
      least = omega (arith, exponent);
      most = omega (arith, exponent);
      value =
          (λ i. (2 ^ 52 + rest i) * 2 ^ (exponent i + s))
          ∙ ap (λ m. m * 2 ^ (E + s)) fraction
          ∙ mul_assoc n (2 ^ up) (2 ^ (E + s))
          ∙ ap (λ p. n * p) (sym (pow-add 2 up (E + s)) ∙ ap (λ k. 2 ^ k) sum);
    }

-- ---- one representation, and one state

-- the product of a number of 53 bits and a power of two is larger for a larger power
smaller : (a b i j : ℕ) → a < 2 ^ 53 → 2 ^ 52 ≤ b → i < j → a * 2 ^ i < b * 2 ^ j
smaller a b i j short long less =
    let above : (a + 1) * 2 ^ i ≤ 2 ^ 53 * 2 ^ i = mul-le-mul_right (2 ^ i) (let next : a + 1 ≤ 2 ^ 53 = omega arith in next) in
    let between : 2 ^ (53 + i) ≤ 2 ^ (52 + j) = pow_mono (let sum : 53 + i ≤ 52 + j = omega arith in sum) in
    let below : 2 ^ 52 * 2 ^ j ≤ b * 2 ^ j = mul-le-mul_right (2 ^ j) long in
    omega (arith, above, between, below, pow-add 2 53 i, pow-add 2 52 j, pow_pos i)

same_power : (a b i j : ℕ) → 2 ^ 52 ≤ a → a < 2 ^ 53 → 2 ^ 52 ≤ b → b < 2 ^ 53 → a * 2 ^ i ≡ b * 2 ^ j → i ≡ j
same_power a b i j la ha lb hb e = elim (cases_lt i j) [
  | inl less ↦ absurd (let small = smaller a b i j ha lb less in omega (arith, small, e))
  | inr more ↦
      elim (cases_lt j i) [
        | inl less ↦ absurd (let small = smaller b a j i hb la less in omega (arith, small, e))
        | inr most ↦ omega arith
      ]
]

one_normal : (w v n s : ℕ) → IsNormal w n s → IsNormal v n s → w ≡ v
one_normal w v n s p q =
    let a : ℕ = 2 ^ 52 + w % 2 ^ 52 in
    let b : ℕ = 2 ^ 52 + v % 2 ^ 52 in
    let both : a * 2 ^ (w / 2 ^ 52 + s) ≡ b * 2 ^ (v / 2 ^ 52 + s) = p.value ∙ sym q.value in
    let powers : w / 2 ^ 52 + s ≡ v / 2 ^ 52 + s = same_power a b _ _ (omega arith) (omega arith) (omega arith) (omega arith) both in
    let same : a * 2 ^ (w / 2 ^ 52 + s) ≡ b * 2 ^ (w / 2 ^ 52 + s) = both ∙ ap (λ k. b * 2 ^ k) (sym powers) in
    let least : a ≤ b = le_of_mul-le-mul_right (omega (arith, same)) (pow_pos (w / 2 ^ 52 + s)) in
    let most : b ≤ a = le_of_mul-le-mul_right (omega (arith, same)) (pow_pos (w / 2 ^ 52 + s)) in
    omega (arith, powers, least, most)

-- a number has only one representation
pub one_word : (w v n s : ℕ) → IsBinary64 w n s → IsBinary64 v n s → w ≡ v
one_word w v n s p q = elim (cases_lt 0 n) [
  | inl some ↦ one_normal w v n s (p.normal some) (q.normal some)
  | inr none ↦ let e : n ≡ 0 = omega arith in p.zero e ∙ sym (q.zero e)
]

-- registers have one state that a composite estimator computes from
pub one_estimator_state : OneEstimatorState
one_estimator_state R s t p q =
    let hip : get_or s.words 0 0 ≡ get_or t.words 0 0 = p.hip ∙ sym q.hip in
    let low : get_or s.words 1 0 ≡ get_or t.words 1 0 = one_word _ _ _ 31 p.low q.low in
    let high : get_or s.words 2 0 ≡ get_or t.words 2 0 = one_word _ _ _ 63 p.high q.high in
    let words : s.words ≡ t.words = three s.words p.legal.three ∙ (λ i. hip i ∷ low i ∷ high i ∷ []) ∙ sym (three t.words q.legal.three) in
    let composite = p.composite ∙ sym q.composite in
    λ i. record { words = words i; out_of_order = composite i }
