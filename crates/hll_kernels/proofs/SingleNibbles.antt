-- SPDX-License-Identifier: Apache-2.0
-- Single nibbles of bytes, and nibbles that are lowered.
use Rattle.std.proofs.Common.{◌≡◌, ◌≢◌, ℕ, ◌+◌, ◌-◌, ◌*◌, ◌/◌, ◌%◌, ◌^◌, ◌<◌, ◌⊎◌, zero, suc, true, false, eqb, cond, List, [], ◌∷◌, All, length, map, get_or, refl, sym, ap, ◌∙◌, arith, inl, inr}
use Rattle.std.proofs.lemmas.Bool.{cases_Bool, cases_eq, cond-true, cond-false, eqb-true, eq-eqb, ne_eqb}
use Rattle.std.proofs.lemmas.List.{length-map, get_or-map}
use Rattle.std.proofs.lemmas.List.Elements.{All-tail, All-from_get_or}
use Rattle.std.proofs.lemmas.List.Sums.{sum_by-cons}
use Rattle.std.proofs.lemmas.Nat.{mod_below}
use Rattle.hll_kernels.specs.Packed.{lowered_by}
use Rattle.hll_kernels.specs.Packed.{nibble_at, lowered_nibble, lowered_byte, zero_nibbles}

-- the nibbles of further bytes
pub nibble_at-tail : (b : ℕ) (bs : List ℕ) (s : ℕ) → nibble_at (b ∷ bs) (suc (suc s)) ≡ nibble_at bs s
nibble_at-tail b bs s =
    let half : suc (suc s) / 2 ≡ suc (s / 2) = omega arith in
    let odd : suc (suc s) % 2 ≡ s % 2 = omega arith in
    λ i. get_or (b ∷ bs) (half i) 0 / 16 ^ odd i % 16

pub nibble_at-low : (b : ℕ) (bs : List ℕ) → nibble_at (b ∷ bs) 0 ≡ b % 16
nibble_at-low b bs = omega arith

pub nibble_at-high : (b : ℕ) (bs : List ℕ) → b < 256 → nibble_at (b ∷ bs) 1 ≡ b / 16
nibble_at-high b bs h = omega arith

not_zero : (n : ℕ) → n ≢ 0 → ◌≡◌ {A = ℕ} (cond (eqb n 0) 1 0) 0
not_zero n h = cond-false (eqb n 0) 1 0 (elim (cases_Bool (eqb n 0)) [ inl t ↦ absurd (h (eqb-true n 0 t)) | inr f ↦ f ])

-- no nibble is 0 if each is another number
pub none_zero : (bytes : List ℕ) → All (λ b. b < 256) bytes → ((s : ℕ) → s < 2 * length bytes → nibble_at bytes s ≢ 0) → zero_nibbles bytes ≡ 0
none_zero [] fits h = refl
none_zero (b ∷ bs) fits h =
    let below : b < 256 = fits 0 0 (omega arith) in
    let low : b % 16 ≢ 0 = λ z. h 0 (omega arith) (nibble_at-low b bs ∙ z) in
    let high : b / 16 ≢ 0 = λ z. h 1 (omega arith) (nibble_at-high b bs below ∙ z) in
    let rest : zero_nibbles bs ≡ 0 = none_zero bs (All-tail (λ b. b < 256) b bs fits) (λ s l z. h (suc (suc s)) (omega (arith, l)) (nibble_at-tail b bs s ∙ z)) in
    omega (arith, sum_by-cons (λ b. cond (eqb (b % 16) 0) 1 0) b bs, sum_by-cons (λ b. cond (eqb (b / 16) 0) 1 0) b bs, not_zero (b % 16) low, not_zero (b / 16) high, rest)

lowered_below : (n : ℕ) → n < 16 → lowered_nibble n < 16
lowered_below n h = elim (eqb n 15) as (λ b. cond b 15 (n - 1) < 16) [ true ↦ omega arith | false ↦ omega (arith, h) ]

-- a lowered byte has lowered nibbles
pub nibble_at-lowered : (bytes : List ℕ) → All (λ b. b < 256) bytes → (s : ℕ) → s < 2 * length bytes → nibble_at (map lowered_byte bytes) s ≡ lowered_nibble (nibble_at bytes s)
nibble_at-lowered [] fits s h = absurd (omega arith)
nibble_at-lowered (b ∷ bs) fits zero h =
    let low : lowered_nibble (b % 16) < 16 = lowered_below (b % 16) (omega arith) in
    let at : lowered_byte b % 16 ≡ lowered_nibble (b % 16) = parts (lowered_nibble (b % 16)) (lowered_nibble (b / 16)) low in
    nibble_at-low (lowered_byte b) (map lowered_byte bs) ∙ at ∙ ap lowered_nibble (sym (nibble_at-low b bs))
  where
    parts : (l u : ℕ) → l < 16 → (l + 16 * u) % 16 ≡ l
    parts l u h = omega (arith, h)
nibble_at-lowered (b ∷ bs) fits (suc zero) h =
    let below : b < 256 = fits 0 0 (omega arith) in
    let low : lowered_nibble (b % 16) < 16 = lowered_below (b % 16) (omega arith) in
    let high : lowered_nibble (b / 16) < 16 = lowered_below (b / 16) (omega (arith, below)) in
    nibble_at-high (lowered_byte b) (map lowered_byte bs) (whole (lowered_nibble (b % 16)) (lowered_nibble (b / 16)) low high)
    ∙ parts (lowered_nibble (b % 16)) (lowered_nibble (b / 16)) low ∙ ap lowered_nibble (sym (nibble_at-high b bs below))
  where
    parts : (l u : ℕ) → l < 16 → (l + 16 * u) / 16 ≡ u
    parts l u h = omega (arith, h)

    whole : (l u : ℕ) → l < 16 → u < 16 → l + 16 * u < 256
    whole l u h k = omega (arith, h, k)
nibble_at-lowered (b ∷ bs) fits (suc (suc s)) h =
    nibble_at-tail (lowered_byte b) (map lowered_byte bs) s ∙ nibble_at-lowered bs (All-tail (λ b. b < 256) b bs fits) s (omega (arith, h))
    ∙ ap lowered_nibble (sym (nibble_at-tail b bs s))

-- ---- several steps

pub lowered_by-mark : (d n : ℕ) → n ≡ 15 → lowered_by d n ≡ 15
lowered_by-mark d n e = cond-true (eqb n 15) 15 (n - d) (eq-eqb n 15 e)

pub lowered_by-other : (d n : ℕ) → n ≢ 15 → lowered_by d n ≡ n - d
lowered_by-other d n h = cond-false (eqb n 15) 15 (n - d) (ne_eqb n 15 h)

-- one more step
pub lowered_by-more : (i n : ℕ) → n < 16 → (n ≡ 15) ⊎ (i < n) → lowered_nibble (lowered_by i n) ≡ lowered_by (i + 1) n
lowered_by-more i n small h = elim (cases_eq n 15) [
  | inl e ↦ ap lowered_nibble (lowered_by-mark i n e) ∙ sym (lowered_by-mark (i + 1) n e)
  | inr other ↦
      let less : i < n = elim h [ inl e ↦ absurd (other e) | inr l ↦ l ] in
      let under : n - i ≢ 15 = λ e. omega (arith, e, other, small) in
      let step : n - i - 1 ≡ n - (i + 1) = omega arith in
      ap lowered_nibble (lowered_by-other i n other) ∙ cond-false (eqb (n - i) 15) 15 (n - i - 1) (ne_eqb (n - i) 15 under) ∙ step ∙ sym (lowered_by-other (i + 1) n other)
]

-- the nibble is above 0 before the last step
pub lowered_by-some : (i n : ℕ) → (n ≡ 15) ⊎ (i < n) → lowered_by i n ≢ 0
lowered_by-some i n h z = elim (cases_eq n 15) [
  | inl e ↦ let none : 15 ≡ 0 = sym (lowered_by-mark i n e) ∙ z in omega (arith, none)
  | inr other ↦ elim h [ inl e ↦ other e | inr l ↦ omega (arith, l, sym (lowered_by-other i n other) ∙ z) ]
]

pub nibble_at-small : (bytes : List ℕ) (s : ℕ) → nibble_at bytes s < 16
nibble_at-small bytes s = omega (arith, mod_below (get_or bytes (s / 2) 0 / 16 ^ (s % 2)) 16 (let some : 0 < 16 = omega arith in some))

-- ---- bytes stay bytes

lowered_fits : (b : ℕ) → b < 256 → lowered_byte b < 256
lowered_fits b h = whole (lowered_nibble (b % 16)) (lowered_nibble (b / 16)) (lowered_below (b % 16) (omega arith)) (lowered_below (b / 16) (omega (arith, h)))
  where
    whole : (l u : ℕ) → l < 16 → u < 16 → l + 16 * u < 256
    whole l u h k = omega (arith, h, k)

pub fits-lowered : (bytes : List ℕ) → All (λ b. b < 256) bytes → All (λ b. b < 256) (map lowered_byte bytes)
fits-lowered bytes fits = All-from_get_or (λ b. b < 256) (map lowered_byte bytes) 0 (λ i l.
    let inside : i < length bytes = omega (arith, l, length-map bytes lowered_byte) in
    let at : get_or (map lowered_byte bytes) i 0 ≡ lowered_byte (get_or bytes i 0) = get_or-map lowered_byte bytes i 0 0 inside in
    omega (arith, at, lowered_fits (get_or bytes i 0) (fits i 0 inside)))
