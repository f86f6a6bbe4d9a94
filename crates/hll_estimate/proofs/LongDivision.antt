-- SPDX-License-Identifier: Apache-2.0
-- Lemmas on long division: the remainder, and the part that is subtracted from it.
use Rattle.std.proofs.Common.{◌≡◌, ℕ, zero, suc, ◌+◌, ◌-◌, ◌*◌, ◌/◌, ◌%◌, ◌^◌, ◌<◌, ◌≤◌, sym, ap, ◌∙◌, inl, inr, arith}
use Rattle.std.specs.Int.Count.{count_leading_zeros}
use Rattle.std.proofs.Math.Nat.{div-mul-le_self, lt-div-mul-add, mul-le-mul_right, mul-le-mul_left, mod-eq-sub-div-mul, mod-eq_of_lt}
use Rattle.std.proofs.Math.Pow.{pow_mono}
use Rattle.std.proofs.lemmas.Bool.{cases_lt}
use Rattle.std.proofs.lemmas.Nat.{div_below, leading_top, pow-add, pow_pos, mul-le, div-mul-add}

-- the number of bits that the divisor can be shifted by, up to the highest bit of the dividend
abbrev pub shift_of : ℕ → ℕ → ℕ
shift_of n d = count_leading_zeros 128 d - count_leading_zeros 128 n

pub record AreAligned (n d : ℕ) : Type 0 where
  pub order : count_leading_zeros 128 n ≤ count_leading_zeros 128 d
  pub fits : d * 2 ^ shift_of n d < 2 ^ 128
  pub above : n < d * 2 ^ (shift_of n d + 1)

below_top : (d j s : ℕ) → d < 2 ^ suc j → d * 2 ^ s < 2 ^ (suc j + s)
below_top d j s lt =
    let more : (d + 1) * 2 ^ s ≤ 2 ^ suc j * 2 ^ s = mul-le-mul_right (2 ^ s) (omega arith) in
    omega (arith, more, pow-add 2 (suc j) s, pow_pos s)

pub aligned : (n d : ℕ) → 0 < d → d ≤ n → n < 2 ^ 128 → AreAligned n d
aligned n d some le small =
    let top = leading_top 128 n (omega arith) small in
    let bottom = leading_top 128 d some (omega arith) in
    let j : ℕ = top.0 in
    let i : ℕ = bottom.0 in
    let order : i ≤ j = elim (cases_lt j i) [
      | inl less ↦ let p : 2 ^ suc j ≤ 2 ^ i = pow_mono less in absurd (omega (arith, p, top.3, bottom.2))
      | inr more ↦ more
    ] in
    let s : ℕ = shift_of n d in
    let shift : i + s ≡ j = omega (arith, top.1, bottom.1, order) in
    let below : d * 2 ^ s < 2 ^ (suc i + s) = below_top d i s bottom.3 in
    let most : 2 ^ (suc i + s) ≤ 2 ^ 128 = pow_mono (let e : suc i + s ≤ 128 = omega (arith, shift, top.1) in e) in
    let split : 2 ^ suc j ≡ 2 ^ i * 2 ^ (s + 1) = ap (λ x. 2 ^ x) (let e : suc j ≡ i + (s + 1) = omega (arith, shift) in e) ∙ pow-add 2 i (s + 1) in
    let above : 2 ^ i * 2 ^ (s + 1) ≤ d * 2 ^ (s + 1) = mul-le-mul_right (2 ^ (s + 1)) bottom.2 in
    record { order = omega (arith, top.1, bottom.1, order); fits = omega (arith, below, most); above = omega (arith, top.3, split, above) }

-- a part that is shifted by less also fits
pub part_fits : (n d e : ℕ) → AreAligned n d → e ≤ shift_of n d → (d * 2 ^ e) % 2 ^ 128 ≡ d * 2 ^ e
part_fits n d e a le =
    let p : 2 ^ e ≤ 2 ^ shift_of n d = pow_mono le in
    let q : d * 2 ^ e ≤ d * 2 ^ shift_of n d = mul-le-mul_left d p in
    let lt : d * 2 ^ e < 2 ^ 128 = omega (arith, q, a.fits) in
    mod-eq_of_lt lt

part_some : (d e : ℕ) → 0 < d → 0 < d * 2 ^ e
part_some d e some = let one : 1 * 1 ≤ d * 2 ^ e = mul-le 1 1 d (2 ^ e) some (pow_pos e) in omega (arith, one)

-- ---- a step

-- with e steps to go: the quotient so far, and the remainder
abbrev pub IsLeft : ℕ → ℕ → ℕ → ℕ → ℕ → Type 0
IsLeft n d e q r = (r < d * 2 ^ e) × (q * (d * 2 ^ e) + r ≡ n)

-- one step, where the part is p
next_part : (n d e q r : ℕ) → IsLeft n d (e + 1) q r → (r < 2 * (d * 2 ^ e)) × (q * 2 * (d * 2 ^ e) + r ≡ n)
next_part n d e q r a =
    let twice : d * 2 ^ (e + 1) ≡ 2 * (d * 2 ^ e) = let p : 2 ^ (e + 1) ≡ 2 ^ e * 2 ^ 1 = pow-add 2 e 1 in ap (λ x. d * x) p ∙ omega arith in
    let b : (r < 2 * (d * 2 ^ e)) × (q * (2 * (d * 2 ^ e)) + r ≡ n) = rw twice at a in
    (b.0, omega (arith, b.1))

pub taken : (n d e q r : ℕ) → IsLeft n d (e + 1) q r → d * 2 ^ e ≤ r → IsLeft n d e (q * 2 + 1) (r - d * 2 ^ e)
taken n d e q r a le = let b = next_part n d e q r a in (omega (arith, b.0, le), omega (arith, b.1, le))

pub not_taken : (n d e q r : ℕ) → IsLeft n d (e + 1) q r → r < d * 2 ^ e → IsLeft n d e (q * 2) r
not_taken n d e q r a lt = let b = next_part n d e q r a in (lt, b.1)

-- the quotient is at most the dividend
quotient_most : (n q p r : ℕ) → 0 < p → q * p + r ≡ n → q ≤ n
quotient_most n q p r some e = let le : q * 1 ≤ q * p = mul-le-mul_left q some in omega (arith, le)

pub quotient_fits : (n d e q r : ℕ) → 0 < d → IsLeft n d (e + 1) q r → q * 2 ≤ n
quotient_fits n d e q r some a = quotient_most n (q * 2) (d * 2 ^ e) r (part_some d e some) (next_part n d e q r a).1

pub next_quotient_fits : (n d e q r : ℕ) → 0 < d → IsLeft n d (e + 1) q r → d * 2 ^ e ≤ r → q * 2 + 1 ≤ n
next_quotient_fits n d e q r some a le = quotient_most n (q * 2 + 1) (d * 2 ^ e) (r - d * 2 ^ e) (part_some d e some) (taken n d e q r a le).1

-- ---- the end

pub quotient_of : (n d q r : ℕ) → q * d + r ≡ n → r < d → q ≡ n / d
quotient_of n d q r e lt = sym (div-mul-add q d r lt) ∙ ap (λ x. x / d) e

pub remainder_of : (n d q r : ℕ) → q * d + r ≡ n → r < d → r ≡ n % d
remainder_of n d q r e lt =
    let quotient : q * d ≡ n / d * d = ap (λ x. x * d) (quotient_of n d q r e lt) in
    let rest : n % d ≡ n - n / d * d = mod-eq-sub-div-mul n d in
    omega (arith, quotient, rest, e)

no_steps : (n d q r : ℕ) → IsLeft n d 0 q r → (q * d + r ≡ n) × (r < d)
no_steps n d q r a = let e : q * d ≡ q * (d * 2 ^ 0) = ap (λ x. q * x) (omega arith) in (ap (λ x. x + r) e ∙ a.1, omega (arith, a.0))

pub quotient_is : (n d q r : ℕ) → IsLeft n d 0 q r → q ≡ n / d
quotient_is n d q r a = let b = no_steps n d q r a in quotient_of n d q r b.0 b.1

pub remainder_is : (n d q r : ℕ) → IsLeft n d 0 q r → r ≡ n % d
remainder_is n d q r a = let b = no_steps n d q r a in remainder_of n d q r b.0 b.1

-- ---- the highest bits

below_power : (n : ℕ) → n < 2 ^ 128 → n < 2 ^ (128 - count_leading_zeros 128 n)
below_power zero small = pow_pos (128 - count_leading_zeros 128 zero)
below_power (suc n) small =
    let top = leading_top 128 (suc n) (omega arith) small in
    let e : 128 - count_leading_zeros 128 (suc n) ≡ suc top.0 = omega (arith, top.1) in
    rw e top.3

-- all bits but the highest `kept` are dropped
pub high_fits : (n m e width kept : ℕ) → n < 2 ^ 128 → m ≤ n → width + kept ≡ 128 → e ≡ width - count_leading_zeros 128 n → m / 2 ^ e < 2 ^ kept
high_fits n m e width kept small le whole is =
    let wide : 2 ^ (128 - count_leading_zeros 128 n) ≤ 2 ^ (kept + e) = pow_mono (omega (arith, whole, is)) in
    div_below m (2 ^ e) (2 ^ kept) (pow_pos e) (omega (arith, below_power n small, le, wide, pow-add 2 kept e))

-- a quotient of highest bits is at most the quotient: h units of A are at most n, g units of B at least d
digit_most : (n d h g q A B X : ℕ) → h * A ≤ n → d ≤ g * B → q * g ≤ h → X * B ≡ A → q * X * d ≤ n
digit_most n d h g q A B X high wide most is =
    let one : q * X * d ≤ q * X * (g * B) = mul-le-mul_left (q * X) wide in
    let two : q * g * (X * B) ≡ q * g * A = ap (λ x. q * g * x) is in
    let three : q * g * A ≤ h * A = mul-le-mul_right A most in
    omega (arith, one, two, three, high)

digit_least : (n d h g q p A B X : ℕ) → h * A ≤ n → d ≤ g * B → q * g ≤ h → X * A ≡ B → p * X ≤ q → p * d ≤ n
digit_least n d h g q p A B X high wide most is part =
    let one : p * d ≤ p * (g * B) = mul-le-mul_left p wide in
    let two : p * g * (X * A) ≡ p * g * B = ap (λ x. p * g * x) is in
    let three : g * A * (p * X) ≤ g * A * q = mul-le-mul_left (g * A) part in
    let four : q * g * A ≤ h * A = mul-le-mul_right A most in
    omega (arith, one, two, three, four, high)

-- the divisor is at most its highest bits, rounded up
rounded_up : (d b : ℕ) → 0 < d → d ≤ ((d - 1) / 2 ^ b + 1) * 2 ^ b
rounded_up d b some = let lt : d - 1 < (d - 1) / 2 ^ b * 2 ^ b + 2 ^ b = lt-div-mul-add (pow_pos b) in omega (arith, lt)

pub digit_up : (n d a b : ℕ) → 0 < d → b ≤ a → n / 2 ^ a / ((d - 1) / 2 ^ b + 1) * 2 ^ (a - b) * d ≤ n
digit_up n d a b some le =
    let whole : 2 ^ (a - b) * 2 ^ b ≡ 2 ^ a = sym (pow-add 2 (a - b) b) ∙ ap (λ i. 2 ^ i) (let e : a - b + b ≡ a = omega arith in e) in
    digit_most n d (n / 2 ^ a) ((d - 1) / 2 ^ b + 1) (n / 2 ^ a / ((d - 1) / 2 ^ b + 1)) (2 ^ a) (2 ^ b) (2 ^ (a - b)) (div-mul-le_self n (2 ^ a)) (rounded_up d b some)
    (div-mul-le_self (n / 2 ^ a) ((d - 1) / 2 ^ b + 1)) whole

pub digit_down : (n d a b : ℕ) → 0 < d → a < b → n / 2 ^ a / ((d - 1) / 2 ^ b + 1) / 2 ^ (b - a) * d ≤ n
digit_down n d a b some lt =
    let whole : 2 ^ (b - a) * 2 ^ a ≡ 2 ^ b = sym (pow-add 2 (b - a) a) ∙ ap (λ i. 2 ^ i) (let e : b - a + a ≡ b = omega arith in e) in
    let q : ℕ = n / 2 ^ a / ((d - 1) / 2 ^ b + 1) in
    digit_least n d (n / 2 ^ a) ((d - 1) / 2 ^ b + 1) q (q / 2 ^ (b - a)) (2 ^ a) (2 ^ b) (2 ^ (b - a)) (div-mul-le_self n (2 ^ a)) (rounded_up d b some)
    (div-mul-le_self (n / 2 ^ a) ((d - 1) / 2 ^ b + 1)) whole (div-mul-le_self q (2 ^ (b - a)))

-- a digit is at most the dividend
pub at_most : (q d n : ℕ) → 0 < d → q * d ≤ n → q ≤ n
at_most q d n some le = let one : q * 1 ≤ q * d = mul-le-mul_left q some in omega (arith, one, le)
