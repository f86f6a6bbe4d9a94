-- SPDX-License-Identifier: Apache-2.0
-- Lemmas on the bits of binary64.
use Rattle.std.proofs.Common.{◌≡◌, ℕ, suc, ◌+◌, ◌-◌, ◌*◌, ◌/◌, ◌%◌, ◌^◌, ◌<◌, ◌≤◌, sym, ap, ◌∙◌, inl, inr, arith}
use Rattle.std.specs.Int.Count.{count_leading_zeros}
use Rattle.std.proofs.Math.Nat.{mul-le-mul_right, pow-succ'}
use Rattle.std.proofs.Math.Pow.{pow_mono}
use Rattle.std.proofs.lemmas.Bool.{cases_lt, cases_eq}
use Rattle.std.proofs.lemmas.Bool.Decides.{nat_tests}
use Rattle.std.proofs.lemmas.Nat.{leading_top, pow-add, pow_pos, le-div, div_below, mod_below, div-add-mod'}
use Rattle.hll_estimate.specs.Double.{IsFinite, IsNearest, value_of}
use Rattle.hll_estimate.specs.Monotone.{DoublesNeverFall}
use Rattle.hll_estimate.specs.declared.estimate.Estimate.TheVariants.{Finite, Infinite}

-- ---- how many bits there are

-- n has b bits: 2^(b - 1) ≤ n < 2^b
pub record HasBits (n b : ℕ) : Type 0 where
  pub some : 1 ≤ b
  pub most : b ≤ 128
  pub low : 2 ^ (b - 1) ≤ n
  pub high : n < 2 ^ b

pub has_bits : (n : ℕ) → 0 < n → n < 2 ^ 128 → HasBits n (128 - count_leading_zeros 128 n)
has_bits n some small =
    let z : ℕ = count_leading_zeros 128 n in
    let top = leading_top 128 n some small in
    let j : ℕ = top.0 in
    let e : 128 - z ≡ suc j = omega (arith, top.1) in
    let before : 128 - z - 1 ≡ j = omega (arith, top.1) in
    record { some = omega (arith, e); most = omega arith; low = rw before top.2; high = rw e top.3 }

-- shifted up to 53 bits
pub shifted_up : (n b : ℕ) → HasBits n b → b ≤ 53 → (2 ^ 52 ≤ n * 2 ^ (53 - b)) × (n * 2 ^ (53 - b) < 2 ^ 53)
shifted_up n b h le =
    let first : 2 ^ (b - 1) * 2 ^ (53 - b) ≡ 2 ^ 52 = sym (pow-add 2 (b - 1) (53 - b)) ∙ ap (λ i. 2 ^ i) (let e : b - 1 + (53 - b) ≡ 52 = omega (arith, h.some) in e) in
    let second : 2 ^ b * 2 ^ (53 - b) ≡ 2 ^ 53 = sym (pow-add 2 b (53 - b)) ∙ ap (λ i. 2 ^ i) (let e : b + (53 - b) ≡ 53 = omega arith in e) in
    let below : 2 ^ (b - 1) * 2 ^ (53 - b) ≤ n * 2 ^ (53 - b) = mul-le-mul_right (2 ^ (53 - b)) h.low in
    let above : (n + 1) * 2 ^ (53 - b) ≤ 2 ^ b * 2 ^ (53 - b) = mul-le-mul_right (2 ^ (53 - b)) (let more : n + 1 ≤ 2 ^ b = omega (arith, h.high) in more) in
    (omega (arith, first, below), omega (arith, second, above, pow_pos (53 - b)))

-- shifted down to 53 bits
pub shifted_down : (n b : ℕ) → HasBits n b → 53 < b → (2 ^ 52 ≤ n / 2 ^ (b - 53)) × (n / 2 ^ (b - 53) < 2 ^ 53)
shifted_down n b h lt =
    let first : 2 ^ 52 * 2 ^ (b - 53) ≡ 2 ^ (b - 1) = sym (pow-add 2 52 (b - 53)) ∙ ap (λ i. 2 ^ i) (let e : 52 + (b - 53) ≡ b - 1 = omega arith in e) in
    let second : 2 ^ 53 * 2 ^ (b - 53) ≡ 2 ^ b = sym (pow-add 2 53 (b - 53)) ∙ ap (λ i. 2 ^ i) (let e : 53 + (b - 53) ≡ b = omega arith in e) in
    (le-div (2 ^ 52) n (2 ^ (b - 53)) (pow_pos (b - 53)) (omega (arith, first, h.low)), div_below n (2 ^ (b - 53)) (2 ^ 53) (pow_pos (b - 53)) (omega (arith, second, h.high)))

-- ---- numbers grow with their bits

value_normal : (w : ℕ) → 1 ≤ w / 2 ^ 52 → value_of w ≡ (2 ^ 52 + w % 2 ^ 52) * 2 ^ (w / 2 ^ 52)
value_normal w some = grind (arith, nat_tests)

value_subnormal : (w : ℕ) → w / 2 ^ 52 ≡ 0 → value_of w ≡ 2 * w
value_subnormal w none = grind (arith, nat_tests)

-- within one exponent
normal_within : (f g e v w : ℕ) → v ≡ (2 ^ 52 + f) * 2 ^ e → w ≡ (2 ^ 52 + g) * 2 ^ e → f < g → v < w
normal_within f g e v w ev ew lt =
    let more : (2 ^ 52 + f + 1) * 2 ^ e ≤ (2 ^ 52 + g) * 2 ^ e = mul-le-mul_right (2 ^ e) (omega arith) in
    omega (arith, more, pow_pos e)

-- all of an exponent is below the next
normal_past : (f g e i v w : ℕ) → v ≡ (2 ^ 52 + f) * 2 ^ e → w ≡ (2 ^ 52 + g) * 2 ^ i → f < 2 ^ 52 → e < i → v < w
normal_past f g e i v w ev ew small lt =
    let twice : 2 ^ suc e ≡ 2 * 2 ^ e = pow-succ' 2 e in
    let more : 2 ^ suc e ≤ 2 ^ i = pow_mono lt in
    let one : (2 ^ 52 + f + 1) * 2 ^ e ≤ 2 ^ 53 * 2 ^ e = mul-le-mul_right (2 ^ e) (omega arith) in
    let two : 2 ^ 52 * 2 ^ i ≤ (2 ^ 52 + g) * 2 ^ i = mul-le-mul_right (2 ^ i) (omega arith) in
    omega (arith, one, two, twice, more, pow_pos e)

past_subnormal : (f i v w : ℕ) → v < 2 ^ 53 → w ≡ (2 ^ 52 + f) * 2 ^ i → 1 ≤ i → v < w
past_subnormal f i v w small ew some =
    let more : 2 ^ 1 ≤ 2 ^ i = pow_mono some in
    let two : 2 ^ 52 * 2 ^ i ≤ (2 ^ 52 + f) * 2 ^ i = mul-le-mul_right (2 ^ i) (omega arith) in
    omega (arith, two, more)

pub value_rises : (v w : ℕ) → v < w → value_of v < value_of w
value_rises v w lt = elim (cases_eq (v / 2 ^ 52) 0) [
  | inl low ↦ elim (cases_eq (w / 2 ^ 52) 0) [
    | inl both ↦ omega (arith, value_subnormal v low, value_subnormal w both)
    | inr high ↦ past_subnormal (w % 2 ^ 52) (w / 2 ^ 52) (value_of v) (value_of w) (omega (arith, value_subnormal v low)) (value_normal w (omega arith)) (omega arith)
  ]
  | inr some ↦ elim (cases_lt (v / 2 ^ 52) (w / 2 ^ 52)) [
    | inl less ↦ normal_past (v % 2 ^ 52) (w % 2 ^ 52) (v / 2 ^ 52) (w / 2 ^ 52) (value_of v) (value_of w) (value_normal v (omega arith)) (value_normal w (omega arith)) (omega arith) less
    | inr more ↦
        let same : w / 2 ^ 52 ≡ v / 2 ^ 52 = omega arith in
        normal_within (v % 2 ^ 52) (w % 2 ^ 52) (v / 2 ^ 52) (value_of v) (value_of w) (value_normal v (omega arith)) (value_normal w (omega arith) ∙ ap (λ e. (2 ^ 52 + w % 2 ^ 52) * 2 ^ e) same) (omega arith)
  ]
]

value_grows : (v w : ℕ) → v ≤ w → value_of v ≤ value_of w
value_grows v w le = elim (cases_eq v w) [
  | inl same ↦ rw same (omega arith)
  | inr other ↦ let less : value_of v < value_of w = value_rises v w (omega arith) in omega (arith, less)
]

-- ---- which of two neighbours is nearest

-- the lower neighbor is nearest if it is no farther than the upper one
pub nearest_lower : (w n : ℕ) → IsFinite w → value_of w ≤ n * 2 ^ 1043 → 2 * (n * 2 ^ 1043) ≤ value_of w + value_of (w + 1) →
    (2 * (n * 2 ^ 1043) ≡ value_of w + value_of (w + 1) → w % 2 ≡ 0) → IsNearest w n
nearest_lower w n fin low near tie = record {
  is_finite = fin;
  nearest = λ o f. elim (cases_lt w o) [
    | inl more ↦ let g : value_of (w + 1) ≤ value_of o = value_grows (w + 1) o (omega arith) in omega (arith, g, low, near)
    | inr less ↦ let g : value_of o ≤ value_of w = value_grows o w less in omega (arith, g, low)
  ];
  even = λ o f other same. elim (cases_lt w o) [
    | inl more ↦ let g : value_of (w + 1) ≤ value_of o = value_grows (w + 1) o (omega arith) in tie (omega (arith, g, low, near, same))
    | inr less ↦ let g : value_of o < value_of w = value_rises o w (omega (arith, other)) in absurd (omega (arith, g, low, same))
  ];
}

-- the upper neighbor is nearest if it is no farther than the lower one
pub nearest_upper : (w n : ℕ) → IsFinite (w + 1) → n * 2 ^ 1043 ≤ value_of (w + 1) → value_of w + value_of (w + 1) ≤ 2 * (n * 2 ^ 1043) →
    (2 * (n * 2 ^ 1043) ≡ value_of w + value_of (w + 1) → (w + 1) % 2 ≡ 0) → IsNearest (w + 1) n
nearest_upper w n fin high near tie = record {
  is_finite = fin;
  nearest = λ o f. elim (cases_lt w o) [
    | inl more ↦ let g : value_of (w + 1) ≤ value_of o = value_grows (w + 1) o (omega arith) in omega (arith, g, high)
    | inr less ↦ let g : value_of o ≤ value_of w = value_grows o w less in omega (arith, g, high, near)
  ];
  even = λ o f other same. elim (cases_lt w o) [
    | inl more ↦ let g : value_of (w + 1) < value_of o = value_rises (w + 1) o (omega (arith, other)) in absurd (omega (arith, g, high, same))
    | inr less ↦ let g : value_of o ≤ value_of w = value_grows o w less in tie (omega (arith, g, high, near, same))
  ];
}

-- 0 is exact
pub nearest_zero : (n : ℕ) → n ≡ 0 → IsNearest 0 n
nearest_zero n none =
    let value : value_of 0 ≡ 0 = value_subnormal 0 (omega arith) in
    let next : value_of (0 + 1) ≡ 2 = value_subnormal (0 + 1) (omega arith) in
    nearest_lower 0 n (omega arith) (omega (arith, value)) (omega (arith, value, next, none)) (λ tie. omega arith)

-- ---- the bits of 53 bits

-- the number of an exponent and of what was kept, of 53 bits or 2^53
value_kept : (w e K : ℕ) → w ≡ e * 2 ^ 52 + (K - 2 ^ 52) → 2 ^ 52 ≤ K → K ≤ 2 ^ 53 → 1 ≤ e → value_of w ≡ K * 2 ^ e
value_kept w e K is low high some = elim (cases_lt K (2 ^ 53)) [
  | inl less ↦
      let exponent : w / 2 ^ 52 ≡ e = omega arith in
      let rest : 2 ^ 52 + w % 2 ^ 52 ≡ K = omega arith in
      value_normal w (omega (arith, exponent)) ∙ (λ i. rest i * 2 ^ (exponent i))
  | inr more ↦
      let exponent : w / 2 ^ 52 ≡ e + 1 = omega arith in
      let rest : 2 ^ 52 + w % 2 ^ 52 ≡ 2 ^ 52 = omega arith in
      let twice : 2 ^ (e + 1) ≡ 2 ^ e * 2 ^ 1 = pow-add 2 e 1 in
      let all : K ≡ 2 ^ 53 = omega arith in
      value_normal w (omega (arith, exponent)) ∙ (λ i. rest i * 2 ^ (exponent i)) ∙ (let f : 2 ^ 52 * 2 ^ (e + 1) ≡ 2 ^ 53 * 2 ^ e = omega (arith, twice) in f) ∙ ap (λ x. x * 2 ^ e) (sym all)
]

-- the number is exact
pub nearest_exact : (w n b : ℕ) → HasBits n b → b ≤ 53 → w ≡ (b + 990) * 2 ^ 52 + (n * 2 ^ (53 - b) - 2 ^ 52) → IsNearest w n
nearest_exact w n b h le is =
    let s = shifted_up n b h le in
    let exact : 2 ^ (53 - b) * 2 ^ (b + 990) ≡ 2 ^ 1043 = sym (pow-add 2 (53 - b) (b + 990)) ∙ ap (λ i. 2 ^ i) (let e : 53 - b + (b + 990) ≡ 1043 = omega arith in e) in
    let whole : n * (2 ^ (53 - b) * 2 ^ (b + 990)) ≡ n * 2 ^ 1043 = ap (λ x. n * x) exact in
    let value : value_of w ≡ n * 2 ^ (53 - b) * 2 ^ (b + 990) = value_kept w (b + 990) (n * 2 ^ (53 - b)) is s.0 (omega (arith, s.1)) (omega arith) in
    let more : value_of w < value_of (w + 1) = value_rises w (w + 1) (omega arith) in
    nearest_lower w n (omega (arith, is, s.1, h.most)) (omega (arith, value, whole)) (omega (arith, value, whole, more)) (λ tie. absurd (omega (arith, value, whole, more, tie)))

-- the two neighbors of a number of more bits
record AreNeighbours (w n b r : ℕ) : Type 0 where
  pub lower : value_of w + r * 2 ^ 1043 ≡ n * 2 ^ 1043
  pub upper : value_of (w + 1) ≡ value_of w + 2 ^ (b - 53) * 2 ^ 1043
  pub finite : (w + 1) / 2 ^ 52 ≤ 2046
  pub parity : w % 2 ≡ n / 2 ^ (b - 53) % 2
  pub rest : r < 2 ^ (b - 53)

neighbours : (w n b : ℕ) → HasBits n b → 53 < b → w ≡ (b + 990) * 2 ^ 52 + (n / 2 ^ (b - 53) - 2 ^ 52) → AreNeighbours w n b (n % 2 ^ (b - 53))
neighbours w n b h lt is =
    let p : ℕ = 2 ^ (b - 53) in
    let K : ℕ = n / p in
    let s = shifted_down n b h lt in
    let parts : K * p + n % p ≡ n = div-add-mod' n p in
    let split : 2 ^ (b + 990) ≡ p * 2 ^ 1043 = ap (λ i. 2 ^ i) (let e : b + 990 ≡ b - 53 + 1043 = omega arith in e) ∙ pow-add 2 (b - 53) 1043 in
    let value : value_of w ≡ K * 2 ^ (b + 990) = value_kept w (b + 990) K is s.0 (omega (arith, s.1)) (omega arith) in
    let next : value_of (w + 1) ≡ (K + 1) * 2 ^ (b + 990) = value_kept (w + 1) (b + 990) (K + 1) (omega (arith, is, s.0)) (omega (arith, s.0)) (omega (arith, s.1)) (omega arith) in
    let kept : K * 2 ^ (b + 990) ≡ K * (p * 2 ^ 1043) = ap (λ x. K * x) split in
    let all : (K * p + n % p) * 2 ^ 1043 ≡ n * 2 ^ 1043 = ap (λ x. x * 2 ^ 1043) parts in
    record {
      lower = omega (arith, value, kept, all);
      upper = omega (arith, value, next, split);
      finite = omega (arith, is, s.1, h.most);
      parity = omega (arith, is, s.0);
      rest = mod_below n p (pow_pos (b - 53));
    }

half_is : (b : ℕ) → 53 < b → 2 ^ (b - 53) ≡ 2 * 2 ^ (b - 53 - 1)
half_is b lt = ap (λ i. 2 ^ i) (let e : b - 53 ≡ suc (b - 53 - 1) = omega arith in e) ∙ pow-succ' 2 (b - 53 - 1)

-- rounding down: below the half, and at the half if the lower neighbor is even
pub nearest_down : (w n b : ℕ) → HasBits n b → 53 < b → w ≡ (b + 990) * 2 ^ 52 + (n / 2 ^ (b - 53) - 2 ^ 52) → n % 2 ^ (b - 53) ≤ 2 ^ (b - 53 - 1) →
    (n % 2 ^ (b - 53) ≡ 2 ^ (b - 53 - 1) → n / 2 ^ (b - 53) % 2 ≡ 0) → IsNearest w n
nearest_down w n b h lt is rest tie =
    let a = neighbours w n b h lt is in
    let half = half_is b lt in
    nearest_lower w n (omega (arith, a.finite)) (omega (arith, a.lower)) (omega (arith, a.lower, a.upper, half, rest))
    (λ e. let t = tie (omega (arith, a.lower, a.upper, half, e)) in omega (arith, a.parity, t))

-- rounding up: above the half, and at the half if the lower neighbor is odd
pub nearest_up : (w n b : ℕ) → HasBits n b → 53 < b → w ≡ (b + 990) * 2 ^ 52 + (n / 2 ^ (b - 53) - 2 ^ 52) → 2 ^ (b - 53 - 1) ≤ n % 2 ^ (b - 53) →
    (n % 2 ^ (b - 53) ≡ 2 ^ (b - 53 - 1) → n / 2 ^ (b - 53) % 2 ≡ 1) → IsNearest (w + 1) n
nearest_up w n b h lt is rest tie =
    let a = neighbours w n b h lt is in
    let half = half_is b lt in
    nearest_upper w n a.finite (omega (arith, a.lower, a.upper, a.rest)) (omega (arith, a.lower, a.upper, half, rest))
    (λ e. let t = tie (omega (arith, a.lower, a.upper, half, e)) in omega (arith, a.parity, t))

-- ---- the nearest number never falls

-- of two numbers the upper one is no farther, so what is between them is at least half way; and where the lower one is no
-- farther, at most half way
upper_near : (u v n : ℕ) → u < v → v - n + (n - v) ≤ u - n + (n - u) → u + v ≤ 2 * n
upper_near u v n lt near = omega arith

lower_near : (u v n : ℕ) → u < v → u - n + (n - u) ≤ v - n + (n - v) → 2 * n ≤ u + v
lower_near u v n lt near = omega arith

half_way : (u v n : ℕ) → u < v → 2 * n ≡ u + v → u - n + (n - u) ≡ v - n + (n - v)
half_way u v n lt tie = omega arith

-- a number between them is nearer
between_near : (u w v n : ℕ) → u < w → w < v → 2 * n ≡ u + v → w - n + (n - w) < v - n + (n - v)
between_near u w v n less more tie = omega arith

two_apart : (b c : ℕ) → c < b → b % 2 ≡ 0 → c % 2 ≡ 0 → c + 1 < b
two_apart b c lt even other = omega arith

pub nearest_never_falls : (b c m n : ℕ) → IsNearest b m → IsNearest c n → m ≤ n → b ≤ c
nearest_never_falls b c m n is other le = elim (cases_lt c b) [
  | inl lt ↦
      let u : ℕ = value_of c in
      let v : ℕ = value_of b in
      let less : u < v = value_rises c b lt in
      let low : u + v ≤ 2 * (m * 2 ^ 1043) = upper_near u v (m * 2 ^ 1043) less (is.nearest c other.is_finite) in
      let high : 2 * (n * 2 ^ 1043) ≤ u + v = lower_near u v (n * 2 ^ 1043) less (other.nearest b is.is_finite) in
      let tie : 2 * (m * 2 ^ 1043) ≡ u + v = omega (arith, low, high, le) in
      let same : 2 * (n * 2 ^ 1043) ≡ u + v = omega (arith, low, high, le) in
      let even : b % 2 ≡ 0 = is.even c other.is_finite (omega (arith, lt)) (half_way u v (m * 2 ^ 1043) less tie) in
      let also : c % 2 ≡ 0 = other.even b is.is_finite (omega (arith, lt)) (sym (half_way u v (n * 2 ^ 1043) less same)) in
      let apart : c + 1 < b = two_apart b c lt even also in
      let finite : IsFinite (c + 1) = omega (arith, apart, is.is_finite) in
      absurd (omega (arith, is.nearest (c + 1) finite, between_near u (value_of (c + 1)) v (m * 2 ^ 1043) (value_rises c (c + 1) (omega arith)) (value_rises (c + 1) b apart) tie))
  | inr more ↦ more
]

pub doubles_never_fall : DoublesNeverFall
doubles_never_fall b c (Finite m) (Finite n) is other le = nearest_never_falls b c m n is other le
doubles_never_fall b c (Finite m) Infinite is other le = omega (arith, is.is_finite, other)
doubles_never_fall b c Infinite (Finite n) is other le = absurd le
doubles_never_fall b c Infinite Infinite is other le = omega (arith, is, other)
