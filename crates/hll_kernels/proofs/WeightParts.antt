-- SPDX-License-Identifier: Apache-2.0
-- Lemmas on sums of weights in two parts.
use Rattle.std.proofs.Common.{◌≡◌, ℕ, ◌+◌, ◌-◌, ◌*◌, ◌%◌, ◌^◌, ◌<◌, ◌≤◌, ◌==◌, List, [], ◌∷◌, ◌++◌, length, length-append, get_or, All, true, false, inl, inr, refl, sym, ap, ◌∙◌, arith}
use Rattle.std.specs.Prelude.{if◌then◌else◌, nat_lt}
use Rattle.std.specs.Simd.Lanes.{sum_l}
use Rattle.std.proofs.Math.Nat.{mul-zero, mul-add}
use Rattle.std.proofs.Math.Pow.{pow_mono}
use Rattle.std.proofs.lemmas.Bool.{cases_lt, eqb-true, lt-ltb, le-ltb}
use Rattle.std.proofs.lemmas.List.Elements.{All-tail}
use Rattle.std.proofs.lemmas.Nat.{pow-add}
use Rattle.std.proofs.lemmas.List.Sums.{sum_by-cons, sum_by-append, sum_by-le}
use Rattle.hll_kernels.specs.declared.kernels.RunningSums.{RunningSums}
use Rattle.hll_kernels.specs.declared.kernels.WeightSums.{WeightSums}
use Rattle.hll_kernels.specs.Lanes.{window_weight, window_units}
use Rattle.hll_kernels.specs.Packed.{units, low_units, high_units}
use Rattle.hll_kernels.specs.WeightSums.{AreSumsOf, AreRunningSums}
use Rattle.hll_kernels.proofs.Weights.{below, window_units-le}
use mathlib.Core.List.{map}

abbrev pub low_weight : ℕ → ℕ
low_weight v = if nat_lt v 32 then (2 ^ (31 - v)) else 0

abbrev pub high_weight : ℕ → ℕ
high_weight v = if nat_lt v 32 then 0 else (2 ^ (63 - v))

-- ---- one value

by_parts : (v : ℕ) → v ≤ 63 → 2 ^ (63 - v) ≡ 4294967296 * low_weight v + high_weight v
by_parts v h = eqb-true _ _ (below (λ w. (2 ^ (63 - w)) == (4294967296 * low_weight w + high_weight w)) 64 refl v (omega arith))

low_weight-le : (v : ℕ) → low_weight v ≤ 2 ^ 31
low_weight-le v = elim (nat_lt v 32) as (λ b. (if b then (2 ^ (31 - v)) else 0) ≤ 2 ^ 31) [
  | true ↦ pow_mono (let less : 31 - v ≤ 31 = omega arith in less)
  | false ↦ omega arith
]

high_weight-le : (v : ℕ) → high_weight v ≤ 2 ^ 31
high_weight-le v = elim (cases_lt v 32) [
  | inl small ↦ rw (lt-ltb v 32 small) (omega arith)
  | inr large ↦ rw (le-ltb v 32 large) (pow_mono (let less : 63 - v ≤ 31 = omega arith in less))
]

-- ---- many values

pub units-parts : (R : List ℕ) → All (λ v. v ≤ 63) R → units R ≡ 4294967296 * low_units R + high_units R
units-parts [] h = refl
units-parts (v ∷ R) h =
    omega (arith, sum_by-cons (λ v. 2 ^ (63 - v)) v R, sum_by-cons low_weight v R, sum_by-cons high_weight v R, by_parts v (h 0 0 (omega arith)), units-parts R (All-tail (λ v. v ≤ 63) v R h))

-- ---- values that are less than sixteen above one of at most sixteen

high_weight-zero : (v : ℕ) → v < 32 → high_weight v ≡ 0
high_weight-zero v h = ap (λ b. if b then 0 else (2 ^ (63 - v))) (lt-ltb v 32 h)

shifted_weight : (l d : ℕ) → l ≤ 16 → d < 16 → low_weight (l + d) ≡ 2 ^ (16 - l) * window_weight d
shifted_weight l d few small =
    let power : 31 - (l + d) ≡ (16 - l) + (15 - d) = omega arith in
    ap (λ b. if b then (2 ^ (31 - (l + d))) else 0) (lt-ltb (l + d) 32 (omega arith)) ∙ ap (λ n. 2 ^ n) power ∙ pow-add 2 (16 - l) (15 - d)
    ∙ sym (ap (λ b. 2 ^ (16 - l) * (if b then (2 ^ (15 - d)) else 0)) (lt-ltb d 16 small))

low_units-shifted : (l : ℕ) (D : List ℕ) → l ≤ 16 → All (λ d. d < 16) D → low_units (map (λ d. l + d) D) ≡ 2 ^ (16 - l) * window_units D
low_units-shifted l [] few small = sym (mul-zero (2 ^ (16 - l)))
low_units-shifted l (d ∷ D) few small =
    sum_by-cons low_weight (l + d) (map (λ e. l + e) D)
    ∙ (λ i. shifted_weight l d few (small 0 0 (omega arith)) i + low_units-shifted l D few (All-tail (λ e. e < 16) d D small) i)
    ∙ sym (ap (λ n. 2 ^ (16 - l) * n) (sum_by-cons window_weight d D) ∙ mul-add (2 ^ (16 - l)) (window_weight d) (window_units D))

high_units-shifted : (l : ℕ) (D : List ℕ) → l ≤ 16 → All (λ d. d < 16) D → high_units (map (λ d. l + d) D) ≡ 0
high_units-shifted l [] few small = refl
high_units-shifted l (d ∷ D) few small =
    sum_by-cons high_weight (l + d) (map (λ e. l + e) D)
    ∙ (λ i. high_weight-zero (l + d) (let here : d < 16 = small 0 0 (omega arith) in omega arith) i + high_units-shifted l D few (All-tail (λ e. e < 16) d D small) i)

-- the sums of such values
pub AreSumsOf-shifted : (s : WeightSums) (l : ℕ) (R D : List ℕ) → R ≡ map (λ d. l + d) D → l ≤ 16 → All (λ d. d < 16) D → s.low ≡ 2 ^ (16 - l) * window_units D → s.high ≡ 0 → AreSumsOf s R
AreSumsOf-shifted s l R D is few small low high = record {
  low = low ∙ sym (ap low_units is ∙ low_units-shifted l D few small);
  high = high ∙ sym (ap high_units is ∙ high_units-shifted l D few small);
}

-- with the minimum 0
pub map-zero : (D : List ℕ) → D ≡ map (λ d. 0 + d) D
map-zero [] = refl
map-zero (d ∷ D) = let same : d ≡ 0 + d = omega arith in λ i. same i ∷ map-zero D i

-- with differences that wrap
pub map-differences : (l : ℕ) (R : List ℕ) → l ≤ 16 → All (λ v. v ≤ 63) R → All (λ d. d < 16) (map (λ v. (v + (256 - l)) % 256) R) → R ≡ map (λ d. l + d) (map (λ v. (v + (256 - l)) % 256) R)
map-differences l [] few most small = refl
map-differences l (v ∷ R) few most small =
    let value : v ≤ 63 = most 0 0 (omega arith) in
    let difference : (v + (256 - l)) % 256 < 16 = small 0 0 (omega arith) in
    let same : v ≡ l + (v + (256 - l)) % 256 = omega arith in
    λ i. same i ∷ map-differences l R few (All-tail (λ w. w ≤ 63) v R most) (All-tail (λ d. d < 16) ((v + (256 - l)) % 256) (map (λ w. (w + (256 - l)) % 256) R) small) i

-- ---- values by windows of sixteen

-- the difference of each value and a number, which wraps
abbrev above : ℕ → List ℕ → List ℕ
above l R = map (λ v. (v + (256 - l)) % 256) R

low_windows : (v : ℕ) → v ≤ 63 → 65536 * window_weight ((v + 256) % 256) + window_weight ((v + 240) % 256) ≡ low_weight v
low_windows v h = eqb-true _ _ (below (λ w. (65536 * window_weight ((w + 256) % 256) + window_weight ((w + 240) % 256)) == low_weight w) 64 refl v (omega arith))

high_windows : (v : ℕ) → v ≤ 63 → 65536 * window_weight ((v + 224) % 256) + window_weight ((v + 208) % 256) ≡ high_weight v
high_windows v h = eqb-true _ _ (below (λ w. (65536 * window_weight ((w + 224) % 256) + window_weight ((w + 208) % 256)) == high_weight w) 64 refl v (omega arith))

pub low_units-windows : (R : List ℕ) → All (λ v. v ≤ 63) R → 65536 * window_units (above 0 R) + window_units (above 16 R) ≡ low_units R
low_units-windows [] h = refl
low_units-windows (v ∷ R) h =
    omega (
      arith,
      sum_by-cons window_weight ((v + 256) % 256) (above 0 R),
      sum_by-cons window_weight ((v + 240) % 256) (above 16 R),
      sum_by-cons low_weight v R,
      low_windows v (h 0 0 (omega arith)),
      low_units-windows R (All-tail (λ w. w ≤ 63) v R h),
    )

pub high_units-windows : (R : List ℕ) → All (λ v. v ≤ 63) R → 65536 * window_units (above 32 R) + window_units (above 48 R) ≡ high_units R
high_units-windows [] h = refl
high_units-windows (v ∷ R) h =
    omega (
      arith,
      sum_by-cons window_weight ((v + 224) % 256) (above 32 R),
      sum_by-cons window_weight ((v + 208) % 256) (above 48 R),
      sum_by-cons high_weight v R,
      high_windows v (h 0 0 (omega arith)),
      high_units-windows R (All-tail (λ w. w ≤ 63) v R h),
    )

-- ---- bounds

pub low_units-le : (R : List ℕ) → low_units R ≤ length R * 2 ^ 31
low_units-le R = sum_by-le low_weight (2 ^ 31) R (λ k d l. low_weight-le (get_or R k d))

pub high_units-le : (R : List ℕ) → high_units R ≤ length R * 2 ^ 31
high_units-le R = sum_by-le high_weight (2 ^ 31) R (λ k d l. high_weight-le (get_or R k d))

-- the sums over registers and those after them
pub AreSumsOf-append : (a b s : WeightSums) (P Q : List ℕ) → AreSumsOf a P → AreSumsOf b Q → s.low ≡ a.low + b.low → s.high ≡ a.high + b.high → AreSumsOf s (P ++ Q)
AreSumsOf-append a b s P Q p q low high = record {
  low = omega (arith, low, p.low, q.low, sum_by-append low_weight P Q);
  high = omega (arith, high, p.high, q.high, sum_by-append high_weight P Q);
}

-- and they fit 64 bits when added
pub AreSumsOf-fits : (a b : WeightSums) (P Q R : List ℕ) → AreSumsOf a P → AreSumsOf b Q → R ≡ P ++ Q → length R ≤ 2 ^ 23 → (a.low + b.low < 2 ^ 64) × (a.high + b.high < 2 ^ 64)
AreSumsOf-fits a b P Q R p q is few = (
  omega (arith, p.low, q.low, sum_by-append low_weight P Q, ap low_units is, low_units-le R),
  omega (arith, p.high, q.high, sum_by-append high_weight P Q, ap high_units is, high_units-le R),
)

-- the sums over 2^21 registers are below 2^53
pub AreSumsOf-small : (s : WeightSums) (R : List ℕ) (k : ℕ) → AreSumsOf s R → length R ≡ 2 ^ k → k ≤ 21 → (s.low < 2 ^ 53) × (s.high < 2 ^ 53)
AreSumsOf-small s R k are size few =
    let less : 2 ^ k ≤ 2 ^ 21 = pow_mono few in
    (omega (arith, are.low, low_units-le R, size, less), omega (arith, are.high, high_units-le R, size, less))

-- ---- sums of which a part is in lanes

module _ (s : RunningSums) (R B : List ℕ) (are : AreRunningSums s R) where
  -- a block of small values in lanes
  module _ (small : All (λ v. v < 16) B) (U L : List ℕ) (units : 256 * sum_l U + sum_l L ≡ window_units B) where
    pub upper_fits : length R + length B ≤ 2 ^ 21 → sum_l s.upper + sum_l U < 2 ^ 32
    upper_fits few = omega (arith, are.low, low_units-le R, units, window_units-le B)

    pub lower_fits : length R + length B ≤ 2 ^ 21 → sum_l L ≤ 255 * length B → sum_l s.lower + sum_l L < 2 ^ 32
    lower_fits few bytes = omega (arith, are.lower_bytes, bytes)

    low_units-small : low_units B ≡ 65536 * window_units B
    low_units-small = ap low_units (map-zero B) ∙ low_units-shifted 0 B (omega arith) small

    high_units-small : high_units B ≡ 0
    high_units-small = ap high_units (map-zero B) ∙ high_units-shifted 0 B (omega arith) small

    pub AreRunningSums-windows : (t : RunningSums) → sum_l L ≤ 255 * length B → sum_l t.upper ≡ sum_l s.upper + sum_l U → sum_l t.lower ≡ sum_l s.lower + sum_l L → t.others ≡ s.others → length t.upper ≡ 8 → length t.lower ≡ 8
        → AreRunningSums t (R ++ B)
    AreRunningSums-windows t bytes upper lower others m n = record {
      low = omega (arith, upper, lower, ap (λ o. o.low) others, are.low, units, low_units-small, sum_by-append low_weight R B);
      high = omega (arith, ap (λ o. o.high) others, are.high, high_units-small, sum_by-append high_weight R B);
      lower_bytes = omega (arith, lower, are.lower_bytes, bytes, length-append R B);
      upper_lanes = m;
      lower_lanes = n;
    }

  -- any other block
  module _ (b : WeightSums) (sums : AreSumsOf b B) where
    pub others_fit : length R + length B ≤ 2 ^ 21 → (s.others.low + b.low < 2 ^ 64) × (s.others.high + b.high < 2 ^ 64)
    others_fit few = (
      omega (arith, are.low, low_units-le R, sums.low, low_units-le B),
      omega (arith, are.high, high_units-le R, sums.high, high_units-le B),
    )

-- the sums in lanes are below those of all values
pub lanes_fit : (s : RunningSums) (R : List ℕ) → AreRunningSums s R → length R ≤ 2 ^ 21 → (sum_l s.upper < 2 ^ 29) × (sum_l s.lower < 2 ^ 29) × (s.others.low ≤ 2 ^ 52)
lanes_fit s R are few = (omega (arith, are.low, low_units-le R), omega (arith, are.lower_bytes), omega (arith, are.low, low_units-le R))
