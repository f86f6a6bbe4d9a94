-- SPDX-License-Identifier: Apache-2.0
-- Lemmas on sums of weights of nibbles above a minimum.
use Rattle.std.proofs.Common.{◌≡◌, ℕ, zero, suc, ◌+◌, ◌/◌, ◌%◌, ◌<◌, Bool, true, false, List, [], ◌∷◌, All, length, replicate, bit_and, refl, sym, ◌∙◌, arith}
use Rattle.std.specs.Prelude.{◌&&◌, nat_lt}
use Rattle.std.specs.List.{list_all}
use Rattle.std.specs.Simd.Lanes.{zip2}
use Rattle.std.proofs.Math.Nat.{zero-add}
use Rattle.std.proofs.lemmas.Bool.{lt-ltb}
use Rattle.std.proofs.lemmas.List.Sums.{sum_by-cons, list_all-from_AllPass}
use Rattle.std.proofs.lemmas.Nat.{and_mask}
use Rattle.hll_kernels.specs.declared.kernels.WeightSums.{WeightSums}
use Rattle.hll_kernels.specs.Lanes.{nibble_values}
use Rattle.hll_kernels.specs.Packed.{low_units, high_units}
use Rattle.hll_kernels.specs.WeightSums.{AreSumsOf}
use Rattle.hll_kernels.proofs.Weights.{All-below}
use Rattle.hll_kernels.proofs.WeightParts.{low_weight, high_weight}
use mathlib.Core.List.{map}

abbrev pub low_of : List ℕ → List ℕ
low_of B = map (λ b. b % 16) B

abbrev pub high_of : List ℕ → List ℕ
high_of B = map (λ b. b / 16) B

-- ---- lanes

pub low_lanes : (n : ℕ) (B : List ℕ) → length B ≡ n → zip2 bit_and B (replicate n 15) ≡ low_of B
low_lanes zero [] e = refl
low_lanes zero (b ∷ B) e = absurd (omega arith)
low_lanes (suc n) [] e = refl
low_lanes (suc n) (b ∷ B) e = λ i. and_mask b 4 i ∷ low_lanes n B (omega arith) i

-- ---- whether all are below a bound

swapped : (p q r s : Bool) → (p && (q && (r && s))) ≡ ((p && r) && (q && s))
swapped true true r s = refl
swapped true false true s = refl
swapped true false false s = refl
swapped false q r s = refl

list_all-nibble_values : (p : ℕ → Bool) (B : List ℕ) → list_all p (nibble_values 0 B) ≡ (list_all p (low_of B) && list_all p (high_of B))
list_all-nibble_values p [] = refl
list_all-nibble_values p (b ∷ B) =
    (λ i. p (zero-add (b % 16) i) && (p (zero-add (b / 16) i) && list_all-nibble_values p B i))
    ∙ swapped (p (b % 16)) (p (b / 16)) (list_all p (low_of B)) (list_all p (high_of B))

module _ (B : List ℕ) where
  abbrev AreUnmarked : Type 0
  AreUnmarked = All (λ n. n < 15) (nibble_values 0 B)

  parts : AreUnmarked → (list_all (λ n. nat_lt n 15) (low_of B) && list_all (λ n. nat_lt n 15) (high_of B)) ≡ true
  parts all = sym (list_all-nibble_values (λ n. nat_lt n 15) B) ∙ list_all-from_AllPass (λ n. nat_lt n 15) (nibble_values 0 B) (λ k d l. lt-ltb _ 15 (all k d l))

  pub marked : (list_all (λ n. nat_lt n 15) (low_of B) && list_all (λ n. nat_lt n 15) (high_of B)) ≡ false → AreUnmarked → false ≡ true
  marked some all = sym some ∙ parts all

  pub unmarked : (list_all (λ n. nat_lt n 15) (low_of B) && list_all (λ n. nat_lt n 15) (high_of B)) ≡ true → AreUnmarked
  unmarked none = All-below 15 (nibble_values 0 B) (list_all-nibble_values (λ n. nat_lt n 15) B ∙ none)

-- ---- sums

low_units-nibble_values : (m : ℕ) (B : List ℕ) → low_units (nibble_values m B) ≡ low_units (map (λ n. m + n) (low_of B)) + low_units (map (λ n. m + n) (high_of B))
low_units-nibble_values m [] = refl
low_units-nibble_values m (b ∷ B) =
    omega (
      arith,
      sum_by-cons low_weight (m + b % 16) ((m + b / 16) ∷ nibble_values m B),
      sum_by-cons low_weight (m + b / 16) (nibble_values m B),
      sum_by-cons low_weight (m + b % 16) (map (λ n. m + n) (low_of B)),
      sum_by-cons low_weight (m + b / 16) (map (λ n. m + n) (high_of B)),
      low_units-nibble_values m B,
    )

high_units-nibble_values : (m : ℕ) (B : List ℕ) → high_units (nibble_values m B) ≡ high_units (map (λ n. m + n) (low_of B)) + high_units (map (λ n. m + n) (high_of B))
high_units-nibble_values m [] = refl
high_units-nibble_values m (b ∷ B) =
    omega (
      arith,
      sum_by-cons high_weight (m + b % 16) ((m + b / 16) ∷ nibble_values m B),
      sum_by-cons high_weight (m + b / 16) (nibble_values m B),
      sum_by-cons high_weight (m + b % 16) (map (λ n. m + n) (low_of B)),
      sum_by-cons high_weight (m + b / 16) (map (λ n. m + n) (high_of B)),
      high_units-nibble_values m B,
    )

-- the sums over low nibbles and over high nibbles
pub AreSumsOf-nibbles : (a b s : WeightSums) (m : ℕ) (B : List ℕ) → AreSumsOf a (map (λ n. m + n) (low_of B)) → AreSumsOf b (map (λ n. m + n) (high_of B)) → s.low ≡ a.low + b.low → s.high ≡ a.high + b.high →
    AreSumsOf s (nibble_values m B)
AreSumsOf-nibbles a b s m B low high l h = record {
  low = omega (arith, l, low.low, high.low, low_units-nibble_values m B);
  high = omega (arith, h, low.high, high.high, high_units-nibble_values m B);
}
