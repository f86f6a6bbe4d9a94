-- SPDX-License-Identifier: Apache-2.0
-- Registers that have these counts of values.
use Rattle.std.proofs.Common.{◌≡◌, ◌≢◌, arith, ℕ, suc, zero, ◌+◌, ◌-◌, ◌*◌, ◌/◌, ◌^◌, ◌<◌, ◌≤◌, true, false, if◌then◌else◌, nat_eq, List, [], ◌∷◌, length, get_or, drop, replicate, All, refl, sym, ◌∙◌, ap, subst}
use Rattle.std.proofs.Math.Nat.{mul-le-mul_left}
use Rattle.std.proofs.Math.Pow.{pow_mono}
use Rattle.std.specs.List.{count_by, sum, sum_by}
use Rattle.std.proofs.lemmas.Bool.Decides.{nat_tests}
use Rattle.std.proofs.lemmas.List.{length-append, length-replicate, drop_more, drop_all}
use Rattle.std.proofs.lemmas.List.Elements.{All-append, All-replicate, All-nil}
use Rattle.std.proofs.lemmas.List.Folds.{sum_by-replicate}
use Rattle.std.proofs.lemmas.List.Sums.{sum_by-append}
use Rattle.std.proofs.lemmas.Nat.{pow-add}
use Rattle.hll_kernels.specs.Packed.{units, AreRegisters}
use Rattle.hll_c.specs.Estimates.{registers_of_counts, AreTotalsOfCounts}
use Rattle.hll_c.specs.Info.{AreCountsOf}

-- a sum over the registers, of which n have the first value
pub sum_of_first : (f : ℕ → ℕ) (v n : ℕ) (counts : List ℕ) → sum_by f (registers_of_counts v (n ∷ counts)) ≡ n * f v + sum_by f (registers_of_counts (v + 1) counts)
sum_of_first f v n counts =
    sum_by-append f (replicate n v) (registers_of_counts (v + 1) counts) ∙ ap (λ s. s + sum_by f (registers_of_counts (v + 1) counts)) (sum_by-replicate f n v)

pub length_of_first : (v n : ℕ) (counts : List ℕ) → length (registers_of_counts v (n ∷ counts)) ≡ n + length (registers_of_counts (v + 1) counts)
length_of_first v n counts =
    length-append (replicate n v) (registers_of_counts (v + 1) counts) ∙ ap (λ s. s + length (registers_of_counts (v + 1) counts)) (length-replicate n v)

-- there are as many registers as the sum of the counts
pub length_of_counts : (v : ℕ) (counts : List ℕ) → length (registers_of_counts v counts) ≡ sum counts
length_of_counts v [] = refl
length_of_counts v (n ∷ counts) =
    let one : 0 + n ≡ n = omega arith in
    length_of_first v n counts ∙ ap (λ s. n + s) (length_of_counts (v + 1) counts) ∙ ap (λ m. m + sum counts) (sym one) ∙ sym (sum_by-append (λ x. x) (n ∷ []) counts)

-- ---- counted again

abbrev one_if : ℕ → ℕ → ℕ
one_if w r = if nat_eq r w then 1 else 0

is_other : (r w : ℕ) → r ≢ w → nat_eq r w ≡ false
is_other r w other = grind (arith, nat_tests)

is_same : (r w : ℕ) → r ≡ w → nat_eq r w ≡ true
is_same r w same = grind (arith, nat_tests)

-- a value below all of them
none_below : (w v : ℕ) (counts : List ℕ) → w < v → count_by (λ r. nat_eq r w) (registers_of_counts v counts) ≡ 0
none_below w v [] below = refl
none_below w v (n ∷ counts) below =
    sum_of_first (λ r. one_if w r) v n counts
    ∙ ap (λ b. n * (if b then 1 else 0) + count_by (λ r. nat_eq r w) (registers_of_counts (v + 1) counts)) (is_other v w (omega (arith, below)))
    ∙ ap (λ s. n * 0 + s) (none_below w (v + 1) counts (omega (arith, below)))
    ∙ (let e : n * 0 + 0 ≡ 0 = omega arith in e)

pub count_at : (v j : ℕ) (counts : List ℕ) → count_by (λ r. nat_eq r (v + j)) (registers_of_counts v counts) ≡ get_or counts j 0
count_at v j [] = refl
count_at v zero (n ∷ counts) =
    sum_of_first (λ r. one_if (v + 0) r) v n counts
    ∙ ap (λ b. n * (if b then 1 else 0) + count_by (λ r. nat_eq r (v + 0)) (registers_of_counts (v + 1) counts)) (is_same v (v + 0) (omega arith))
    ∙ ap (λ s. n * 1 + s) (none_below (v + 0) (v + 1) counts (omega arith))
    ∙ (let e : n * 1 + 0 ≡ n = omega arith in e)
count_at v (suc j) (n ∷ counts) =
    sum_of_first (λ r. one_if (v + suc j) r) v n counts
    ∙ ap (λ b. n * (if b then 1 else 0) + count_by (λ r. nat_eq r (v + suc j)) (registers_of_counts (v + 1) counts)) (is_other v (v + suc j) (omega arith))
    ∙ ap (λ w. n * 0 + count_by (λ r. nat_eq r w) (registers_of_counts (v + 1) counts)) (let e : v + suc j ≡ v + 1 + j = omega arith in e)
    ∙ ap (λ s. n * 0 + s) (count_at (v + 1) j counts)
    ∙ (let e : n * 0 + get_or counts j 0 ≡ get_or counts j 0 = omega arith in e)

pub counted : (counts : List ℕ) → AreCountsOf (registers_of_counts 0 counts) counts
counted counts = record {
  each = λ v small.
      let same : 0 + v ≡ v = omega arith in
      sym (subst (λ w. count_by (λ r. nat_eq r w) (registers_of_counts 0 counts) ≡ get_or counts v 0) same (count_at 0 v counts));
}

-- they are registers
pub small_registers : (v : ℕ) (counts : List ℕ) → v + length counts ≤ 64 → All (λ r. r ≤ 63) (registers_of_counts v counts)
small_registers v [] fits = All-nil (λ r. r ≤ 63)
small_registers v (n ∷ counts) fits =
    All-append (λ r. r ≤ 63) (replicate n v) (registers_of_counts (v + 1) counts) (All-replicate (λ r. r ≤ 63) n v (omega (arith, fits))) (small_registers (v + 1) counts (omega (arith, fits)))

-- ---- summed in turn

-- the counts before i were summed, and the rest are left
pub record SumsSoFar (counts : List ℕ) (total sum_of_units weight i : ℕ) : Type 0 where
  pub registers : total + length (registers_of_counts i (drop i counts)) ≡ length (registers_of_counts 0 counts)
  pub units_are : sum_of_units + units (registers_of_counts i (drop i counts)) ≡ units (registers_of_counts 0 counts)
  pub few : total ≤ 2 ^ 21
  pub bound : sum_of_units ≤ total * 2 ^ 63
  pub weight_is : i < 64 → weight ≡ 2 ^ (63 - i)

-- half of a power
half_of_power : (k w : ℕ) → w ≡ 2 ^ (k + 1) → w / 2 ≡ 2 ^ k
half_of_power k w is = let twice : 2 ^ (k + 1) ≡ 2 ^ k * 2 = pow-add 2 k 1 in omega (arith, is, twice)

nothing_more : (n : ℕ) → 0 + n ≡ n
nothing_more n = omega arith

pub sums_none : (counts : List ℕ) → SumsSoFar counts 0 0 (2 ^ 63) 0
sums_none counts = record { registers = nothing_more _; units_are = nothing_more _; few = omega arith; bound = omega arith; weight_is = λ _. refl }

module _ (counts : List ℕ) (total sum_of_units weight i n : ℕ) (so_far : SumsSoFar counts total sum_of_units weight i) (inside : i < length counts) (all : length counts ≡ 64) (is : n ≡ get_or counts i 0) where
  here : drop i counts ≡ n ∷ drop (i + 1) counts
  here = drop_more counts i 0 inside ∙ ap (λ m. m ∷ drop (i + 1) counts) (sym is)

  abbrev rest : List ℕ
  rest = registers_of_counts (i + 1) (drop (i + 1) counts)

  registers_here : length (registers_of_counts i (drop i counts)) ≡ n + length rest
  registers_here = ap (λ cs. length (registers_of_counts i cs)) here ∙ length_of_first i n (drop (i + 1) counts)

  units_here : units (registers_of_counts i (drop i counts)) ≡ n * 2 ^ (63 - i) + units rest
  units_here = ap (λ cs. units (registers_of_counts i cs)) here ∙ sum_of_first (λ v. 2 ^ (63 - v)) i n (drop (i + 1) counts)

  weight_here : weight ≡ 2 ^ (63 - i)
  weight_here = so_far.weight_is (omega (arith, inside, all))

  pub weight_small : n * weight ≤ n * 2 ^ 63
  weight_small = let most : 2 ^ (63 - i) ≤ 2 ^ 63 = pow_mono {i = 63 - i} {j = 63} (omega arith) in mul-le-mul_left n (omega (arith, weight_here, most))

  pub sums_more : total + n ≤ 2 ^ 21 → SumsSoFar counts (total + n) (sum_of_units + n * weight) (weight / 2) (i + 1)
  sums_more few = record {
    registers = omega (arith, so_far.registers, registers_here);
    units_are = let same : n * weight ≡ n * 2 ^ (63 - i) = ap (λ w. n * w) weight_here in omega (arith, so_far.units_are, units_here, same);
    few = few;
    bound = omega (arith, so_far.bound, weight_small);
    weight_is = λ more. half_of_power (63 - (i + 1)) weight (weight_here ∙ ap (λ k. 2 ^ k) (omega (arith, more)));
  }

  pub too_many : 2 ^ 21 < total + n → 2 ^ 21 < sum counts
  too_many many = omega (arith, many, so_far.registers, registers_here, length_of_counts 0 counts)

pub sums_all : (counts : List ℕ) (total sum_of_units weight i : ℕ) → SumsSoFar counts total sum_of_units weight i → length counts ≡ 64 → 64 ≤ i → AreTotalsOfCounts counts total sum_of_units
sums_all counts total sum_of_units weight i so_far all end =
    let none = drop_all i counts (omega (arith, all, end)) in
    let no_registers : length (registers_of_counts i (drop i counts)) ≡ 0 = ap (λ cs. length (registers_of_counts i cs)) none in
    let no_units : units (registers_of_counts i (drop i counts)) ≡ 0 = ap (λ cs. units (registers_of_counts i cs)) none in
    record {
      each_value = all;
      total_is = omega (arith, so_far.registers, no_registers, length_of_counts 0 counts);
      few = so_far.few;
      units_are = omega (arith, so_far.units_are, no_units);
    }

-- ---- registers of an lg_k

pub registers_are : (counts : List ℕ) (k : ℕ) → length counts ≡ 64 → sum counts ≡ 2 ^ k → AreRegisters k (registers_of_counts 0 counts)
registers_are counts k all is = record { size = length_of_counts 0 counts ∙ is; small = small_registers 0 counts (omega (arith, all)) }
