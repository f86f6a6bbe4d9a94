-- SPDX-License-Identifier: Apache-2.0
-- Lemmas on sums of weights by windows of sixteen values.
use Rattle.std.proofs.Common.{◌≡◌, ℕ, ◌+◌, ◌-◌, ◌*◌, ◌/◌, ◌%◌, ◌^◌, ◌<◌, ◌≤◌, ◌==◌, zero, suc, List, [], ◌∷◌, ◌++◌, length, get_or, replicate, All, Bool, true, false, cond, bit_and, bit_or, T, inl, inr, refl, sym, ap, subst, ◌∙◌, arith, w8}
use Rattle.std.specs.Prelude.{◌||◌, nat_lt, sum_by, not}
use Rattle.std.specs.List.{list_all, range_with_len}
use Rattle.std.specs.Simd.Lanes.{zip2, Each1, sum_l}
use lib.Dec.{ltb}
use lib.Lanes.{products, pair_sums, dots, all_below}
use mir.Val.{Fits, zeroes}
use Rattle.std.proofs.Math.Nat.{mod-eq_of_lt, mul_comm}
use Rattle.std.proofs.Math.Pow.{pow_mono}
use Rattle.std.proofs.lemmas.Bool.{cases_lt, eqb-true, ltb-true, lt-ltb, le-ltb, le-leb, not-true}
use Rattle.std.proofs.lemmas.List.{get_or-map, length-map}
use Rattle.std.proofs.lemmas.List.Elements.{All-tail}
use Rattle.std.proofs.lemmas.List.FromFn.{length-range_with_len, get_or-range_with_len}
use Rattle.std.proofs.lemmas.List.Sums.{sum_by-cons, sum_by-le, AllPass-from_list_all}
use Rattle.std.proofs.lemmas.Nat.{mul-le}
use Rattle.std.proofs.lemmas.Simd.{swz_l, SwzOk, SwzOk-from_Each1, Each1-from_get_or, sum_dots, sum_by-ones, dot4_Fits}
use Rattle.hll_kernels.specs.Lanes.{window_weight, window_units, IsIndex}
use mathlib.Core.List.{map}

-- ---- one value

-- a test that all numbers below n pass
pub below : (p : ℕ → Bool) (n : ℕ) → list_all p (range_with_len 0 n) ≡ true → (v : ℕ) → v < n → p v ≡ true
below p n t v h =
    let at : get_or (range_with_len 0 n) v 0 ≡ v = omega (arith, get_or-range_with_len 0 n v 0 h) in
    subst (λ w. p w ≡ true) at (AllPass-from_list_all p (range_with_len 0 n) t v 0 (omega (arith, length-range_with_len 0 n)))

abbrev upper_byte : ℕ → ℕ
upper_byte v = window_weight v / 256

abbrev lower_byte : ℕ → ℕ
lower_byte v = window_weight v % 256

-- the weight is 0
none : (v : ℕ) → 16 ≤ v → window_weight v ≡ 0
none v h = ap (λ b. cond b (2 ^ (15 - v)) 0) (le-ltb v 16 h)

-- ---- looked up in tables

kept : (j x : ℕ) → j < 16 → cond (zeroes 16 w8 j) 0 x ≡ x
kept j x h = ap (λ b. cond b 0 x) (not-true (zeroes 16 w8 j) (below (λ i. not (zeroes 16 w8 i)) 16 refl j h))

cleared : (j x : ℕ) → 128 ≤ j → cond (zeroes 16 w8 j) 0 x ≡ 0
cleared j x h = ap (λ b. cond b 0 x) (le-leb 128 j h)

module _ (table : List ℕ) (f : ℕ → ℕ) (same : (q v : ℕ) → q < 4 → v < 16 → get_or table (16 * q + v) 0 ≡ f v) (others : (v : ℕ) → 16 ≤ v → f v ≡ 0) where
  entry : (i x : ℕ) → i < 64 → IsIndex x → cond (zeroes 16 w8 x) 0 (get_or table (16 * (i / 16) + x) 0) ≡ f x
  entry i x h is = elim is [
    | inl small ↦ kept x _ small ∙ same (i / 16) x (omega arith) small
    | inr large ↦ cleared x _ large ∙ sym (others x (omega arith))
  ]

  looked_up : (i : ℕ) (xs : List ℕ) → i + length xs ≤ 64 → All IsIndex xs → swz_l w8 16 table i xs ≡ map f xs
  looked_up i [] le all = refl
  looked_up i (x ∷ xs) le all = λ t. entry i x (omega arith) (all 0 0 (omega arith)) t ∷ looked_up (suc i) xs (omega arith) (All-tail IsIndex x xs all) t

abbrev upper_table : List ℕ
upper_table = 128 ∷ 64 ∷ 32 ∷ 16 ∷ 8 ∷ 4 ∷ 2 ∷ 1 ∷ 0 ∷ 0 ∷ 0 ∷ 0 ∷ 0 ∷ 0 ∷ 0 ∷ 0 ∷ 128 ∷ 64 ∷ 32 ∷ 16 ∷ 8 ∷ 4 ∷ 2 ∷ 1 ∷ 0 ∷ 0 ∷ 0 ∷ 0 ∷ 0 ∷ 0 ∷ 0 ∷ 0
    ∷ 128 ∷ 64 ∷ 32 ∷ 16 ∷ 8 ∷ 4 ∷ 2 ∷ 1 ∷ 0 ∷ 0 ∷ 0 ∷ 0 ∷ 0 ∷ 0 ∷ 0 ∷ 0 ∷ 128 ∷ 64 ∷ 32 ∷ 16 ∷ 8 ∷ 4 ∷ 2 ∷ 1 ∷ 0 ∷ 0 ∷ 0 ∷ 0 ∷ 0 ∷ 0 ∷ 0 ∷ 0 ∷ []

abbrev lower_table : List ℕ
lower_table = 0 ∷ 0 ∷ 0 ∷ 0 ∷ 0 ∷ 0 ∷ 0 ∷ 0 ∷ 128 ∷ 64 ∷ 32 ∷ 16 ∷ 8 ∷ 4 ∷ 2 ∷ 1 ∷ 0 ∷ 0 ∷ 0 ∷ 0 ∷ 0 ∷ 0 ∷ 0 ∷ 0 ∷ 128 ∷ 64 ∷ 32 ∷ 16 ∷ 8 ∷ 4 ∷ 2 ∷ 1
    ∷ 0 ∷ 0 ∷ 0 ∷ 0 ∷ 0 ∷ 0 ∷ 0 ∷ 0 ∷ 128 ∷ 64 ∷ 32 ∷ 16 ∷ 8 ∷ 4 ∷ 2 ∷ 1 ∷ 0 ∷ 0 ∷ 0 ∷ 0 ∷ 0 ∷ 0 ∷ 0 ∷ 0 ∷ 128 ∷ 64 ∷ 32 ∷ 16 ∷ 8 ∷ 4 ∷ 2 ∷ 1 ∷ []

upper_entry : (q v : ℕ) → q < 4 → v < 16 → get_or upper_table (16 * q + v) 0 ≡ upper_byte v
upper_entry q v few small =
    let value : (16 * q + v) % 16 ≡ v = omega arith in
    eqb-true _ _ (below (λ n. get_or upper_table n 0 == upper_byte (n % 16)) 64 refl (16 * q + v) (omega arith)) ∙ ap upper_byte value

lower_entry : (q v : ℕ) → q < 4 → v < 16 → get_or lower_table (16 * q + v) 0 ≡ lower_byte v
lower_entry q v few small =
    let value : (16 * q + v) % 16 ≡ v = omega arith in
    eqb-true _ _ (below (λ n. get_or lower_table n 0 == lower_byte (n % 16)) 64 refl (16 * q + v) (omega arith)) ∙ ap lower_byte value

pub upper_by_table : (xs : List ℕ) → length xs ≡ 64 → All IsIndex xs → swz_l w8 16 upper_table 0 xs ≡ map (λ v. window_weight v / 256) xs
upper_by_table xs e all = looked_up upper_table upper_byte upper_entry (λ v h. ap (λ w. w / 256) (none v h)) 0 xs (omega arith) all

pub lower_by_table : (xs : List ℕ) → length xs ≡ 64 → All IsIndex xs → swz_l w8 16 lower_table 0 xs ≡ map (λ v. window_weight v % 256) xs
lower_by_table xs e all = looked_up lower_table lower_byte lower_entry (λ v h. ap (λ w. w % 256) (none v h)) 0 xs (omega arith) all

or-true : (b : Bool) → (b || true) ≡ true
or-true true = refl
or-true false = refl

found : (j : ℕ) → IsIndex j → T (zeroes 16 w8 j || ltb j 16)
found j is = elim is [
  | inl small ↦ subst T (sym (ap (λ b. zeroes 16 w8 j || b) (lt-ltb j 16 small) ∙ or-true (zeroes 16 w8 j))) tt
  | inr large ↦ subst T (sym (ap (λ b. b || ltb j 16) (le-leb 128 j large))) tt
]

pub table_has_each : (xs : List ℕ) → length xs ≡ 64 → All IsIndex xs → SwzOk w8 16 64 0 xs
table_has_each xs e all = SwzOk-from_Each1 w8 16 4 64 0 xs refl (omega arith) (Each1-from_get_or (λ j. T (zeroes 16 w8 j || ltb j 16)) xs 0 (λ i l. found (get_or xs i 0) (all i 0 l)))

-- values below 16 are indices
pub All-index : (xs : List ℕ) → All (λ v. v < 16) xs → All IsIndex xs
All-index xs small k d l = inl (small k d l)

-- ---- values of 16 and more made indices without a weight

abbrev index_of : ℕ → ℕ
index_of v = bit_and (bit_or ((v + 112) % 256) v) 143

index_is : (v : ℕ) → v < 256 → IsIndex (index_of v)
index_is v h = elim (cases_lt v 16) [
  | inl small ↦ inl (omega (arith, eqb-true _ _ (below (λ w. index_of w == w) 16 refl v small)))
  | inr large ↦ inr (omega (arith, ltb-true 127 (index_of v) (subst (λ w. ltb 127 (index_of w) ≡ true) (let back : v - 16 + 16 ≡ v = omega arith in back) (below (λ w. ltb 127 (index_of (w + 16))) 240 refl (v - 16) (omega arith)))))
]

index_weight : (v : ℕ) → v < 256 → window_weight (index_of v) ≡ window_weight v
index_weight v h = eqb-true _ _ (below (λ w. window_weight (index_of w) == window_weight w) 256 refl v h)

-- ---- sums of lanes

sum_l-map : (f : ℕ → ℕ) (xs : List ℕ) → sum_l (map f xs) ≡ sum_by f xs
sum_l-map f [] = refl
sum_l-map f (x ∷ xs) = ap (λ n. f x + n) (sum_l-map f xs) ∙ sym (sum_by-cons f x xs)

pub sum_l-append : (xs ys : List ℕ) → sum_l (xs ++ ys) ≡ sum_l xs + sum_l ys
sum_l-append [] ys = omega arith
sum_l-append (x ∷ xs) ys = omega (arith, sum_l-append xs ys)

-- the sum of bytes in sixteen lanes
pub sum_l-dots : (xs : List ℕ) → length xs ≡ 64 → (sum_l (dots xs (replicate 64 1)) ≡ sum_l xs) × (length (dots xs (replicate 64 1)) ≡ 16)
sum_l-dots xs e =
    let d = sum_dots 16 xs (replicate 64 1) e refl in
    (d.0 ∙ ap (λ n. sum_l (products xs (replicate n 1))) (sym e) ∙ sum_by-ones xs, d.1)

pub dots_fit : (xs : List ℕ) → Each1 (Fits w8) xs → T (all_below 32768 (pair_sums (products xs (replicate 64 1))))
dots_fit xs fit = dot4_Fits xs (replicate 64 1) fit tt

-- lanes of upper bytes and of lower ones
pub joined_lanes : (n : ℕ) (U L : List ℕ) → length U ≡ n → length L ≡ n → 256 * sum_l U + sum_l L < 4294967296 →
    sum_l (zip2 (λ a b. (a + b) % 4294967296) (zip2 (λ a b. a * 2 ^ b % 4294967296) U (replicate n 8)) L) ≡ 256 * sum_l U + sum_l L
joined_lanes zero [] [] u l h = refl
joined_lanes zero [] (y ∷ L) u l h = absurd (omega arith)
joined_lanes zero (x ∷ U) L u l h = absurd (omega arith)
joined_lanes (suc n) [] L u l h = absurd (omega arith)
joined_lanes (suc n) (x ∷ U) [] u l h = absurd (omega arith)
joined_lanes (suc n) (x ∷ U) (y ∷ L) u l h = omega (arith, joined_lanes n U L (omega arith) (omega arith) (omega arith))

by_bytes : (R : List ℕ) → 256 * sum_by upper_byte R + sum_by lower_byte R ≡ window_units R
by_bytes [] = refl
by_bytes (v ∷ R) = omega (arith, sum_by-cons upper_byte v R, sum_by-cons lower_byte v R, sum_by-cons window_weight v R, by_bytes R)

window_weight-le : (v : ℕ) → window_weight v ≤ 2 ^ 15
window_weight-le v = elim (nat_lt v 16) as (λ b. cond b (2 ^ (15 - v)) 0 ≤ 2 ^ 15) [
  | true ↦ pow_mono (let less : 15 - v ≤ 15 = omega arith in less)
  | false ↦ omega arith
]

pub window_units-le : (R : List ℕ) → window_units R ≤ length R * 2 ^ 15
window_units-le R = sum_by-le window_weight (2 ^ 15) R (λ k d l. window_weight-le (get_or R k d))

-- the sum of the lower bytes
pub lower_bytes-le : (R : List ℕ) → sum_l (map (λ v. window_weight v % 256) R) ≤ 255 * length R
lower_bytes-le R = omega (arith, sum_l-map lower_byte R, sum_by-le lower_byte 255 R (λ k d l. let most : lower_byte (get_or R k d) ≤ 255 = omega arith in most))

-- both bytes of the weights of a block
module _ (R U L : List ℕ) (u : sum_l U ≡ sum_l (map (λ v. window_weight v / 256) R)) (l : sum_l L ≡ sum_l (map (λ v. window_weight v % 256) R)) where
  pub sums_by_bytes : 256 * sum_l U + sum_l L ≡ window_units R
  sums_by_bytes = omega (arith, u, l, sum_l-map upper_byte R, sum_l-map lower_byte R, by_bytes R)

-- a sum shifted by at most 16 bits fits 64 bits
pub shifted_fits : (r u s : ℕ) → s ≤ 16 → r ≤ 2097152 → r ≡ u → r * 2 ^ s % 18446744073709551616 ≡ 2 ^ s * u
shifted_fits r u s few bound is =
    let power : 2 ^ s ≤ 65536 = pow_mono {j = 16} few in
    mod-eq_of_lt (omega (arith, mul-le r (2 ^ s) 2097152 65536 bound power)) ∙ mul_comm r (2 ^ s) ∙ ap (λ n. 2 ^ s * n) is

-- ---- whether all are below a bound

pub All-below : (n : ℕ) (R : List ℕ) → list_all (λ v. nat_lt v n) R ≡ true → All (λ v. v < n) R
All-below n R t k d l = ltb-true _ n (AllPass-from_list_all (λ v. nat_lt v n) R t k d l)

-- ---- indices of a block

pub window_units-index : (R : List ℕ) → All (λ v. v < 256) R → window_units (map index_of R) ≡ window_units R
window_units-index [] all = refl
window_units-index (v ∷ R) all =
    omega (arith, sum_by-cons window_weight (index_of v) (map index_of R), sum_by-cons window_weight v R, index_weight v (all 0 0 (omega arith)), window_units-index R (All-tail (λ w. w < 256) v R all))

pub All-index_of : (R : List ℕ) → All (λ v. v < 256) R → All IsIndex (map index_of R)
All-index_of R all k d l =
    subst IsIndex (sym (get_or-map index_of R k 0 d (omega (arith, length-map R index_of)))) (index_is (get_or R k 0) (all k 0 (omega (arith, length-map R index_of))))

pub index_lanes : (n : ℕ) (R : List ℕ) → length R ≡ n → zip2 bit_and (zip2 bit_or (zip2 (λ a b. (a + b) % 256) R (replicate n 112)) R) (replicate n 143) ≡ map index_of R
index_lanes zero [] e = refl
index_lanes zero (v ∷ R) e = absurd (omega arith)
index_lanes (suc n) [] e = refl
index_lanes (suc n) (v ∷ R) e = ap (λ S. index_of v ∷ S) (index_lanes n R (omega arith))

pub All-bytes : (f : ℕ → ℕ) (R : List ℕ) → All (λ v. v < 256) (map (λ v. f v % 256) R)
All-bytes f R k d l =
    let here : get_or (map (λ v. f v % 256) R) k d ≡ f (get_or R k 0) % 256 = get_or-map (λ v. f v % 256) R k 0 d (omega (arith, length-map R (λ v. f v % 256))) in
    omega (arith, here)
