-- SPDX-License-Identifier: Apache-2.0
-- Lemmas on counts and tests of zeros by blocks.
use Rattle.std.proofs.Common.{◌≡◌, ℕ, ◌+◌, ◌*◌, ◌%◌, ◌^◌, ◌<◌, ◌≤◌, ◌==◌, zero, suc, List, [], ◌∷◌, length, get_or, take, drop, count_by, cond, nat_lt, Bool, true, false, replicate, refl, sym, ap, ◌∙◌, arith, w8}
use Rattle.std.specs.Prelude.{◌&&◌, ◌≢◌, nat_le, not}
use Rattle.std.specs.List.{list_all}
use Rattle.std.specs.Simd.{first_chunks}
use Rattle.std.specs.Simd.Lanes.{zip2, mask_l, sel_l, sum_l, top, Each1}
use Rattle.std.specs.Int.RustNames.{count_ones}
use Rattle.std.proofs.lemmas.List.{length-map, length-take, take-append-drop}
use Rattle.std.proofs.lemmas.List.Sums.{sum_by-append, sum_by-cons, sum_by-take-drop, count_by-le-length}
use Rattle.std.proofs.lemmas.List.Folds.{list_all-append}
use Rattle.std.proofs.lemmas.Simd.{bitmask_splat, mask_l-mod, ones-mask_l}
use Rattle.std.proofs.lemmas.Bool.Decides.{nat_tests}
use Rattle.hll_kernels.proofs.Blocks.{take_block}
use mathlib.Core.List.{map}

-- ---- counts

-- a count over a part of a list
pub count_by-take-le : (p : ℕ → Bool) (xs : List ℕ) (n r : ℕ) → r ≡ count_by p (take n xs) → r ≤ length xs
count_by-take-le p xs n r e = omega (arith, e, count_by-le-length p (take n xs), length-take n xs)

-- one more block is counted
pub count_block : (p : ℕ → Bool) (n k : ℕ) (xs : List ℕ) (blocks : List (List ℕ)) (i total r : ℕ) (d : List ℕ) →
    total ≡ count_by p (take (i * n) xs) → blocks ≡ first_chunks n k xs → i < k → r ≡ count_by p (get_or blocks i d) → total + r ≡ count_by p (take ((i + 1) * n) xs)
count_block p n k xs blocks i total r d e are inside here =
    let more : count_by p (take ((i + 1) * n) xs) ≡ count_by p (take (i * n) xs) + count_by p (get_or blocks i d) =
    ap (count_by p) (take_block n k xs blocks i d are inside) ∙ sum_by-append (λ x. cond (p x) 1 0) (take (i * n) xs) (get_or blocks i d) in
    omega arith

-- the rest is counted
pub count_rest : (p : ℕ → Bool) (n : ℕ) (xs rest : List ℕ) (total r : ℕ) → total ≡ count_by p (take n xs) → rest ≡ drop n xs → r ≡ count_by p rest → total + r ≡ count_by p xs
count_rest p n xs rest total r e is here =
    let last : count_by p rest ≡ count_by p (drop n xs) = ap (count_by p) is in
    omega (arith, sum_by-take-drop (λ x. cond (p x) 1 0) xs n)

-- zeros by a mask of n bits
pub zeros_by_mask : (n : ℕ) (xs : List ℕ) → length xs ≡ n → n ≤ 64 →
    count_ones (mask_l (map (top 7) (zip2 (λ a b. cond (a == b) 255 0) xs (replicate n 0))) % 2 ^ 64) ≡ count_by (λ x. x == 0) xs
zeros_by_mask n xs e few = ap count_ones (bitmask_splat w8 (λ a b. a == b) xs n 0 e few) ∙ ones-mask_l (λ x. x == 0) xs

-- ---- zeros by lanes: 1 in each lane that is 0

abbrev pub zero_lanes : ℕ → List ℕ → List ℕ
zero_lanes n xs = sel_l (map (top 7) (zip2 (λ a b. cond (a == b) 255 0) xs (replicate n 0))) (replicate n 1) (replicate n 0)

one_lane : (x : ℕ) → 0 + cond (top 7 (cond (x == 0) 255 0)) 1 0 ≡ cond (x == 0) 1 0
one_lane x = grind (arith, nat_tests)

pub zeros_by_lanes : (n : ℕ) (xs : List ℕ) → length xs ≡ n → sum_l (zero_lanes n xs) ≡ count_by (λ x. x == 0) xs
zeros_by_lanes zero [] e = refl
zeros_by_lanes zero (x ∷ xs) e = absurd (omega arith)
zeros_by_lanes (suc n) [] e = absurd (omega arith)
zeros_by_lanes (suc n) (x ∷ xs) e =
    let counted : count_by (λ v. v == 0) (x ∷ xs) ≡ cond (x == 0) 1 0 + count_by (λ v. v == 0) xs = sum_by-cons (λ v. cond (v == 0) 1 0) x xs in
    omega (arith, counted, one_lane x, zeros_by_lanes n xs (omega arith))

pub length-zero_lanes : (n : ℕ) (xs : List ℕ) → length xs ≡ n → length (zero_lanes n xs) ≡ n
length-zero_lanes zero [] e = refl
length-zero_lanes zero (x ∷ xs) e = absurd (omega arith)
length-zero_lanes (suc n) [] e = absurd (omega arith)
length-zero_lanes (suc n) (x ∷ xs) e = omega (arith, length-zero_lanes n xs (omega arith))

at_most_one : (t : Bool) → cond t 1 0 ≤ 1
at_most_one true = omega arith
at_most_one false = omega arith

pub zero_lanes-le : (n : ℕ) (xs : List ℕ) → length xs ≡ n → Each1 (λ v. v ≤ 1) (zero_lanes n xs)
zero_lanes-le zero [] e = tt
zero_lanes-le zero (x ∷ xs) e = absurd (omega arith)
zero_lanes-le (suc n) [] e = absurd (omega arith)
zero_lanes-le (suc n) (x ∷ xs) e = (at_most_one (top 7 (cond (x == 0) 255 0)), zero_lanes-le n xs (omega arith))

-- ---- whether all pass a test

one_more : (b r : Bool) (m : ℕ) → (m == 0) ≡ r → (cond (not b) 1 0 + 2 * m == 0) ≡ (b && r)
one_more true r m e = (let twice : (0 + 2 * m == 0) ≡ (m == 0) = grind (arith, nat_tests) in twice) ∙ e
one_more false r m e = grind (arith, nat_tests)

-- all bytes pass if the mask of those that don't is 0
pub none_by_mask : (q : ℕ → Bool) (xs : List ℕ) → (mask_l (map (λ x. not (q x)) xs) == 0) ≡ list_all q xs
none_by_mask q [] = refl
none_by_mask q (x ∷ xs) = one_more (q x) (list_all q xs) (mask_l (map (λ v. not (q v)) xs)) (none_by_mask q xs)

at_least : (b v : ℕ) → top 7 (cond (nat_le b v) 255 0) ≡ not (nat_lt v b)
at_least b v = grind (arith, nat_tests)

at_least_lanes : (n b : ℕ) (xs : List ℕ) → length xs ≡ n → map (top 7) (zip2 (λ a v. cond (nat_le a v) 255 0) (replicate n b) xs) ≡ map (λ v. not (nat_lt v b)) xs
at_least_lanes zero b [] e = refl
at_least_lanes zero b (x ∷ xs) e = absurd (omega arith)
at_least_lanes (suc n) b [] e = refl
at_least_lanes (suc n) b (x ∷ xs) e = λ i. at_least b x i ∷ at_least_lanes n b xs (omega arith) i

-- whether all are below a bound
pub below_by_mask : (n b : ℕ) (xs : List ℕ) → length xs ≡ n → n ≤ 64 →
    (mask_l (map (top 7) (zip2 (λ a v. cond (nat_le a v) 255 0) (replicate n b) xs)) % 2 ^ 64 == 0) ≡ list_all (λ v. nat_lt v b) xs
below_by_mask n b xs e few =
    ap (λ ms. mask_l ms % 2 ^ 64 == 0) (at_least_lanes n b xs e)
    ∙ ap (λ m. m == 0) (mask_l-mod (map (λ v. not (nat_lt v b)) xs) 64 (omega (arith, length-map xs (λ v. not (nat_lt v b)), e))) ∙ none_by_mask (λ v. nat_lt v b) xs

-- ---- whether all are 0

pub nonzeros_by_mask : (xs : List ℕ) → length xs ≡ 64 →
    mask_l (map (top 7) (zip2 (λ a b. cond (not (a == b)) 255 0) xs (replicate 64 0))) % 2 ^ 64 ≡ mask_l (map (λ x. not (x == 0)) xs)
nonzeros_by_mask xs e = bitmask_splat w8 (λ a b. not (a == b)) xs 64 0 e (omega arith)

not_zero : (x : ℕ) → (suc x == 0) ≡ false
not_zero x = grind (arith, nat_tests)

no_bit : (xs : List ℕ) → mask_l (map (λ b. not (b == 0)) xs) ≡ 0 → list_all (λ b. b == 0) xs ≡ true
no_bit [] e = refl
no_bit (zero ∷ xs) e = no_bit xs (let h : 0 + 2 * mask_l (map (λ b. not (b == 0)) xs) ≡ 0 = e in omega (arith, h))
no_bit (suc x ∷ xs) e = absurd (let h : 1 + 2 * mask_l (map (λ b. not (b == 0)) xs) ≡ 0 = ap (λ b. cond (not b) 1 0 + 2 * mask_l (map (λ v. not (v == 0)) xs)) (sym (not_zero x)) ∙ e in omega (arith, h))

a_bit : (xs : List ℕ) → mask_l (map (λ b. not (b == 0)) xs) ≢ 0 → list_all (λ b. b == 0) xs ≡ false
a_bit [] h = absurd (h refl)
a_bit (zero ∷ xs) h = a_bit xs (λ e. h (let g : 0 + 2 * mask_l (map (λ b. not (b == 0)) xs) ≡ 0 = omega (arith, e) in g))
a_bit (suc x ∷ xs) h = ap (λ b. b && list_all (λ v. v == 0) xs) (not_zero x)

module _ (n k : ℕ) (xs : List ℕ) (blocks : List (List ℕ)) (i : ℕ) (d : List ℕ) (are : blocks ≡ first_chunks n k xs) (inside : i < k) (before : list_all (λ b. b == 0) (take (i * n) xs) ≡ true) where
  -- after a block of zeros
  pub all_zero-more : mask_l (map (λ b. not (b == 0)) (get_or blocks i d)) ≡ 0 → list_all (λ b. b == 0) (take ((i + 1) * n) xs) ≡ true
  all_zero-more none =
      ap (list_all (λ b. b == 0)) (take_block n k xs blocks i d are inside) ∙ list_all-append (λ b. b == 0) (take (i * n) xs) (get_or blocks i d)
      ∙ (λ j. before j && no_bit (get_or blocks i d) none j)

  -- at a block that has another byte
  pub all_zero-not : mask_l (map (λ b. not (b == 0)) (get_or blocks i d)) ≢ 0 → false ≡ list_all (λ b. b == 0) xs
  all_zero-not some =
      let here : list_all (λ b. b == 0) (take ((i + 1) * n) xs) ≡ false =
      ap (list_all (λ b. b == 0)) (take_block n k xs blocks i d are inside) ∙ list_all-append (λ b. b == 0) (take (i * n) xs) (get_or blocks i d)
      ∙ (λ j. before j && a_bit (get_or blocks i d) some j) in
      sym (sym (ap (list_all (λ b. b == 0)) (take-append-drop ((i + 1) * n) xs)) ∙ list_all-append (λ b. b == 0) (take ((i + 1) * n) xs) (drop ((i + 1) * n) xs)
      ∙ ap (λ b. b && list_all (λ v. v == 0) (drop ((i + 1) * n) xs)) here)

-- the rest decides
pub all_zero-rest : (at : ℕ) (xs : List ℕ) → list_all (λ b. b == 0) (take at xs) ≡ true → list_all (λ b. b == 0) (drop at xs) ≡ list_all (λ b. b == 0) xs
all_zero-rest at xs before =
    sym (sym (ap (list_all (λ b. b == 0)) (take-append-drop at xs)) ∙ list_all-append (λ b. b == 0) (take at xs) (drop at xs)
    ∙ ap (λ b. b && list_all (λ v. v == 0) (drop at xs)) before)
