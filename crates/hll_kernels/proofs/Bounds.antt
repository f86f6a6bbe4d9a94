-- SPDX-License-Identifier: Apache-2.0
-- Lemmas on bounds of bytes by lanes.
use Rattle.std.proofs.Common.{◌≡◌, ℕ, zero, suc, ◌+◌, ◌*◌, ◌<◌, Bool, true, false, cond, List, [], ◌∷◌, ◌++◌, T, length, get_or, take, drop, refl, sym, ap, ◌∙◌, arith}
use Rattle.std.specs.Prelude.{◌&&◌, nat_le, nat_lt, max}
use Rattle.std.specs.List.{list_all, range_with_len}
use Rattle.std.specs.Simd.{first_chunks}
use Rattle.std.specs.Simd.Lanes.{zip2, sel_l, pick_l, all_below, top}
use Rattle.std.proofs.lemmas.List.{take_all, length-drop, length-take-le, take-append-drop}
use Rattle.std.proofs.lemmas.List.Folds.{list_all-append}
use Rattle.std.proofs.lemmas.Bool.Decides.{nat_tests}
use Rattle.std.proofs.lemmas.Simd.{pick_l_left, pick_l-range_with_len}
use Rattle.hll_kernels.proofs.Blocks.{take_block}
use mathlib.Core.List.{map}

-- whether all bytes are at most a bound
abbrev pub are_within : ℕ → List ℕ → Bool
are_within bound xs = list_all (λ b. nat_le b bound) xs

pub max_within : (a b bound : ℕ) → nat_le (max a b) bound ≡ (nat_le a bound && nat_le b bound)
max_within a b bound = grind (arith, nat_tests)

swapped : (p q r s : Bool) → ((p && q) && (r && s)) ≡ ((p && r) && (q && s))
swapped true true r s = refl
swapped true false true s = refl
swapped true false false s = refl
swapped false q r s = refl

greater_within : (x y bound : ℕ) → nat_le (cond (top 7 (cond (nat_lt x y) 255 0)) y x) bound ≡ (nat_le x bound && nat_le y bound)
greater_within x y bound = grind (arith, nat_tests)

-- the greater of each two lanes
abbrev pub greater_lanes : List ℕ → List ℕ → List ℕ
greater_lanes xs ys = sel_l (map (top 7) (zip2 (λ a b. cond (nat_lt a b) 255 0) xs ys)) ys xs

-- a test that the greater of two numbers passes if both do
module _ (p : ℕ → Bool) (both : (x y : ℕ) → p (cond (top 7 (cond (nat_lt x y) 255 0)) y x) ≡ (p x && p y)) where
  lanes_pass : (xs ys : List ℕ) → length xs ≡ length ys → list_all p (greater_lanes xs ys) ≡ (list_all p xs && list_all p ys)
  lanes_pass [] [] e = refl
  lanes_pass [] (y ∷ ys) e = absurd (omega arith)
  lanes_pass (x ∷ xs) [] e = absurd (omega arith)
  lanes_pass (x ∷ xs) (y ∷ ys) e = (λ i. both x y i && lanes_pass xs ys (omega arith) i) ∙ swapped (p x) (p y) (list_all p xs) (list_all p ys)

lanes_within : (bound : ℕ) (xs ys : List ℕ) → length xs ≡ length ys → are_within bound (greater_lanes xs ys) ≡ (are_within bound xs && are_within bound ys)
lanes_within bound = lanes_pass (λ b. nat_le b bound) (λ x y. greater_within x y bound)

pub length-greater_lanes : (n : ℕ) (xs ys : List ℕ) → length xs ≡ n → length ys ≡ n → length (greater_lanes xs ys) ≡ n
length-greater_lanes n [] [] e f = e
length-greater_lanes n [] (y ∷ ys) e f = absurd (omega arith)
length-greater_lanes n (x ∷ xs) [] e f = absurd (omega arith)
length-greater_lanes zero (x ∷ xs) (y ∷ ys) e f = absurd (omega arith)
length-greater_lanes (suc n) (x ∷ xs) (y ∷ ys) e f = omega (arith, length-greater_lanes n xs ys (omega arith) (omega arith))

-- after one more block
module _ (bound n k : ℕ) (xs : List ℕ) (blocks : List (List ℕ)) (i : ℕ) (d : List ℕ) (are : blocks ≡ first_chunks n k xs) (inside : i < k) where
  one_more : are_within bound (take ((i + 1) * n) xs) ≡ (are_within bound (take (i * n) xs) && are_within bound (get_or blocks i d))
  one_more = ap (are_within bound) (take_block n k xs blocks i d are inside) ∙ list_all-append (λ b. nat_le b bound) (take (i * n) xs) (get_or blocks i d)

  pub block_within : (lanes : List ℕ) → length lanes ≡ length (get_or blocks i d) →
      are_within bound (take (i * n) xs) ≡ are_within bound lanes → are_within bound (take ((i + 1) * n) xs) ≡ are_within bound (greater_lanes lanes (get_or blocks i d))
  block_within lanes long so_far = one_more ∙ ap (λ t. t && are_within bound (get_or blocks i d)) so_far ∙ sym (lanes_within bound lanes (get_or blocks i d) long)

  pub block_max : (a b : ℕ) → are_within bound (take (i * n) xs) ≡ nat_le a bound → are_within bound (get_or blocks i d) ≡ nat_le b bound → are_within bound (take ((i + 1) * n) xs) ≡ nat_le (max a b) bound
  block_max a b so_far here = one_more ∙ (λ j. so_far j && here j) ∙ sym (max_within a b bound)

-- after all k blocks of n bytes and the rest
pub whole_max : (bound n i k : ℕ) (xs rest : List ℕ) (a b : ℕ) → i ≡ k → rest ≡ drop (k * n) xs → are_within bound (take (i * n) xs) ≡ nat_le a bound → are_within bound rest ≡ nat_le b bound →
    are_within bound xs ≡ nat_le (max a b) bound
whole_max bound n i k xs rest a b e is first second =
    ap (are_within bound) (sym (take-append-drop (i * n) xs)) ∙ list_all-append (λ b. nat_le b bound) (take (i * n) xs) (drop (i * n) xs)
    ∙ (λ j. first j && (ap (are_within bound) (ap (λ m. drop (m * n) xs) e ∙ sym is) ∙ second) j) ∙ sym (max_within a b bound)

-- ---- bytes below a bound

-- whether all bytes are below a bound
abbrev pub all_under : ℕ → List ℕ → Bool
all_under bound xs = list_all (λ v. nat_lt v bound) xs

greater_under : (x y bound : ℕ) → nat_lt (cond (top 7 (cond (nat_lt x y) 255 0)) y x) bound ≡ (nat_lt x bound && nat_lt y bound)
greater_under x y bound = grind (arith, nat_tests)

pub lanes_under : (bound : ℕ) (xs ys : List ℕ) → length xs ≡ length ys → all_under bound (greater_lanes xs ys) ≡ (all_under bound xs && all_under bound ys)
lanes_under bound = lanes_pass (λ v. nat_lt v bound) (λ x y. greater_under x y bound)

-- the greater of the lanes of both halves
module _ (n : ℕ) (xs : List ℕ) (long : length xs ≡ n + n) (low : T (all_below (n + n) (range_with_len 0 n))) (high : T (all_below (n + n) (range_with_len n n))) where
  abbrev first_half : List ℕ
  first_half = pick_l 0 (xs ++ xs) (range_with_len 0 n)

  abbrev second_half : List ℕ
  second_half = pick_l 0 (xs ++ xs) (range_with_len n n)

  abbrev pub greater_half : List ℕ
  greater_half = greater_lanes first_half second_half

  first : first_half ≡ take n xs
  first = pick_l_left 0 xs xs (n + n) (range_with_len 0 n) long low ∙ pick_l-range_with_len 0 xs 0 n (omega (arith, long))

  second : second_half ≡ drop n xs
  second =
      pick_l_left 0 xs xs (n + n) (range_with_len n n) long high ∙ pick_l-range_with_len 0 xs n n (omega (arith, long)) ∙ take_all n (drop n xs) (omega (arith, length-drop n xs, long))

  length-first : length first_half ≡ n
  length-first = ap length first ∙ length-take-le n xs (omega (arith, long))

  length-second : length second_half ≡ n
  length-second = omega (arith, ap length second, length-drop n xs, long)

  pub length-greater_half : length greater_half ≡ n
  length-greater_half = length-greater_lanes n first_half second_half length-first length-second

  pub half_under : (bound : ℕ) → all_under bound xs ≡ all_under bound greater_half
  half_under bound =
      ap (all_under bound) (sym (take-append-drop n xs)) ∙ list_all-append (λ v. nat_lt v bound) (take n xs) (drop n xs)
      ∙ (λ i. all_under bound (sym first i) && all_under bound (sym second i)) ∙ sym (lanes_under bound first_half second_half (length-first ∙ sym length-second))
