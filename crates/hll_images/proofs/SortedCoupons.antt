-- SPDX-License-Identifier: Apache-2.0
-- Raw coupons that are read into numbers, sorted, and written as raw coupons.
use Rattle.std.proofs.Common.{◌≡◌, ℕ, ◌+◌, ◌-◌, ◌*◌, ◌^◌, ◌<◌, ◌≤◌, true, List, [], ◌∷◌, ◌++◌, length, take, drop, set, inl, inr, sym, ap, subst, ◌∙◌, arith}
use Rattle.std.specs.Ordering.{nat_cmp}
use Rattle.std.specs.List.Sorted.{IsSorted, IsPermutation, IsStrictlyIncreasing}
use Rattle.std.proofs.lemmas.Bool.{true≢false}
use Rattle.std.proofs.lemmas.List.Elements.{All-head}
use Rattle.std.proofs.lemmas.List.Sorted.{All-permutation, IsPermutation-sym}
use Rattle.std.specs.Int.{w32, from_le_bytes}
use Rattle.std.proofs.lemmas.List.{length-set, length-drop, drop-drop, take_more_set}
use Rattle.hll_coupons.specs.Coupons.{raw_coupons, AreCoupons}
use Rattle.hll_coupons.specs.Pair.{set_of, value_of}
use Rattle.hll_coupons.proofs.Ascending.{ascending_from_sort, distinct-sorted, set_of-permutation}
use Rattle.hll_coupons.proofs.Merging.{increasing_more}
use Rattle.hll_sketch.specs.Borrowed.{AreEvidentlyCoupons}
use Rattle.hll_images.specs.CouponImages.{HasEvidentCoupons}
use Rattle.hll_sketch.specs.Image.{is_flagged}
use Rattle.hll_sketch.specs.MergedIn.{raw_coupons_in}
use Rattle.hll_sketch.proofs.BorrowedCoupons.{increasing_coupons}
use Rattle.hll_images.proofs.CouponImages.{ascends_after}
use Rattle.hll_sketch.proofs.Differing.{one_more}

-- the raw coupons so far are the first numbers
pub record ReadSoFar (index count : ℕ) (b cursor numbers : List ℕ) : Type 0 where
  pub after : cursor ≡ drop (4 * index) b
  pub left : 4 * (count - index) ≤ length cursor
  pub size : length numbers ≡ 128
  pub read : take index numbers ≡ raw_coupons index b

pub read_more : (index count : ℕ) (b cursor numbers : List ℕ) → ReadSoFar index count b cursor numbers → index < count → count ≤ 128 →
    (w : ℕ) (rest : List ℕ) → w ≡ from_le_bytes w32 cursor → rest ≡ drop 4 cursor → ReadSoFar (index + 1) count b rest (set numbers index w)
read_more index count b cursor numbers so less few w rest is rest_is = record {
  after = rest_is ∙ ap (drop 4) so.after ∙ drop-drop 4 (4 * index) b ∙ ap (λ k. drop k b) (let e : 4 * index + 4 ≡ 4 * (index + 1) = omega arith in e);
  left = omega (arith, so.left, ap length rest_is, length-drop 4 cursor, less);
  size = length-set numbers index w ∙ so.size;
  read = take_more_set numbers index w (omega (arith, less, few, so.size)) ∙ ap (λ ws. ws ++ w ∷ []) so.read ∙ sym (one_more index w b cursor so.after is);
}

-- ---- what the sorted numbers say of the raw coupons

-- a sorted copy has the same members
pub sorted_members : (all copy ys : List ℕ) → copy ≡ all → IsPermutation copy ys → set_of ys ≡ set_of all
sorted_members all copy ys same p = set_of-permutation copy ys p ∙ ap set_of same

-- if the sorted copy of a list ascends from the last number with the value 0, the list is one of coupons
pub coupons_from_sorted : (all copy ys : List ℕ) → copy ≡ all → IsPermutation copy ys → IsStrictlyIncreasing ((2 ^ 26 - 1) ∷ ys) → AreCoupons all
coupons_from_sorted all copy ys same p up =
    let q : IsPermutation all ys = subst (λ xs. IsPermutation xs ys) same p in
    record {
      valued = All-permutation (λ c. 1 ≤ value_of c) ys all (IsPermutation-sym all ys q) (increasing_coupons ys up).valued;
      distinct = distinct-sorted all copy ys same p (ascends_after ys up);
    }

-- the sorted copy of coupons ascends from there
pub sorted_from_coupons : (all copy ys : List ℕ) → copy ≡ all → IsPermutation copy ys → IsSorted nat_cmp ys → AreCoupons all → IsStrictlyIncreasing ((2 ^ 26 - 1) ∷ ys)
sorted_from_coupons all copy [] same p up are = λ k within. absurd (omega (arith, within))
sorted_from_coupons all copy (y ∷ ys) same p up are =
    let q : IsPermutation all (y ∷ ys) = subst (λ xs. IsPermutation xs (y ∷ ys)) same p in
    let valued : 1 ≤ value_of y = All-head (λ c. 1 ≤ value_of c) y ys (All-permutation (λ c. 1 ≤ value_of c) all (y ∷ ys) q are.valued) in
    (increasing_more (2 ^ 26 - 1) y ys).1 (omega (arith, valued), (ascending_from_sort all copy (y ∷ ys) same are.distinct p up).increasing)

-- ---- images without evident coupons

-- if the raw coupons of a compact image neither ascend nor are few, one pass does not show that they are coupons
pub not_evident : (b xs : List ℕ) → xs ≡ raw_coupons_in b → is_flagged 8 b ≡ true → (IsStrictlyIncreasing ((2 ^ 26 - 1) ∷ xs) → ⊥) → (length xs ≤ 128 → AreCoupons xs → ⊥)
    → HasEvidentCoupons b → ⊥
not_evident b xs same compact falls apart (inl has) = elim (subst AreEvidentlyCoupons (sym same) has.evident) [ inl up ↦ falls up | inr few ↦ apart few.0 few.1 ]
not_evident b xs same compact falls apart (inr placed) = true≢false (sym compact ∙ placed.updatable)
