-- SPDX-License-Identifier: Apache-2.0
-- Images of compact coupons.
use Rattle.std.proofs.Common.{◌≡◌, ℕ, zero, suc, ◌+◌, ◌-◌, ◌*◌, ◌^◌, ◌<◌, ◌≤◌, Bool, true, false, ◌||◌, nat_eq, List, [], ◌∷◌, length, take, drop, get_or, All, inl, inr, refl, sym, ap, subst, ◌∙◌, arith}
use Rattle.std.specs.Int.{w32, from_le_bytes}
use Rattle.std.specs.List.{AllPairs, list_any}
use Rattle.std.specs.Ordering.{nat_cmp}
use Rattle.std.specs.FinSet.{len, contains, contains-empty, empty_of_len, len-empty, len-insert, contains-from_list_nat}
use Rattle.std.specs.Cmp.{nat_cmp_total}
use Rattle.std.proofs.lemmas.Bool.{cond-false, ne_eqb, true≢false}
use Rattle.std.proofs.lemmas.List.{length-drop}
use Rattle.std.proofs.lemmas.List.Kept.{AllPairs-from_increasing}
use Rattle.std.specs.List.Sorted.{IsStrictlyIncreasing}
use Rattle.hll_coupons.specs.Coupons.{raw_coupons, AreCoupons}
use Rattle.hll_coupons.specs.Pair.{set_of}
use Rattle.hll_coupons.specs.Payload.{HasListCount, ListShape, SetShape, shape_of_list, shape_of_set, list_coupons, list_buckets, set_count, set_coupons, set_buckets, IsListPayload, IsSetPayload}
use Rattle.hll_coupons.proofs.Merging.{length-raw_coupons}
use Rattle.hll_coupons.proofs.Reading.{is_list_payload}
use Rattle.hll_coupons.proofs.SetReading.{is_set_payload}
use Rattle.hll_coupons.proofs.Sizes.{inserted}
use Rattle.hll_sketch.specs.Borrowed.{AreEvidentlyCoupons}
use Rattle.hll_sketch.specs.MergedIn.{IsOfCoupons}
use Rattle.hll_sketch.specs.Image.{table_byte, state_byte, is_flagged, HasHeader, HasSetTable, list_shape, set_shape}
use Rattle.hll_sketch.specs.Value.{coupons}
use Rattle.hll_sketch.proofs.FrontImages.{list_is_read, set_is_read}
use Rattle.hll_sketch.proofs.ListImages.{list_image}

-- the raw coupons after the header of a compact list, in the number that it says, are its coupons
listed : (b : List ℕ) (n : ℕ) (empty flag : Bool) → HasHeader b 0 → table_byte b ≡ 3 → n ≡ state_byte b → is_flagged 4 b ≡ empty → is_flagged 8 b ≡ flag →
    HasListCount (shape_of_list 3 n empty flag) → 4 * list_buckets (shape_of_list 3 n empty flag) ≤ length (drop 8 b) → AreCoupons (list_coupons (shape_of_list 3 n empty flag) (drop 8 b))
    → length (list_coupons (shape_of_list 3 n empty flag) (drop 8 b)) ≡ n → IsOfCoupons b (list_coupons (shape_of_list 3 n empty flag) (drop 8 b))
listed b n empty flag h table count filled compact counted there are number =
    let s : ListShape = shape_of_list 3 n empty flag in
    let same : s ≡ list_shape b = λ i. shape_of_list 3 (count i) (sym filled i) (sym compact i) in
    let payload : IsListPayload s (take (4 * list_buckets s) (drop 8 b)) = is_list_payload s (drop 8 b) counted there are number in
    let here : IsListPayload (list_shape b) (take (4 * list_buckets (list_shape b)) (drop 8 b)) = subst (λ z. IsListPayload z (take (4 * list_buckets z) (drop 8 b))) same payload in
    record {
      sketch = _;
      read = list_is_read b (list_image b h table here);
      size = 3;
      content = λ i. coupons (set_of (list_coupons (sym same i) (drop 8 b))) 3;
    }

pub list_of_coupons : (b : List ℕ) (n : ℕ) → HasHeader b 0 → table_byte b ≡ 3 → n ≡ state_byte b → is_flagged 4 b ≡ nat_eq n 0 → (1 ≤ n → is_flagged 8 b ≡ true) →
    n ≤ 8 → 4 * n ≤ length (drop 8 b) → AreCoupons (raw_coupons n (drop 8 b)) → IsOfCoupons b (raw_coupons n (drop 8 b))
list_of_coupons b zero h table count filled compact few there are = none (is_flagged 8 b) refl
  where
    none : (flag : Bool) → is_flagged 8 b ≡ flag → IsOfCoupons b []
    none true is = listed b 0 true true h table count filled is (record { low = few; flag = (λ e. refl, λ z. refl) }) there are refl
    none false is = listed b 0 true false h table count filled is (record { low = few; flag = (λ e. refl, λ z. refl) }) there are refl
list_of_coupons b (suc n) h table count filled compact few there are =
    listed b (suc n) false true h table count (filled ∙ ne_eqb (suc n) 0 (λ z. absurd (omega (arith, z)))) (compact (omega arith)) (record { low = few; flag = (λ e. absurd (cc), λ z. absurd (omega (arith, z))) }) there are (length-raw_coupons (suc n) (drop 8 b))

-- the raw coupons after the count of a compact set, in that number, are its coupons
pub set_of_coupons : (b : List ℕ) (n : ℕ) → HasHeader b 1 → HasSetTable b → 4 ≤ length (drop 8 b) → n ≡ set_count (drop 8 b) → is_flagged 8 b ≡ true →
    n < 2 ^ table_byte b → 4 * n ≤ length (drop 4 (drop 8 b)) → AreCoupons (raw_coupons n (drop 4 (drop 8 b))) → IsOfCoupons b (raw_coupons n (drop 4 (drop 8 b)))
set_of_coupons b n h table whole count compact room there are =
    let p : List ℕ = drop 8 b in
    let s : SetShape = shape_of_set (table_byte b) true in
    let same : s ≡ set_shape b = λ i. shape_of_set (table_byte b) (sym compact i) in
    let order : raw_coupons n (drop 4 p) ≡ set_coupons s p = λ i. raw_coupons (count i) (drop 4 p) in
    let after : 4 + 4 * set_buckets s p ≤ length p = omega (arith, whole, count, there, length-drop 4 p) in
    let payload : IsSetPayload s (take (4 + 4 * set_buckets s p) p) =
    is_set_payload s p (record { whole = whole; low = omega (arith, count, room) }) after (subst AreCoupons order are) (length-raw_coupons (set_count p) (drop 4 p)) in
    let here : IsSetPayload (set_shape b) (take (4 + 4 * set_buckets (set_shape b) p) p) = subst (λ z. IsSetPayload z (take (4 + 4 * set_buckets z p) p)) same payload in
    record {
      sketch = _;
      read = set_is_read b h table here;
      size = table_byte b;
      content = λ i. coupons (set_of ((ap (λ z. set_coupons z p) (sym same) ∙ sym order) i)) (table_byte b);
    }

-- numbers whose set is empty are none
pub none_listed : (xs : List ℕ) → len (set_of xs) ≡ 0 → xs ≡ []
none_listed [] none = refl
none_listed (x ∷ xs) none = absurd (true≢false (sym (inserted (set_of xs) x) ∙ ap (λ S. contains S x) (empty_of_len (set_of (x ∷ xs)) none) ∙ contains-empty nat_cmp x))

-- ---- ascending raw coupons

-- a number below all numbers of a list is not in it
absent : (x : ℕ) (xs : List ℕ) → All (λ y. x < y) xs → list_any (λ y. nat_eq y x) xs ≡ false
absent x [] below = refl
absent x (y ∷ ys) below =
    let first : x < y = below 0 0 (omega arith) in
    ap (λ b. b || list_any (λ y. nat_eq y x) ys) (ne_eqb y x (λ same. omega (arith, same, first)))
    ∙ absent x ys (λ i d within. below (suc i) d (omega (arith, within)))

-- numbers that are each below all later ones are distinct
distinct : (xs : List ℕ) → AllPairs (λ x y. x < y) xs → len (set_of xs) ≡ length xs
distinct [] pairs = len-empty nat_cmp
distinct (x ∷ xs) pairs =
    let new : contains (set_of xs) x ≡ false = contains-from_list_nat xs x ∙ absent x xs (λ i d within. pairs 0 (suc i) d (omega arith) (omega (arith, within))) in
    let more : len (set_of (x ∷ xs)) ≡ len (set_of xs) + 1 = len-insert nat_cmp_total (set_of xs) x ∙ cond-false (contains (set_of xs) x) (len (set_of xs)) (len (set_of xs) + 1) new in
    omega (arith, more, distinct xs (λ i j d less within. pairs (suc i) (suc j) d (omega (arith, less)) (omega (arith, within))))

-- raw coupons that increase from the last one without a value are coupons
pub increasing_coupons : (xs : List ℕ) → IsStrictlyIncreasing ((2 ^ 26 - 1) ∷ xs) → AreCoupons xs
increasing_coupons xs up =
    let pairs = AllPairs-from_increasing ((2 ^ 26 - 1) ∷ xs) up in
    record {
      valued = λ i d within. let above : 2 ^ 26 - 1 < get_or xs i d = pairs 0 (suc i) d (omega arith) (omega (arith, within)) in omega (arith, above);
      distinct = distinct xs (λ i j d less within. pairs (suc i) (suc j) d (omega (arith, less)) (omega (arith, within)));
    }

-- and so are raw coupons for which one pass shows it
pub evident_coupons : (xs : List ℕ) → AreEvidentlyCoupons xs → AreCoupons xs
evident_coupons xs (inl up) = increasing_coupons xs up
evident_coupons xs (inr few) = few.1

-- ---- raw coupons that are left

-- the first of them, and the ones after it
pub next_raw_coupon : (left counter count : ℕ) (b : List ℕ) → left + counter ≡ count → counter < count → raw_coupons left b ≡ from_le_bytes w32 b ∷ raw_coupons (left - 1) (drop 4 b)
next_raw_coupon zero counter count b is less = absurd (omega (arith, is, less))
next_raw_coupon (suc n) counter count b is less = ap (λ m. from_le_bytes w32 b ∷ raw_coupons m (drop 4 b)) (let e : n ≡ suc n - 1 = omega arith in e)
