-- SPDX-License-Identifier: Apache-2.0
-- Lemmas on reading the buckets of a list.
use Rattle.std.proofs.Common.{◌≡◌, ◌≢◌, ℕ, zero, suc, ◌+◌, ◌-◌, ◌*◌, ◌^◌, ◌<◌, ◌≤◌, Bool, true, false, ◌||◌, cond, nat_eq, List, [], ◌∷◌, ◌++◌, length, drop, take, get_or, map, All, refl, sym, ◌∙◌, ap, subst, arith}
use Rattle.std.specs.Int.{w32, from_le_bytes}
use Rattle.std.specs.Cmp.{nat_cmp_total}
use Rattle.std.specs.FinSet.{len, contains, len-empty, len-insert, contains-from_list_nat}
use Rattle.std.proofs.lemmas.Bool.{true≢false}
use Rattle.std.proofs.lemmas.List.{length-append, length-take, append-nil, drop_more, take-append-drop}
use Rattle.std.proofs.lemmas.List.Folds.{list_any-append}
use Rattle.std.specs.List.{list_any}
use Rattle.std.specs.Ordering.{nat_cmp}
use Rattle.std.proofs.lemmas.List.Elements.{All-append}
use Rattle.hll_coupons.specs.Pair.{set_of, value_of}
use Rattle.hll_coupons.specs.Coupons.{raw_coupons, coupons_at, AreCoupons}
use Rattle.hll_coupons.specs.Payload.{ListShape, HasListCount, list_buckets, list_coupons, IsListPayload}
use Rattle.hll_coupons.specs.Table.{coupons_in}
use Rattle.hll_coupons.specs.Payload.{list_table}
use Rattle.hll_coupons.proofs.Payloads.{front_coupons}
use Rattle.hll_coupons.proofs.Buckets.{coupons_in-front, coupons_in-full, coupons_in-empty}
use Rattle.hll_coupons.proofs.Members.{set_of-between, insert-member, len-between}

-- ---- one bucket more

-- the coupons among buckets: all buckets if the image is compact, else those that are not empty
abbrev pub among : Bool → List ℕ → List ℕ
among compact buckets = cond compact buckets (coupons_in buckets)

pub among-cons : (compact : Bool) (w : ℕ) (buckets : List ℕ) → (w ≡ 0 → compact ≡ true) → among compact (w ∷ buckets) ≡ w ∷ among compact buckets
among-cons true w buckets filled = refl
among-cons false w buckets filled = coupons_in-full w buckets (positive w (λ z. true≢false (sym (filled z))))
  where
    positive : (w : ℕ) → w ≢ 0 → 0 < w
    positive zero h = absurd (h refl)
    positive (suc n) h = omega arith

pub among-nil : (compact : Bool) → among compact [] ≡ []
among-nil true = refl
among-nil false = refl

pub next-empty : (m : ℕ) (b : List ℕ) → from_le_bytes w32 b ≡ 0 → coupons_at false (suc m) b ≡ coupons_at false m (drop 4 b)
next-empty m b h = coupons_in-empty (from_le_bytes w32 b) (raw_coupons m (drop 4 b)) h

pub next : (compact : Bool) (m : ℕ) (b : List ℕ) → (from_le_bytes w32 b ≡ 0 → compact ≡ true) → coupons_at compact (suc m) b ≡ from_le_bytes w32 b ∷ coupons_at compact m (drop 4 b)
next compact m b filled = among-cons compact (from_le_bytes w32 b) (raw_coupons m (drop 4 b)) filled

-- ---- coupons

-- a list has at least as many elements as its set has members
pub len-set_of-le : (xs : List ℕ) → len (set_of xs) ≤ length xs
len-set_of-le [] = omega (arith, len-empty nat_cmp)
len-set_of-le (x ∷ xs) =
    let e : len (set_of (x ∷ xs)) ≡ cond (contains (set_of xs) x) (len (set_of xs)) (len (set_of xs) + 1) = len-insert nat_cmp_total (set_of xs) x in
    let le : cond (contains (set_of xs) x) (len (set_of xs)) (len (set_of xs) + 1) ≤ len (set_of xs) + 1 =
    elim (contains (set_of xs) x) as (λ b. cond b (len (set_of xs)) (len (set_of xs) + 1) ≤ len (set_of xs) + 1) [ true ↦ omega arith | false ↦ omega arith ] in
    omega (arith, len-set_of-le xs)

-- a raw coupon without a value is no coupon
pub no_value : (xs rest : List ℕ) (c : ℕ) → value_of c ≡ 0 → AreCoupons (xs ++ c ∷ rest) → ⊥
no_value xs rest c none are =
    let at : 1 ≤ value_of (get_or (xs ++ c ∷ rest) (length xs) 0) = are.valued (length xs) 0 (omega (arith, length-append xs (c ∷ rest))) in
    let is : get_or (xs ++ c ∷ rest) (length xs) 0 ≡ c = seam xs in
    omega (arith, ap value_of is)
  where
    seam : (ys : List ℕ) → get_or (ys ++ c ∷ rest) (length ys) 0 ≡ c
    seam [] = refl
    seam (y ∷ ys) = seam ys

-- a raw coupon that occurred before makes the list not distinct
pub not_distinct : (xs rest : List ℕ) (c : ℕ) → contains (set_of xs) c ≡ true → len (set_of (xs ++ c ∷ rest)) ≡ length (xs ++ c ∷ rest) → ⊥
not_distinct xs rest c there distinct =
    let more : contains (set_of (xs ++ rest)) c ≡ true = contains-front xs rest c there in
    let same : set_of (xs ++ c ∷ rest) ≡ set_of (xs ++ rest) = set_of-between xs rest c ∙ insert-member (set_of (xs ++ rest)) c more in
    omega (arith, distinct, ap len same, len-set_of-le (xs ++ rest), length-append xs rest, length-append xs (c ∷ rest))
  where
    contains-front : (xs rest : List ℕ) (c : ℕ) → contains (set_of xs) c ≡ true → contains (set_of (xs ++ rest)) c ≡ true
    contains-front xs rest c h =
        contains-from_list_nat (xs ++ rest) c ∙ list_any-append (λ y. nat_eq y c) xs rest
        ∙ ap (λ b. b || list_any (λ y. nat_eq y c) rest) (sym (contains-from_list_nat xs c) ∙ h)

-- so the list is not one of coupons
pub twice : (xs rest : List ℕ) (c : ℕ) → contains (set_of xs) c ≡ true → AreCoupons (xs ++ c ∷ rest) → ⊥
twice xs rest c there are = not_distinct xs rest c there are.distinct

-- a new coupon after others
pub AreCoupons-push : (xs : List ℕ) (c : ℕ) → AreCoupons xs → 1 ≤ value_of c → contains (set_of xs) c ≡ false → AreCoupons (xs ++ c ∷ [])
AreCoupons-push xs c are valued new = record {
  valued = All-append (λ c. 1 ≤ value_of c) xs (c ∷ []) are.valued (one c valued);
  distinct =
      let none : contains (set_of (xs ++ [])) c ≡ false = ap (λ ys. contains (set_of ys) c) (append-nil xs) ∙ new in
      len-between xs [] c none ∙ ap (λ ys. len (set_of ys) + 1) (append-nil xs) ∙ omega (arith, are.distinct, length-append xs (c ∷ []));
}
  where
    one : (c : ℕ) → 1 ≤ value_of c → All (λ c. 1 ≤ value_of c) (c ∷ [])
    one c h zero d l = h
    one c h (suc i) d l = absurd (omega arith)

pub AreCoupons-nil : AreCoupons []
AreCoupons-nil = record { valued = λ i d l. absurd (omega arith); distinct = len-empty nat_cmp }

-- the coupons of all buckets are those read so far, this one, and the rest
pub all_buckets : (compact : Bool) (n i w : ℕ) (b drop4 all order : List ℕ) → i < n → all ≡ order ++ coupons_at compact (n - i) b → w ≡ from_le_bytes w32 b → drop4 ≡ drop 4 b
    → (w ≡ 0 → compact ≡ true) → all ≡ order ++ w ∷ coupons_at compact (n - (i + 1)) drop4
all_buckets compact n i w b drop4 all order lt is raw_coupon rest filled =
    let m : ℕ = n - (i + 1) in
    let count : n - i ≡ suc m = omega arith in
    is ∙ ap (λ k. order ++ coupons_at compact k b) count ∙ ap (λ xs. order ++ xs) (next compact m b (λ z. filled (raw_coupon ∙ z)))
    ∙ (λ j. order ++ sym raw_coupon j ∷ coupons_at compact m (sym rest j))

-- an empty bucket is skipped
pub passed_over : (n i w : ℕ) (b drop4 all order : List ℕ) → i < n → all ≡ order ++ coupons_at false (n - i) b → w ≡ from_le_bytes w32 b → drop4 ≡ drop 4 b → w ≡ 0
    → all ≡ order ++ coupons_at false (n - (i + 1)) drop4
passed_over n i w b drop4 all order lt is raw_coupon rest zero' =
    let m : ℕ = n - (i + 1) in
    let count : n - i ≡ suc m = omega arith in
    is ∙ ap (λ k. order ++ coupons_at false k b) count ∙ ap (λ xs. order ++ xs) (next-empty m b (sym raw_coupon ∙ zero'))
    ∙ ap (λ d. order ++ coupons_at false m d) (sym rest)

-- an element of four bytes is read
pub element_read : (compact : Bool) (elements : List (List ℕ)) (i w : ℕ) (e all order : List ℕ) → i < length elements → all ≡ order ++ among compact (map (from_le_bytes w32) (drop i elements))
    → w ≡ from_le_bytes w32 (get_or elements i e) → (w ≡ 0 → compact ≡ true) → all ≡ order ++ w ∷ among compact (map (from_le_bytes w32) (drop (i + 1) elements))
element_read compact elements i w e all order lt is raw_coupon filled =
    let rest : List ℕ = map (from_le_bytes w32) (drop (i + 1) elements) in
    is ∙ ap (λ xs. order ++ among compact (map (from_le_bytes w32) xs)) (drop_more elements i e lt)
    ∙ ap (λ xs. order ++ xs) (among-cons compact (from_le_bytes w32 (get_or elements i e)) rest (λ z. filled (raw_coupon ∙ z)))
    ∙ (λ j. order ++ sym raw_coupon j ∷ among compact rest)

-- an element of an empty bucket is skipped
pub element_passed : (elements : List (List ℕ)) (i w : ℕ) (e all order : List ℕ) → i < length elements → all ≡ order ++ coupons_in (map (from_le_bytes w32) (drop i elements))
    → w ≡ from_le_bytes w32 (get_or elements i e) → w ≡ 0 → all ≡ order ++ coupons_in (map (from_le_bytes w32) (drop (i + 1) elements))
element_passed elements i w e all order lt is raw_coupon zero' =
    is ∙ ap (λ xs. order ++ coupons_in (map (from_le_bytes w32) xs)) (drop_more elements i e lt)
    ∙ ap (λ xs. order ++ xs) (coupons_in-empty (from_le_bytes w32 (get_or elements i e)) (map (from_le_bytes w32) (drop (i + 1) elements)) (sym raw_coupon ∙ zero'))

-- ---- a list

-- there are no more buckets to read than the table has
pub list_buckets-le : (h : ListShape) → HasListCount h → list_buckets h ≤ 2 ^ h.lg_size
list_buckets-le h few = of h.empty h.compact
  where
    of : (e c : Bool) → cond e 0 (cond c h.count (2 ^ h.lg_size)) ≤ 2 ^ h.lg_size
    of true c = omega arith
    of false true = few.low
    of false false = omega arith

-- the coupons depend only on the bytes of the buckets
pub list_coupons-front : (h : ListShape) (b : List ℕ) → 4 * list_buckets h ≤ length b → list_coupons h (take (4 * list_buckets h) b) ≡ list_coupons h b
list_coupons-front h b there =
    front_coupons (take (4 * list_buckets h) b) (drop (4 * list_buckets h) b) b (take-append-drop (4 * list_buckets h) b) h.compact (list_buckets h) 0 (omega (arith, length-take (4 * list_buckets h) b))

pub is_list_payload : (h : ListShape) (b : List ℕ) → HasListCount h → 4 * list_buckets h ≤ length b → AreCoupons (list_coupons h b) → length (list_coupons h b) ≡ h.count → IsListPayload h (take (4 * list_buckets h) b)
is_list_payload h b few there are number = record {
  count = few;
  size = omega (arith, length-take (4 * list_buckets h) b);
  are_coupons = subst AreCoupons (sym (list_coupons-front h b there)) are;
  number = ap length (list_coupons-front h b there) ∙ number;
}

-- coupons are not empty
pub coupons_in-coupons : (xs : List ℕ) → All (λ c. 1 ≤ value_of c) xs → coupons_in xs ≡ xs
coupons_in-coupons [] v = refl
coupons_in-coupons (x ∷ xs) v = coupons_in-full x xs (positive x (v 0 0 (omega arith))) ∙ ap (λ ys. x ∷ ys) (coupons_in-coupons xs (λ i d l. v (suc i) d (omega (arith, l))))
  where
    positive : (x : ℕ) → 1 ≤ value_of x → 0 < x
    positive zero h = absurd (omega (arith, h))
    positive (suc n) h = omega arith

-- the table that is read has the coupons in their order
pub coupons_in-list_table : (h : ListShape) (b : List ℕ) → AreCoupons (list_coupons h b) → coupons_in (list_table h b).buckets ≡ list_coupons h b
coupons_in-list_table h b are = coupons_in-front (list_coupons h b) (2 ^ h.lg_size - length (list_coupons h b)) ∙ coupons_in-coupons (list_coupons h b) are.valued
