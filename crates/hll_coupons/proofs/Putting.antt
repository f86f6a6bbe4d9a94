-- SPDX-License-Identifier: Apache-2.0
-- Entries that are put by a search for their key: the entries of the table afterwards.
use Rattle.std.proofs.Common.{◌≡◌, ℕ, zero, suc, ◌+◌, ◌^◌, ◌<◌, Bool, true, false, ◌||◌, List, [], ◌∷◌, ◌++◌, All, map, nat_eq, length, get_or, set, refl, sym, subst, ap, ◌∙◌, arith, inl, inr}
use Rattle.std.specs.List.{list_any}
use Rattle.std.specs.FinSet.{contains, insert, len, contains-from_list_nat}
use Rattle.std.proofs.lemmas.Bool.{cases_lt, cases_eq, cases_Bool, eqb-true, eq-eqb, true≢false}
use Rattle.std.proofs.lemmas.List.{get_or_default, length-append, length-map, map-append}
use Rattle.std.proofs.lemmas.List.Folds.{list_any_at, list_any-append}
use Rattle.hll_coupons.specs.Pair.{set_of}
use Rattle.hll_coupons.specs.Table.{coupons_in}
use Rattle.hll_coupons.specs.Probe.{stride_of, Passes, EndsAt, IsAbsent, Puts, present, placed}
use Rattle.hll_coupons.proofs.Listed.{has, contains-has, has-map}
use Rattle.hll_coupons.proofs.Members.{contains-coupons_in, contains-zero, set_of-between, insert-member}
use Rattle.hll_coupons.proofs.Buckets.{coupons_in-full, Between, between}
use Rattle.hll_coupons.proofs.Probing.{meets}
use Rattle.hll_coupons.proofs.Reading.{len-set_of-le}
use Rattle.hll_coupons.proofs.Searching.{odd-stride_of, bucket_of-path, bucket_of_below}

-- ---- what buckets hold

-- a coupon that no bucket has is not a member
absent_raw_coupon : (buckets : List ℕ) (q : ℕ) → 0 < q → IsAbsent (λ c. c) buckets q → list_any (λ y. nat_eq y q) buckets ≡ false
absent_raw_coupon [] q full none = refl
absent_raw_coupon (p ∷ ps) q full none = first (nat_eq p q) refl (absent_raw_coupon ps q full (λ i h f. none (suc i) (omega arith) f))
  where
    first : (b : Bool) → nat_eq p q ≡ b → list_any (λ y. nat_eq y q) ps ≡ false → (b || list_any (λ y. nat_eq y q) ps) ≡ false
    first true e rest = absurd (none 0 (omega arith) (λ z. omega (arith, full, z, eqb-true p q e)) (eqb-true p q e))
    first false e rest = rest

-- an entry whose key is absent is not a member
pub absent_fresh : (key_of : ℕ → ℕ) (buckets : List ℕ) (c : ℕ) → 0 < c → IsAbsent key_of buckets (key_of c) → contains (set_of (coupons_in buckets)) c ≡ false
absent_fresh key_of buckets c some none =
    sym (contains-coupons_in buckets c some) ∙ absent_raw_coupon buckets c some (λ p h full is. none p h full (ap key_of is))

-- an entry that a bucket has is a member
pub found_at_bucket : (buckets : List ℕ) (p q : ℕ) → p < length buckets → get_or buckets p 0 ≡ q → 0 < q → contains (set_of (coupons_in buckets)) q ≡ true
found_at_bucket buckets p q within is full =
    sym (contains-coupons_in buckets q full) ∙ list_any_at (λ y. nat_eq y q) buckets p 0 within (eq-eqb (get_or buckets p 0) q is)

-- each member is in a bucket
pub record Stands (buckets : List ℕ) (q : ℕ) : Type 0 where
  pub bucket : ℕ
  pub within : bucket < length buckets
  pub full : get_or buckets bucket 0 ≡ 0 → ⊥
  pub is : get_or buckets bucket 0 ≡ q

stands_raw_coupon : (buckets : List ℕ) (q : ℕ) → 0 < q → list_any (λ y. nat_eq y q) buckets ≡ true → Stands buckets q
stands_raw_coupon [] q some h = absurd (true≢false (sym h))
stands_raw_coupon (p ∷ ps) q some h = decide (nat_eq p q) refl h (stands_raw_coupon ps q some)
  where
    decide : (b : Bool) → nat_eq p q ≡ b → (b || list_any (λ y. nat_eq y q) ps) ≡ true → (list_any (λ y. nat_eq y q) ps ≡ true → Stands ps q) → Stands (p ∷ ps) q
    decide true e u later = let same : p ≡ q = eqb-true p q e in record { bucket = 0; within = omega arith; full = λ z. omega (arith, some, z, same); is = same }
    decide false e u later = let s : Stands ps q = later u in record { bucket = suc s.bucket; within = omega (arith, s.within); full = s.full; is = s.is }

pub stands : (buckets : List ℕ) (q : ℕ) → contains (set_of (coupons_in buckets)) q ≡ true → Stands buckets q
stands buckets q h = elim (cases_lt 0 q) [
  | inl some ↦ stands_raw_coupon buckets q some (contains-coupons_in buckets q some ∙ h)
  | inr none ↦ let z : q ≡ 0 = omega arith in absurd (true≢false (sym h ∙ ap (contains (set_of (coupons_in buckets))) z ∙ contains-zero buckets))
]

all_filled : (buckets : List ℕ) → ((p : ℕ) → p < length buckets → get_or buckets p 0 ≡ 0 → ⊥) → coupons_in buckets ≡ buckets
all_filled [] h = refl
all_filled (p ∷ ps) h =
    let some : p ≡ 0 → ⊥ = h 0 (omega arith) in
    coupons_in-full p ps (omega (arith, some)) ∙ ap (λ xs. p ∷ xs) (all_filled ps (λ i l. h (suc i) (omega arith)))

-- a table is full if a search went through all of it
pub full_of_passes : (key_of : ℕ → ℕ) (lg : ℕ) (buckets : List ℕ) (key : ℕ) → length buckets ≡ 2 ^ lg → Passes key_of lg buckets key (2 ^ lg) →
    length (coupons_in buckets) ≡ 2 ^ lg
full_of_passes key_of lg buckets key size before = ap length (all_filled buckets filled) ∙ size
  where
    filled : (p : ℕ) → p < length buckets → get_or buckets p 0 ≡ 0 → ⊥
    filled p within z =
        let m = meets key (stride_of lg key) lg p (odd-stride_of lg key) (omega (arith, within, size)) in
        (before m.0 m.1).0 (ap (λ q. get_or buckets q 0) (bucket_of-path lg key m.0 m.1 ∙ m.2) ∙ z)

-- ---- one entry

-- the place of an entry whose key was absent, and the buckets after it is put there
pub record PutAt (buckets : List ℕ) (entry : ℕ) (new : List ℕ) : Type 0 where
  pub bucket : ℕ
  pub within : bucket < length buckets
  pub empty : get_or buckets bucket 0 ≡ 0
  pub is : new ≡ set buckets bucket entry

pub put_at : (key_of : ℕ → ℕ) (lg : ℕ) (buckets : List ℕ) (c : ℕ) (new : List ℕ) → length buckets ≡ 2 ^ lg → IsAbsent key_of buckets (key_of c) →
    Puts key_of lg buckets c new → PutAt buckets c new
put_at key_of lg buckets c new size none (present p first full same is) =
    absurd (none p (omega (arith, bucket_of_below lg (key_of c) first.index first.within, first.at, size)) full same)
put_at key_of lg buckets c new size none (placed p first empty is) = record {
  bucket = p;
  within = omega (arith, bucket_of_below lg (key_of c) first.index first.within, first.at, size);
  empty = empty;
  is = is;
}

-- the number of entries grows by one
pub length-put : (buckets : List ℕ) (c : ℕ) (new : List ℕ) → 0 < c → PutAt buckets c new → length (coupons_in new) ≡ length (coupons_in buckets) + 1
length-put buckets c new some put =
    let b : Between buckets put.bucket c = between buckets put.bucket c put.within put.empty some in
    ap (λ xs. length (coupons_in xs)) put.is ∙ ap length b.new ∙ omega (arith, length-append b.before (c ∷ b.after), length-append b.before b.after)
    ∙ ap (λ xs. length xs + 1) (sym b.old)

-- the set gets the entry as a member
pub members-put : (buckets : List ℕ) (c : ℕ) (new : List ℕ) → 0 < c → PutAt buckets c new → set_of (coupons_in new) ≡ insert (set_of (coupons_in buckets)) c
members-put buckets c new some put =
    let b : Between buckets put.bucket c = between buckets put.bucket c put.within put.empty some in
    ap (λ xs. set_of (coupons_in xs)) put.is ∙ ap set_of b.new ∙ set_of-between b.before b.after c ∙ ap (λ xs. insert (set_of xs) c) (sym b.old)

-- a bucket that is emptied again
pub undone : (buckets : List ℕ) (p entry : ℕ) → get_or buckets p 0 ≡ 0 → set (set buckets p entry) p 0 ≡ buckets
undone [] p entry z = refl
undone (x ∷ xs) zero entry z = ap (λ y. y ∷ xs) (sym z)
undone (x ∷ xs) (suc p) entry z = ap (λ ys. x ∷ ys) (undone xs p entry z)

-- ---- one after the other

-- if no two elements have the same image, the image of the next one is new
pub fresh_next : (f : ℕ → ℕ) (ys zs : List ℕ) (c : ℕ) → len (set_of (map f (ys ++ c ∷ zs))) ≡ length (ys ++ c ∷ zs) → contains (set_of (map f ys)) (f c) ≡ false
fresh_next f ys zs c distinct = elim (cases_Bool (contains (set_of (map f ys)) (f c))) [
  | inr new ↦ new
  | inl old ↦
      let more : contains (set_of (map f ys ++ map f zs)) (f c) ≡ true =
      contains-from_list_nat (map f ys ++ map f zs) (f c) ∙ list_any-append (λ y. nat_eq y (f c)) (map f ys) (map f zs)
      ∙ ap (λ b. b || list_any (λ y. nat_eq y (f c)) (map f zs)) (sym (contains-from_list_nat (map f ys) (f c)) ∙ old) in
      let same : set_of (map f (ys ++ c ∷ zs)) ≡ set_of (map f ys ++ map f zs) =
      ap set_of (map-append f ys (c ∷ zs)) ∙ set_of-between (map f ys) (map f zs) (f c) ∙ insert-member _ (f c) more in
      absurd (omega (arith, distinct, ap len same, len-set_of-le (map f ys ++ map f zs), length-append (map f ys) (map f zs), length-map ys f, length-map zs f, length-append ys (c ∷ zs)))
]

-- so its key is absent from a table of those before
pub absent_next : (f : ℕ → ℕ) (buckets ys : List ℕ) (c : ℕ) → set_of (coupons_in buckets) ≡ set_of ys → contains (set_of (map f ys)) (f c) ≡ false → IsAbsent f buckets (f c)
absent_next f buckets ys c members new p within full same =
    let w : ℕ = get_or buckets p 0 in
    let there : has w ys ≡ true = sym (contains-has ys w) ∙ ap (λ S. contains S w) (sym members) ∙ found_at_bucket buckets p w within refl (omega (arith, full)) in
    true≢false (sym (has-map f ys w there) ∙ ap (λ q. has q (map f ys)) same ∙ sym (contains-has (map f ys) (f c)) ∙ new)

-- what holds for all elements holds for the one between two parts
pub last_of_all : {X : Type 0} (P : X → Type 0) (all ys zs : List X) (c : X) → all ≡ ys ++ c ∷ zs → All P all → P c
last_of_all {X} P all ys zs c e h = subst P (seam ys) (subst (All P) e h (length ys) c (omega (arith, length-append ys (c ∷ zs))))
  where
    seam : (xs : List X) → get_or (xs ++ c ∷ zs) (length xs) c ≡ c
    seam [] = refl
    seam (x ∷ xs) = seam xs

-- ---- what a search in a table says

-- a search for an absent key ends at an empty bucket
pub empty_end : (key_of : ℕ → ℕ) (lg : ℕ) (buckets : List ℕ) (key p : ℕ) → length buckets ≡ 2 ^ lg → IsAbsent key_of buckets key → EndsAt key_of lg buckets key p → get_or buckets p 0 ≡ 0
empty_end key_of lg buckets key p size none ends = elim (cases_eq (get_or buckets p 0) 0) [
  | inl z ↦ z
  | inr full ↦ absurd (none p (omega (arith, ends.within, size)) full (ends.same full))
]

-- an entry that was read
pub read_at : (ps qs : List ℕ) (bucket entry : ℕ) → ps ≡ qs → bucket < length qs → entry ≡ get_or ps bucket entry → get_or qs bucket 0 ≡ entry
read_at ps qs bucket entry e within is = get_or_default qs bucket 0 entry within ∙ ap (λ xs. get_or xs bucket entry) (sym e) ∙ sym is

pub ends_as : (key_of : ℕ → ℕ) (lg n : ℕ) (ps qs : List ℕ) (key k bucket : ℕ) → lg ≡ n → ps ≡ qs → key ≡ k →
    EndsAt key_of lg ps key bucket → EndsAt key_of n qs k bucket
ends_as key_of lg n ps qs key k bucket l p e h =
    subst (λ n. EndsAt key_of n qs k bucket) l (subst (λ xs. EndsAt key_of lg xs k bucket) p (subst (λ k. EndsAt key_of lg ps k bucket) e h))

pub passes_as : (key_of : ℕ → ℕ) (lg n : ℕ) (ps qs : List ℕ) (key k : ℕ) → lg ≡ n → ps ≡ qs → key ≡ k →
    Passes key_of lg ps key (2 ^ lg) → Passes key_of n qs k (2 ^ n)
passes_as key_of lg n ps qs key k l p e h =
    subst (λ n. Passes key_of n qs k (2 ^ n)) l (subst (λ xs. Passes key_of lg xs k (2 ^ lg)) p (subst (λ k. Passes key_of lg ps k (2 ^ lg)) e h))
