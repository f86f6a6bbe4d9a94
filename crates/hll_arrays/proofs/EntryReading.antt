-- SPDX-License-Identifier: Apache-2.0
-- Exceptions that are read into a map, one bucket after the other.
use Rattle.std.proofs.Common.{◌≡◌, ◌≢◌, ℕ, zero, suc, ◌+◌, ◌-◌, ◌*◌, ◌%◌, ◌^◌, ◌<◌, ◌≤◌, ◌⊎◌, Bool, true, false, cond, eqb, List, [], ◌∷◌, ◌++◌, Option, Some, None, length, drop, map, refl, sym, ap, ◌∙◌, arith, append_assoc, inl, inr}
use Rattle.std.specs.Prelude.{find}
use Rattle.std.specs.Int.{w32, from_le_bytes}
use Rattle.std.specs.FinSet.{contains, len, len-empty}
use Rattle.std.specs.Option.{option_map, option_or}
use Rattle.std.specs.Ordering.{nat_cmp}
use Rattle.std.proofs.lemmas.Bool.{cases_Bool, cases_eq, cond-true, cond-false, eq-eqb, eqb-true, ne_eqb}
use Rattle.std.proofs.lemmas.List.{append-nil, drop-drop, length-append, length-map, map-append}
use Rattle.std.proofs.lemmas.List.Elements.{All-append, filter-append}
use Rattle.std.proofs.lemmas.List.Folds.{find-append}
use Rattle.std.proofs.Math.Nat.{zero-add}
use Rattle.hll_coupons.specs.AuxMap.{entry_at}
use Rattle.hll_coupons.specs.Coupons.{raw_coupons, coupons_at}
use Rattle.hll_coupons.specs.Pair.{set_of, slot_of, value_of}
use Rattle.hll_coupons.specs.Table.{coupons_in}
use Rattle.hll_coupons.proofs.Listed.{has, contains-has, finds, finds_none, has-map, has-from_map, From}
use Rattle.hll_coupons.proofs.Members.{len-between}
use Rattle.hll_coupons.proofs.Putting.{last_of_all}
use Rattle.hll_coupons.proofs.Reading.{next, next-empty, not_distinct}
use Rattle.hll_registers.specs.Payload.{AreEntries}
use Rattle.hll_registers.proofs.FourBits.{All-one}

-- ---- buckets

raw_coupons-split : (i n : ℕ) (b : List ℕ) → raw_coupons (i + n) b ≡ raw_coupons i b ++ raw_coupons n (drop (4 * i) b)
raw_coupons-split zero n b = ap (λ m. raw_coupons m b) (zero-add n)
raw_coupons-split (suc i) n b =
    ap (λ m. raw_coupons m b) (let e : suc i + n ≡ suc (i + n) = omega arith in e) ∙ ap (λ ws. from_le_bytes w32 b ∷ ws) (raw_coupons-split i n (drop 4 b))
    ∙ ap (λ d. raw_coupons (suc i) b ++ raw_coupons n d) (drop-drop (4 * i) 4 b ∙ ap (λ m. drop m b) (let e : 4 + 4 * i ≡ 4 * suc i = omega arith in e))

-- the exceptions of the first buckets, and those of the others
coupons-split : (compact : Bool) (i n : ℕ) (b : List ℕ) → coupons_at compact (i + n) b ≡ coupons_at compact i b ++ coupons_at compact n (drop (4 * i) b)
coupons-split true i n b = raw_coupons-split i n b
coupons-split false i n b = ap coupons_in (raw_coupons-split i n b) ∙ filter-append _ (raw_coupons i b) (raw_coupons n (drop (4 * i) b))

module _ (compact : Bool) (i w : ℕ) (b rest : List ℕ) (is : rest ≡ drop (4 * i) b) (word : w ≡ from_le_bytes w32 rest) where
  here : w ≡ from_le_bytes w32 (drop (4 * i) b)
  here = word ∙ ap (from_le_bytes w32) is

  -- one more bucket with an entry
  pub coupons-more : (w ≡ 0 → compact ≡ true) → coupons_at compact (i + 1) b ≡ coupons_at compact i b ++ w ∷ []
  coupons-more filled =
      coupons-split compact i 1 b
      ∙ ap (λ xs. coupons_at compact i b ++ xs) (next compact 0 (drop (4 * i) b) (λ z. filled (here ∙ z)) ∙ (λ j. sym here j ∷ none compact j))
    where
      none : (c : Bool) → coupons_at c 0 (drop 4 (drop (4 * i) b)) ≡ []
      none true = refl
      none false = refl

  -- one more empty bucket
  pub coupons-same : compact ≡ false → w ≡ 0 → coupons_at compact (i + 1) b ≡ coupons_at compact i b
  coupons-same loose empty =
      coupons-split compact i 1 b
      ∙ ap (λ xs. coupons_at compact i b ++ xs) (ap (λ c. coupons_at c 1 (drop (4 * i) b)) loose ∙ next-empty 0 (drop (4 * i) b) (sym here ∙ empty))
      ∙ append-nil (coupons_at compact i b)

  -- the cursor goes on
  pub rest-more : (more : List ℕ) → more ≡ drop 4 rest → more ≡ drop (4 * (i + 1)) b
  rest-more more e = e ∙ ap (drop 4) is ∙ drop-drop 4 (4 * i) b ∙ ap (λ n. drop n b) (let s : 4 * i + 4 ≡ 4 * (i + 1) = omega arith in s)

  -- it is an entry among all
  pub coupons-all : (n : ℕ) → i < n → (w ≡ 0 → compact ≡ true) → (more : List ℕ) × (coupons_at compact n b ≡ coupons_at compact i b ++ w ∷ more)
  coupons-all n l filled =
      let more : List ℕ = coupons_at compact (n - (i + 1)) (drop (4 * (i + 1)) b) in (
        more,
        ap (λ m. coupons_at compact m b) (let e : n ≡ i + 1 + (n - (i + 1)) = omega (arith, l) in e) ∙ coupons-split compact (i + 1) (n - (i + 1)) b
            ∙ ap (λ xs. xs ++ more) (coupons-more filled) ∙ append_assoc (coupons_at compact i b) (w ∷ []) more,
      )

-- ---- entries

AreEntries-nil : (k : ℕ) → AreEntries k []
AreEntries-nil k = record { valued = λ i d l. absurd (omega (arith, l)); distinct = len-empty nat_cmp }

-- no bucket is read
pub entries-none : (k : ℕ) (compact : Bool) (b : List ℕ) → AreEntries k (coupons_at compact 0 b)
entries-none k true b = AreEntries-nil k
entries-none k false b = AreEntries-nil k

pub length-none : (compact : Bool) (b : List ℕ) → length (coupons_at compact 0 b) ≡ 0
length-none true b = refl
length-none false b = refl

pub entry_at-none : (k : ℕ) (compact : Bool) (b : List ℕ) (s : ℕ) → entry_at k (coupons_at compact 0 b) s ≡ None
entry_at-none k true b s = refl
entry_at-none k false b s = refl

module _ (k : ℕ) (order : List ℕ) (c : ℕ) where
  abbrev slot : ℕ
  slot = slot_of c % 2 ^ k

  abbrev images : List ℕ
  images = map (λ d. slot_of d % 2 ^ k) order

  -- a slot that already has an entry
  pub taken : entry_at k order slot ≢ None → contains (set_of images) slot ≡ true
  taken some = contains-has images slot ∙ of (find (λ d. eqb (slot_of d % 2 ^ k) slot) order) refl
    where
      of : (o : Option ℕ) → find (λ d. eqb (slot_of d % 2 ^ k) slot) order ≡ o → has slot images ≡ true
      of None e = absurd (some (ap (option_map value_of) e))
      of (Some d) e =
          let r = finds (λ d. eqb (slot_of d % 2 ^ k) slot) order d e in
          ap (λ s. has s images) (sym (eqb-true (slot_of d % 2 ^ k) slot r.1)) ∙ has-map (λ d. slot_of d % 2 ^ k) order d r.0

  module _ (none : entry_at k order slot ≡ None) where
    not_found : find (λ d. eqb (slot_of d % 2 ^ k) slot) order ≡ None
    not_found = of (find (λ d. eqb (slot_of d % 2 ^ k) slot) order) refl
      where
        of : (o : Option ℕ) → find (λ d. eqb (slot_of d % 2 ^ k) slot) order ≡ o → o ≡ None
        of None e = refl
        of (Some d) e = let some : Some (value_of d) ≡ None = sym (ap (option_map value_of) e) ∙ none in cc

    free : contains (set_of images) slot ≡ false
    free = elim (cases_Bool (has slot images)) [
      | inl t ↦
          let r : From (λ d. slot_of d % 2 ^ k) order slot = has-from_map (λ d. slot_of d % 2 ^ k) order slot t in
          absurd (finds_none (λ d. eqb (slot_of d % 2 ^ k) slot) order r.member not_found r.there (eq-eqb (slot_of r.member % 2 ^ k) slot (sym r.is)))
      | inr f ↦ contains-has images slot ∙ f
    ]

    -- a new entry after others
    pub entry_at-push : (s : ℕ) → entry_at k (order ++ c ∷ []) s ≡ cond (eqb s slot) (Some (value_of c)) (entry_at k order s)
    entry_at-push s = ap (option_map value_of) (find-append (λ d. eqb (slot_of d % 2 ^ k) s) order (c ∷ [])) ∙ elim (cases_eq s slot) [
      | inl same ↦
          let gone : find (λ d. eqb (slot_of d % 2 ^ k) s) order ≡ None = ap (λ q. find (λ d. eqb (slot_of d % 2 ^ k) q) order) same ∙ not_found in
          let found : find (λ d. eqb (slot_of d % 2 ^ k) s) (c ∷ []) ≡ Some c = cond-true (eqb slot s) (Some c) None (eq-eqb slot s (sym same)) in
          (λ i. option_map value_of (option_or (gone i) (found i))) ∙ sym (cond-true (eqb s slot) (Some (value_of c)) (entry_at k order s) (eq-eqb s slot same))
      | inr other ↦
          let passed : find (λ d. eqb (slot_of d % 2 ^ k) s) (c ∷ []) ≡ None = cond-false (eqb slot s) (Some c) None (ne_eqb slot s (λ e. other (sym e))) in
          ap (λ o. option_map value_of (option_or (find (λ d. eqb (slot_of d % 2 ^ k) s) order) o)) passed ∙ ap (option_map value_of) (or_none (find (λ d. eqb (slot_of d % 2 ^ k) s) order))
          ∙ sym (cond-false (eqb s slot) (Some (value_of c)) (entry_at k order s) (ne_eqb s slot other))
    ]
      where
        or_none : (o : Option ℕ) → option_or o None ≡ o
        or_none None = refl
        or_none (Some d) = refl

    pub AreEntries-push : AreEntries k order → 1 ≤ value_of c → AreEntries k (order ++ c ∷ [])
    AreEntries-push are valued = record {
      valued = All-append (λ c. 1 ≤ value_of c) order (c ∷ []) are.valued (All-one (λ c. 1 ≤ value_of c) c valued);
      distinct =
          let split : map (λ d. slot_of d % 2 ^ k) (order ++ c ∷ []) ≡ images ++ slot ∷ [] = map-append (λ d. slot_of d % 2 ^ k) order (c ∷ []) in
          let alone : contains (set_of (images ++ [])) slot ≡ false = ap (λ ys. contains (set_of ys) slot) (append-nil images) ∙ free in
          ap (λ ys. len (set_of ys)) split ∙ len-between images [] slot alone ∙ ap (λ ys. len (set_of ys) + 1) (append-nil images) ∙ omega (arith, are.distinct, length-append order (c ∷ []));
    }

-- a raw coupon without a value is no entry, nor is one whose slot already has an entry
pub no_entry : (k : ℕ) (order more all : List ℕ) (c : ℕ) → all ≡ order ++ c ∷ more → (value_of c ≡ 0) ⊎ (entry_at k order (slot_of c % 2 ^ k) ≢ None) → AreEntries k all → ⊥
no_entry k order more all c is (inl none) are =
    let some : 1 ≤ value_of c = last_of_all (λ c. 1 ≤ value_of c) all order more c is are.valued in
    absurd (omega (arith, none, some))
no_entry k order more all c is (inr some) are =
    let split : map (λ d. slot_of d % 2 ^ k) all ≡ map (λ d. slot_of d % 2 ^ k) order ++ slot_of c % 2 ^ k ∷ map (λ d. slot_of d % 2 ^ k) more =
    ap (map (λ d. slot_of d % 2 ^ k)) is ∙ map-append (λ d. slot_of d % 2 ^ k) order (c ∷ more) in
    not_distinct (map (λ d. slot_of d % 2 ^ k) order) (map (λ d. slot_of d % 2 ^ k) more) (slot_of c % 2 ^ k) (taken k order c some)
    (ap (λ ys. len (set_of ys)) (sym split) ∙ are.distinct ∙ sym (length-map all (λ d. slot_of d % 2 ^ k)) ∙ ap length split)
