-- SPDX-License-Identifier: Apache-2.0
-- Maps of exceptions: their entries, the size of their table, and what a search in it shows.
use Rattle.std.proofs.Common.{◌≡◌, ◌≢◌, ◌⊎◌, nat_eq, ℕ, suc, ◌+◌, ◌-◌, ◌*◌, ◌%◌, ◌^◌, ◌<◌, ◌≤◌, Bool, true, false, eqb, leb, cond, List, [], All, Option, Some, None, length, map, get_or, refl, sym, subst, ap, ◌∙◌, arith, inl, inr}
use Rattle.std.specs.Prelude.{find, unwrap_or, nat_le, IfSome}
use Rattle.std.specs.List.{range_with_len}
use Rattle.std.specs.Option.{option_map}
use Rattle.std.specs.FinSet.{contains, len}
use Rattle.std.proofs.lemmas.Bool.{cases_Bool, cases_eq, cases_lt, cond-true, cond-false, eqb-true, eq-eqb, leb-true, leb-false, le-leb, lt-leb}
use Rattle.std.proofs.lemmas.List.FromFn.{get_or-range_with_len, length-range_with_len}
use Rattle.std.proofs.lemmas.List.Elements.{All-from_get_or}
use Rattle.std.proofs.lemmas.Nat.{pow_pos}
use Rattle.std.proofs.Math.Nat.{mod-eq_of_lt, pow-suc, zero-add}
use Rattle.std.proofs.Math.Pow.{pow_mono}
use Rattle.hll_coupons.specs.AuxMap.{ExceptionMap, IsMap, empty_map, entry_at, value_in, start_size, table_size}
use Rattle.hll_coupons.specs.Pair.{IsPair, set_of, slot_of, value_of}
use Rattle.hll_coupons.specs.Probe.{Passes, EndsAt, IsProbed, IsAbsent}
use Rattle.hll_coupons.specs.Table.{Table, IsTable, coupons_in, coupons_of}
use Rattle.hll_coupons.proofs.Listed.{has, contains-has, has-at, at_index, finds, finds_none, From, has-from_map, Apart, len-map}
use Rattle.hll_coupons.proofs.Putting.{Stands, stands, found_at_bucket, absent_fresh}
use Rattle.hll_coupons.proofs.Reading.{len-set_of-le}
use Rattle.hll_coupons.proofs.Searching.{IsProbed-empty, keys_are_distinct, absent_at_empty, absent_from_full}
use Rattle.hll_coupons.proofs.Sizes.{len-part}
use Rattle.hll_coupons.proofs.Buckets.{coupons_in-replicate}
use Rattle.hll_coupons.proofs.TableLemmas.{IsTable-empty}
use Rattle.hll_coupons.proofs.Sought.{Least, least, find_least}

-- ---- entries

-- what holds for all elements of a list holds for each
pub of_all : (P : ℕ → Type 0) (xs : List ℕ) → All P xs → (c : ℕ) → has c xs ≡ true → P c
of_all P xs all c h = let i = at_index xs c h in subst P i.2 (all i.0 0 i.1)

pub for_all : (P : ℕ → Type 0) (xs : List ℕ) → ((c : ℕ) → has c xs ≡ true → P c) → All P xs
for_all P xs h = All-from_get_or P xs 0 (λ i l. h (get_or xs i 0) (has-at xs i l))

-- no two entries have the same slot
pub apart_slots : (lg : ℕ) (buckets : List ℕ) → IsProbed slot_of lg buckets → Apart slot_of (coupons_in buckets)
apart_slots lg buckets t c d hc hd same =
    let a : Stands buckets c = stands buckets c (contains-has (coupons_in buckets) c ∙ hc) in
    let b : Stands buckets d = stands buckets d (contains-has (coupons_in buckets) d ∙ hd) in
    let p : a.bucket ≡ b.bucket = keys_are_distinct slot_of lg buckets a.bucket b.bucket t a.within b.within a.full b.full (ap slot_of a.is ∙ same ∙ sym (ap slot_of b.is)) in
    sym a.is ∙ ap (λ q. get_or buckets q 0) p ∙ b.is

pub distinct_slots : (t : Table) → IsTable t → IsProbed slot_of t.lg_size t.buckets → len (set_of (map slot_of (coupons_in t.buckets))) ≡ length (coupons_in t.buckets)
distinct_slots t table probed = len-map slot_of (coupons_in t.buckets) (apart_slots t.lg_size t.buckets probed) ∙ table.distinct

-- there are no more entries than slots
pub few_entries : (m : ExceptionMap) → IsMap m → length (coupons_in m.table.buckets) ≤ 2 ^ m.lg_k
few_entries m is =
    let xs : List ℕ = coupons_in m.table.buckets in
    let slots : List ℕ = range_with_len 0 (2 ^ m.lg_k) in
    let part : len (set_of (map slot_of xs)) ≤ len (set_of slots) = len-part (map slot_of xs) (set_of slots) (λ q h.
    let f : From slot_of xs q = has-from_map slot_of xs q (sym (contains-has (map slot_of xs) q) ∙ h) in
    let below : q < 2 ^ m.lg_k = omega (arith, f.is, of_all (λ c. slot_of c < 2 ^ m.lg_k) xs is.slots f.member f.there) in
    contains-has slots q ∙ ap (λ n. has n slots) (sym (get_or-range_with_len 0 (2 ^ m.lg_k) q 0 below ∙ zero-add q))
    ∙ has-at slots q (omega (arith, below, length-range_with_len 0 (2 ^ m.lg_k)))) in
    omega (arith, part, distinct_slots m.table is.table is.probed, len-set_of-le slots, length-range_with_len 0 (2 ^ m.lg_k))

-- an entry is found at its slot
pub entry_found : (k : ℕ) (xs : List ℕ) (c : ℕ) → Apart slot_of xs → ((d : ℕ) → has d xs ≡ true → slot_of d < 2 ^ k) → has c xs ≡ true → entry_at k xs (slot_of c) ≡ Some (value_of c)
entry_found k xs c apart below h = of (find (λ d. eqb (slot_of d % 2 ^ k) (slot_of c)) xs) refl
  where
    of : (found : Option ℕ) → find (λ d. eqb (slot_of d % 2 ^ k) (slot_of c)) xs ≡ found → option_map value_of found ≡ Some (value_of c)
    of None e = absurd (finds_none (λ d. eqb (slot_of d % 2 ^ k) (slot_of c)) xs c e h (eq-eqb (slot_of c % 2 ^ k) (slot_of c) (mod-eq_of_lt (below c h))))
    of (Some d) e =
        let r = finds (λ d. eqb (slot_of d % 2 ^ k) (slot_of c)) xs d e in
        ap (λ w. Some (value_of w)) (apart d c r.0 h (sym (mod-eq_of_lt (below d r.0)) ∙ eqb-true (slot_of d % 2 ^ k) (slot_of c) r.1))

-- there is no entry if no entry has the slot
pub entry_absent : (k : ℕ) (xs : List ℕ) (s : ℕ) → ((d : ℕ) → has d xs ≡ true → slot_of d < 2 ^ k) → ((d : ℕ) → has d xs ≡ true → slot_of d ≡ s → ⊥) → entry_at k xs s ≡ None
entry_absent k xs s below none = of (find (λ d. eqb (slot_of d % 2 ^ k) s) xs) refl
  where
    of : (found : Option ℕ) → find (λ d. eqb (slot_of d % 2 ^ k) s) xs ≡ found → option_map value_of found ≡ None
    of None e = refl
    of (Some d) e =
        let r = finds (λ d. eqb (slot_of d % 2 ^ k) s) xs d e in
        absurd (none d r.0 (sym (mod-eq_of_lt (below d r.0)) ∙ eqb-true (slot_of d % 2 ^ k) s r.1))

-- ---- in a map

pub slot_below : (m : ExceptionMap) → IsMap m → (c : ℕ) → has c (coupons_in m.table.buckets) ≡ true → slot_of c < 2 ^ m.lg_k
slot_below m is = of_all (λ c. slot_of c < 2 ^ m.lg_k) (coupons_in m.table.buckets) is.slots

-- the value of an entry
pub value_found : (m : ExceptionMap) → IsMap m → (c : ℕ) → has c (coupons_in m.table.buckets) ≡ true → value_in m (slot_of c) ≡ Some (value_of c)
value_found m is c h = entry_found m.lg_k (coupons_in m.table.buckets) c (apart_slots m.table.lg_size m.table.buckets is.probed) (slot_below m is) h

-- an absent slot has no value
pub value_absent : (m : ExceptionMap) → IsMap m → (s : ℕ) → IsAbsent slot_of m.table.buckets s → value_in m s ≡ None
value_absent m is s none = entry_absent m.lg_k (coupons_in m.table.buckets) s (slot_below m is) (λ d h same.
    let a : Stands m.table.buckets d = stands m.table.buckets d (contains-has (coupons_in m.table.buckets) d ∙ h) in
    none a.bucket a.within a.full (ap slot_of a.is ∙ same))

-- a slot without a value is absent
pub absent_of_value : (m : ExceptionMap) → IsMap m → (s : ℕ) → value_in m s ≡ None → IsAbsent slot_of m.table.buckets s
absent_of_value m is s none p within full same =
    let w : ℕ = get_or m.table.buckets p 0 in
    let there : has w (coupons_in m.table.buckets) ≡ true = sym (contains-has (coupons_in m.table.buckets) w) ∙ found_at_bucket m.table.buckets p w within refl (omega (arith, full)) in
    let both : Some (value_of w) ≡ None = sym (value_found m is w there) ∙ ap (value_in m) same ∙ none in
    cc

pub differs : (a b : ℕ) → a ≢ b → eqb a b ≡ false
differs a b h = elim (cases_Bool (eqb a b)) [ inl t ↦ absurd (h (eqb-true a b t)) | inr f ↦ f ]

-- the value if a search ends at an entry; if it ends at an empty bucket or went through the table
pub value_at_entry : (m : ExceptionMap) → IsMap m → (s p w : ℕ) → EndsAt slot_of m.table.lg_size m.table.buckets s p → get_or m.table.buckets p 0 ≡ w → (w ≡ 0 → ⊥) → value_in m s ≡ Some (value_of w)
value_at_entry m is s p w ends at full =
    let there : has w (coupons_in m.table.buckets) ≡ true = sym (contains-has (coupons_in m.table.buckets) w) ∙ found_at_bucket m.table.buckets p w (omega (arith, ends.within, is.probed.size)) at (omega (arith, full)) in
    ap (value_in m) (sym (ap slot_of (sym at) ∙ ends.same (λ z. full (sym at ∙ z)))) ∙ value_found m is w there

pub value_at_empty : (m : ExceptionMap) → IsMap m → (s p : ℕ) → EndsAt slot_of m.table.lg_size m.table.buckets s p → get_or m.table.buckets p 0 ≡ 0 → value_in m s ≡ None
value_at_empty m is s p ends empty =
    value_absent m is s (absent_at_empty slot_of m.table.lg_size m.table.buckets s ends.first.index is.probed ends.first.passes (ap (λ q. get_or m.table.buckets q 0) ends.first.at ∙ empty))

pub value_at_end : (m : ExceptionMap) → IsMap m → (s p w : ℕ) → EndsAt slot_of m.table.lg_size m.table.buckets s p → get_or m.table.buckets p 0 ≡ w →
    cond (eqb w 0) None (Some (value_of w)) ≡ value_in m s
value_at_end m is s p w ends at = elim (cases_eq w 0) [
  | inl z ↦ cond-true (eqb w 0) None (Some (value_of w)) (eq-eqb w 0 z) ∙ sym (value_at_empty m is s p ends (at ∙ z))
  | inr full ↦ cond-false (eqb w 0) None (Some (value_of w)) (differs w 0 full) ∙ sym (value_at_entry m is s p w ends at full)
]

-- no bucket of a map has a value out of range
pub small_value : (m : ExceptionMap) → IsMap m → (p w : ℕ) → p < length m.table.buckets → get_or m.table.buckets p 0 ≡ w → IfSome (cond (eqb w 0) None (Some (value_of w))) (λ v. (1 ≤ v) × (v ≤ 63))
small_value m is p w within at = elim (cases_eq w 0) [
  | inl z ↦ subst (λ o. IfSome o (λ v. (1 ≤ v) × (v ≤ 63))) (sym (cond-true (eqb w 0) None (Some (value_of w)) (eq-eqb w 0 z))) (let u : Unit {0} = tt in u)
  | inr full ↦
      let there : has w (coupons_in m.table.buckets) ≡ true = sym (contains-has (coupons_in m.table.buckets) w) ∙ found_at_bucket m.table.buckets p w within at (omega (arith, full)) in
      let pair : IsPair w = of_all IsPair (coupons_in m.table.buckets) is.table.valued w there in
      subst (λ o. IfSome o (λ v. (1 ≤ v) × (v ≤ 63))) (sym (cond-false (eqb w 0) None (Some (value_of w)) (differs w 0 full))) (pair.valued, pair.small)
]

-- whether a map has an entry, where the search for its slot ends
pub has_at_end : (m : ExceptionMap) → IsMap m → (c p : ℕ) → 0 < c → EndsAt slot_of m.table.lg_size m.table.buckets (slot_of c) p → nat_eq (get_or m.table.buckets p 0) c ≡ contains (coupons_of m.table) c
has_at_end m is c p some ends = elim (cases_eq (get_or m.table.buckets p 0) c) [
  | inl e ↦ eq-eqb (get_or m.table.buckets p 0) c e ∙ sym (found_at_bucket m.table.buckets p c (omega (arith, ends.within, is.probed.size)) e some)
  | inr other ↦ differs (get_or m.table.buckets p 0) c other ∙ sym (missing other (cases_Bool (contains (coupons_of m.table) c)))
]
  where
    missing : get_or m.table.buckets p 0 ≢ c → (contains (coupons_of m.table) c ≡ true) ⊎ (contains (coupons_of m.table) c ≡ false) → contains (coupons_of m.table) c ≡ false
    missing other (inr none) = none
    missing other (inl there) =
        let a : Stands m.table.buckets c = stands m.table.buckets c there in
        elim (cases_eq (get_or m.table.buckets p 0) 0) [
          | inl z ↦ absurd (absent_at_empty slot_of m.table.lg_size m.table.buckets (slot_of c) ends.first.index is.probed ends.first.passes (ap (λ q. get_or m.table.buckets q 0) ends.first.at ∙ z) a.bucket a.within a.full (ap slot_of a.is))
          | inr full ↦
              let same : p ≡ a.bucket = keys_are_distinct slot_of m.table.lg_size m.table.buckets p a.bucket is.probed (omega (arith, ends.within, is.probed.size)) a.within full a.full (ends.same full ∙ sym (ap slot_of a.is)) in
              absurd (other (ap (λ q. get_or m.table.buckets q 0) same ∙ a.is))
        ]

pub has_in_full : (m : ExceptionMap) → IsMap m → (c : ℕ) → 0 < c → Passes slot_of m.table.lg_size m.table.buckets (slot_of c) (2 ^ m.table.lg_size) → contains (coupons_of m.table) c ≡ false
has_in_full m is c some passes = absent_fresh slot_of m.table.buckets c some (absent_from_full slot_of m.table.lg_size m.table.buckets (slot_of c) is.probed.size passes)

pub value_in_full : (m : ExceptionMap) → IsMap m → (s : ℕ) → Passes slot_of m.table.lg_size m.table.buckets s (2 ^ m.table.lg_size) → value_in m s ≡ None
value_in_full m is s passes = value_absent m is s (absent_from_full slot_of m.table.lg_size m.table.buckets s is.probed.size passes)

-- ---- sizes

abbrev fits : ℕ → ℕ → Bool
fits n q = nat_le (4 * n) (3 * 2 ^ q)

-- the least size of a table
pub record IsLeastSize (k n q : ℕ) : Type 0 where
  pub low : start_size k ≤ q
  pub high : q < start_size k + 24
  pub room : 4 * n ≤ 3 * 2 ^ q
  pub least : (y : ℕ) → start_size k ≤ y → y < q → 3 * 2 ^ y < 4 * n

pub table_size_of : (k n q : ℕ) → IsLeastSize k n q → table_size k n ≡ q
table_size_of k n q h =
    ap (λ o. unwrap_or o 0) (find_least (fits n) (start_size k) 24 q h.low h.high (λ y l u. lt-leb (4 * n) (3 * 2 ^ y) (h.least y l u)) (le-leb (4 * n) (3 * 2 ^ q) h.room))

start_bounds : (k : ℕ) → k ≤ 21 → (2 ≤ start_size k) × (start_size k ≤ 13)
start_bounds k most = of (leb k 6) (leb k 9) (leb k 11) (leb k 13) refl
  where
    of : (a b c d : Bool) → leb k 13 ≡ d → (2 ≤ cond a 2 (cond b 3 (cond c 4 (cond d 5 (k - 8))))) × (cond a 2 (cond b 3 (cond c 4 (cond d 5 (k - 8)))) ≤ 13)
    of true b c d e = (omega arith, omega arith)
    of false true c d e = (omega arith, omega arith)
    of false false true d e = (omega arith, omega arith)
    of false false false true e = (omega arith, omega arith)
    of false false false false e = let above : 13 < k = leb-false k 13 e in (omega arith, omega (arith, most))

-- this size is the least for n entries
least_size : (k n : ℕ) → k ≤ 21 → n ≤ 2 ^ 21 → IsLeastSize k n (table_size k n)
least_size k n most few =
    let start = start_bounds k most in
    let low : start_size k ≤ 22 = omega (arith, start.1) in
    let high : 22 < start_size k + 24 = omega arith in
    let enough : 4 * n ≤ 3 * 2 ^ 22 = omega (arith, few) in
    let r : Least (fits n) (start_size k) 24 = least (fits n) (start_size k) 24 22 low high (le-leb (4 * n) (3 * 2 ^ 22) enough) in
    subst (IsLeastSize k n) (sym (ap (λ o. unwrap_or o 0) r.found)) (record {
      low = r.low;
      high = r.high;
      room = leb-true (4 * n) (3 * 2 ^ r.at) r.passes;
      least = λ y l u. leb-false (4 * n) (3 * 2 ^ y) (r.before y l u);
    })

-- the table of a map has the least size
pub map_size : (m : ExceptionMap) → IsMap m → IsLeastSize m.lg_k (length (coupons_in m.table.buckets)) m.table.lg_size
map_size m is =
    let few : length (coupons_in m.table.buckets) ≤ 2 ^ 21 = omega (arith, few_entries m is, pow_mono is.high) in
    subst (IsLeastSize m.lg_k (length (coupons_in m.table.buckets))) (sym is.size) (least_size m.lg_k (length (coupons_in m.table.buckets)) is.high few)

-- the table of a map has an empty bucket
pub room_in_map : (m : ExceptionMap) → IsMap m → length (coupons_in m.table.buckets) < 2 ^ m.table.lg_size
room_in_map m is = omega (arith, (map_size m is).room, pow_pos m.table.lg_size)

-- the table is far smaller than the largest table
pub small_table : (m : ExceptionMap) → IsMap m → m.table.lg_size ≤ 22
small_table m is = elim (cases_lt m.table.lg_size 23) [
  | inl below ↦ omega (arith, below)
  | inr above ↦
      let start = start_bounds m.lg_k is.high in
      let tight : 3 * 2 ^ 22 < 4 * length (coupons_in m.table.buckets) = (map_size m is).least 22 (omega (arith, start.1)) (omega (arith, above)) in
      absurd (omega (arith, tight, few_entries m is, pow_mono is.high))
]

-- the size after one more entry, if it fits
pub size_kept : (k n q : ℕ) → IsLeastSize k n q → 4 * (n + 1) ≤ 3 * 2 ^ q → table_size k (n + 1) ≡ q
size_kept k n q h room = table_size_of k (n + 1) q (record { low = h.low; high = h.high; room = room; least = λ y l u. omega (arith, h.least y l u) })

-- the size after one more entry, if it doesn't fit
pub size_doubled : (k n q : ℕ) → IsLeastSize k n q → k ≤ 21 → q ≤ 22 → 3 * 2 ^ q < 4 * (n + 1) → table_size k (n + 1) ≡ q + 1
size_doubled k n q h most small tight =
    let start = start_bounds k most in
    let twice : 2 ^ (q + 1) ≡ 2 * 2 ^ q = ap (λ m. 2 ^ m) (let s : q + 1 ≡ suc q = omega arith in s) ∙ omega (arith, pow-suc 2 q) in
    let four : 2 ^ 2 ≤ 2 ^ q = pow_mono {i = 2} {j = q} (omega (arith, start.0, h.low)) in
    table_size_of k (n + 1) (q + 1) (record {
      low = omega (arith, h.low);
      high = of (start_size k) (omega (arith, h.high));
      room = omega (arith, twice, four, h.room);
      least = λ y l u. elim (cases_lt y q) [
        | inl below ↦ omega (arith, h.least y l below)
        | inr above ↦ let same : y ≡ q = omega arith in subst (λ z. 3 * 2 ^ z < 4 * (n + 1)) (sym same) tight
      ];
    })
  where
    of : (s : ℕ) → q < s + 24 → q + 1 < s + 24
    of s h = omega (arith, h, small)

-- ---- an empty map

pub IsMap-empty : (k : ℕ) → 4 ≤ k → k ≤ 21 → IsMap (empty_map k)
IsMap-empty k low high =
    let none : coupons_in (empty_map k).table.buckets ≡ [] = coupons_in-replicate (2 ^ start_size k) in
    let start = start_bounds k high in
    record {
      low = low;
      high = high;
      table = IsTable-empty (start_size k) (omega (arith, start.1));
      probed = IsProbed-empty slot_of (start_size k);
      slots = subst (All (λ c. slot_of c < 2 ^ k)) (sym none) (λ i d l. absurd (omega (arith, l)));
      size = sym (ap (λ xs. table_size k (length xs)) none ∙ table_size_of k 0 (start_size k) (record {
        low = omega arith;
        high = omega arith;
        room = omega arith;
        least = λ y l u. absurd (omega arith);
      }));
    }
