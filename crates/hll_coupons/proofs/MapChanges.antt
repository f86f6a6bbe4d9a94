-- SPDX-License-Identifier: Apache-2.0
-- A map after an insertion, and after the value of a slot is replaced.
use Rattle.std.proofs.Common.{◌≡◌, ◌≢◌, ℕ, ◌+◌, ◌*◌, ◌%◌, ◌^◌, ◌<◌, ◌≤◌, true, false, eqb, cond, List, Option, Some, None, length, map, get_or, set, refl, sym, subst, ap, ◌∙◌, arith, inl, inr}
use Rattle.std.specs.Prelude.{find}
use Rattle.std.specs.Option.{option_map}
use Rattle.std.specs.Ordering.{nat_cmp, eq_by_cmp}
use Rattle.std.specs.Cmp.{nat_cmp_total}
use Rattle.std.specs.FinSet.{contains, insert, contains-insert}
use Rattle.std.proofs.lemmas.Bool.{cases_Bool, cases_eq, eqb-true, eqb-false, eq-eqb, or_cases, cond-true, cond-false}
use Rattle.std.proofs.lemmas.List.{length-map, length-set, get_or-map, ext_get_or, get_or-set_same, get_or-set_other}
use Rattle.std.proofs.lemmas.Nat.{pow_below}
use Rattle.std.proofs.Math.Nat.{mod-eq_of_lt}
use Rattle.hll_coupons.specs.AuxMap.{ExceptionMap, IsMap, value_in, table_size, replaced, Inserts, fits, grows, IsGrownFrom}
use Rattle.hll_coupons.specs.Pair.{slot_of, value_of, pair}
use Rattle.hll_coupons.specs.Probe.{IsFirstFor, IsProbed, IsAbsent, Puts, bucket_of}
use Rattle.hll_coupons.specs.Table.{Table, IsTable, coupons_in, coupons_of}
use Rattle.hll_coupons.proofs.Greatest.{same_raw_coupon}
use Rattle.hll_coupons.proofs.Listed.{has, contains-has, finds}
use Rattle.hll_coupons.proofs.Maps.{differs, for_all, slot_below, value_found, value_absent, absent_of_value, map_size, size_kept, size_doubled, small_table}
use Rattle.hll_coupons.proofs.Putting.{Stands, stands, found_at_bucket, PutAt, put_at, length-put, members-put}
use Rattle.hll_coupons.proofs.Searching.{keys_are_distinct, IsProbed-puts}
use Rattle.hll_coupons.proofs.Registers.{slot_of-pair, value_of-pair}
use Rattle.hll_coupons.proofs.Sizes.{inserted, inserted-more}
use Rattle.hll_coupons.proofs.TableLemmas.{full_of_valued}

-- an entry that a slot's value comes from
pub record IsEntry (m : ExceptionMap) (s v : ℕ) : Type 0 where
  pub raw_coupon : ℕ
  pub there : has raw_coupon (coupons_in m.table.buckets) ≡ true
  pub slot : slot_of raw_coupon ≡ s
  pub value : value_of raw_coupon ≡ v

pub entry_of_value : (m : ExceptionMap) → IsMap m → (s v : ℕ) → value_in m s ≡ Some v → IsEntry m s v
entry_of_value m is s v e = of (find (λ d. eqb (slot_of d % 2 ^ m.lg_k) s) (coupons_in m.table.buckets)) refl e
  where
    of : (found : Option ℕ) → find (λ d. eqb (slot_of d % 2 ^ m.lg_k) s) (coupons_in m.table.buckets) ≡ found → option_map value_of found ≡ Some v → IsEntry m s v
    of None f h = cc
    of (Some d) f h =
        let r = finds (λ d. eqb (slot_of d % 2 ^ m.lg_k) s) (coupons_in m.table.buckets) d f in
        record { raw_coupon = d; there = r.0; slot = sym (mod-eq_of_lt (slot_below m is d r.0)) ∙ eqb-true (slot_of d % 2 ^ m.lg_k) s r.1; value = cc }

-- the values of a map by those of another: some entry of the slot, or none
module _ (m n : ExceptionMap) (is : IsMap m) (later : IsMap n) (slot value : ℕ) where
  by_entries : ((w : ℕ) → has w (coupons_in m.table.buckets) ≡ true → slot_of w ≢ slot → has w (coupons_in n.table.buckets) ≡ true) →
      ((w : ℕ) → has w (coupons_in n.table.buckets) ≡ true → slot_of w ≢ slot → has w (coupons_in m.table.buckets) ≡ true) →
      IsEntry n slot value → (s : ℕ) → value_in n s ≡ cond (eqb s slot) (Some value) (value_in m s)
  by_entries stays was entry s = elim (cases_Bool (eqb s slot)) [
    | inl t ↦
        ap (value_in n) (eqb-true s slot t ∙ sym entry.slot) ∙ value_found n later entry.raw_coupon entry.there ∙ ap (λ v. Some v) entry.value
        ∙ sym (cond-true (eqb s slot) (Some value) (value_in m s) t)
    | inr f ↦ others (eqb-false s slot f) (value_in m s) refl ∙ sym (cond-false (eqb s slot) (Some value) (value_in m s) f)
  ]
    where
      others : s ≢ slot → (v : Option ℕ) → value_in m s ≡ v → value_in n s ≡ value_in m s
      others other (Some v) e =
          let old : IsEntry m s v = entry_of_value m is s v e in
          let there : has old.raw_coupon (coupons_in n.table.buckets) ≡ true = stays old.raw_coupon old.there (λ z. other (sym old.slot ∙ z)) in
          ap (value_in n) (sym old.slot) ∙ value_found n later old.raw_coupon there ∙ ap (λ v. Some v) old.value ∙ sym e
      others other None e =
          value_absent n later s (λ p within full same.
          let w : ℕ = get_or n.table.buckets p 0 in
          let here : has w (coupons_in n.table.buckets) ≡ true = sym (contains-has (coupons_in n.table.buckets) w) ∙ found_at_bucket n.table.buckets p w within refl (omega (arith, full)) in
          let there : has w (coupons_in m.table.buckets) ≡ true = was w here (λ z. other (sym same ∙ z)) in
          let a : Stands m.table.buckets w = stands m.table.buckets w (contains-has (coupons_in m.table.buckets) w ∙ there) in
          absent_of_value m is s e a.bucket a.within a.full (ap slot_of a.is ∙ same))
          ∙ sym e

-- ---- an entry more

-- a table with one more entry is that of a map
pub map_after : (m : ExceptionMap) (t : Table) (c : ℕ) → IsMap m → IsTable t → IsProbed slot_of t.lg_size t.buckets → coupons_of t ≡ insert (coupons_of m.table) c → slot_of c < 2 ^ m.lg_k →
    length (coupons_in t.buckets) ≡ length (coupons_in m.table.buckets) + 1 → t.lg_size ≡ table_size m.lg_k (length (coupons_in m.table.buckets) + 1) → IsMap (record { lg_k = m.lg_k; table = t })
map_after m t c is table probed members below count size = record {
  low = is.low;
  high = is.high;
  table = table;
  probed = probed;
  slots = for_all (λ d. slot_of d < 2 ^ m.lg_k) (coupons_in t.buckets) (λ d h.
      elim (or_cases (eq_by_cmp nat_cmp d c) (contains (coupons_of m.table) d) (sym (contains-insert nat_cmp_total (coupons_of m.table) c d) ∙ ap (λ S. contains S d) (sym members) ∙ contains-has (coupons_in t.buckets) d ∙ h)) [
        | inl e ↦ subst (λ w. slot_of w < 2 ^ m.lg_k) (sym (same_raw_coupon d c e)) below
        | inr old ↦ slot_below m is d (sym (contains-has (coupons_in m.table.buckets) d) ∙ old)
      ]);
  size = size ∙ ap (table_size m.lg_k) (sym count);
}

-- the values of a map after an insertion
pub values_after : (m n : ExceptionMap) (c : ℕ) → IsMap m → IsMap n → coupons_of n.table ≡ insert (coupons_of m.table) c → (s : ℕ) →
    value_in n s ≡ cond (eqb s (slot_of c)) (Some (value_of c)) (value_in m s)
values_after m n c is later members = by_entries m n is later (slot_of c) (value_of c)
    (λ w h other. sym (contains-has (coupons_in n.table.buckets) w) ∙ ap (λ S. contains S w) members
    ∙ inserted-more (coupons_of m.table) c w (contains-has (coupons_in m.table.buckets) w ∙ h))
    (λ w h other. elim (or_cases (eq_by_cmp nat_cmp w c) (contains (coupons_of m.table) w) (sym (contains-insert nat_cmp_total (coupons_of m.table) c w) ∙ ap (λ S. contains S w) (sym members) ∙ contains-has (coupons_in n.table.buckets) w ∙ h)) [
      | inl e ↦ absurd (other (ap slot_of (same_raw_coupon w c e)))
      | inr old ↦ sym (contains-has (coupons_in m.table.buckets) w) ∙ old
    ])
    (record { raw_coupon = c; there = sym (contains-has (coupons_in n.table.buckets) c) ∙ ap (λ S. contains S c) members ∙ inserted (coupons_of m.table) c; slot = refl; value = refl })

-- the raw coupon of a slot of a map and a value
pub record IsRawCoupon (s v raw_coupon : ℕ) : Type 0 where
  pub is : raw_coupon ≡ pair s v
  pub slot : slot_of raw_coupon ≡ s
  pub value : value_of raw_coupon ≡ v

pub raw_coupon_of : (k slot value raw_coupon : ℕ) → k ≤ 21 → slot < 2 ^ k → raw_coupon ≡ pair (slot_of slot) value → IsRawCoupon slot value raw_coupon
raw_coupon_of k slot value raw_coupon most within e =
    let small : slot < 2 ^ 26 = omega (arith, within, pow_below k 26 (omega (arith, most))) in
    let is : raw_coupon ≡ pair slot value = e ∙ ap (λ s. pair s value) (mod-eq_of_lt small) in
    record { is = is; slot = ap slot_of is ∙ slot_of-pair slot value small; value = ap value_of is ∙ value_of-pair slot value small }

-- the coupon belongs to a slot without a value
pub absent_raw_coupon : (m now : ExceptionMap) (slot value raw_coupon : ℕ) → m ≡ now → IsMap m → IsRawCoupon slot value raw_coupon → value_in now slot ≡ None → IsAbsent slot_of m.table.buckets (slot_of raw_coupon)
absent_raw_coupon m now slot value raw_coupon same is w none =
    subst (IsAbsent slot_of m.table.buckets) (sym w.slot) (absent_of_value m is slot (ap (λ n. value_in n slot) same ∙ none))

-- a map after an insertion
pub record IsInserted (m : ExceptionMap) (raw_coupon : ℕ) (n : ExceptionMap) : Type 0 where
  pub lg_k : n.lg_k ≡ m.lg_k
  pub map : IsMap n
  pub members : coupons_of n.table ≡ insert (coupons_of m.table) raw_coupon
  pub inserts : Inserts m.table raw_coupon n.table

module _ (m : ExceptionMap) (is : IsMap m) (slot value raw_coupon : ℕ) (w : IsRawCoupon slot value raw_coupon) (some : 1 ≤ value) (within : slot < 2 ^ m.lg_k) (none : IsAbsent slot_of m.table.buckets (slot_of raw_coupon)) where
  full : 0 < raw_coupon
  full = full_of_valued raw_coupon (omega (arith, w.value, some))

  below : slot_of raw_coupon < 2 ^ m.lg_k
  below = omega (arith, w.slot, within)

  -- an insertion without growth
  pub inserted_fits : (t : Table) → IsTable t → t.lg_size ≡ m.table.lg_size → Puts slot_of m.table.lg_size m.table.buckets raw_coupon t.buckets →
      4 * (length (coupons_in m.table.buckets) + 1) ≤ 3 * 2 ^ m.table.lg_size → IsInserted m raw_coupon (record { lg_k = m.lg_k; table = t })
  inserted_fits t table size puts room =
      let put : PutAt m.table.buckets raw_coupon t.buckets = put_at slot_of m.table.lg_size m.table.buckets raw_coupon t.buckets is.probed.size none puts in
      let members : coupons_of t ≡ insert (coupons_of m.table) raw_coupon = members-put m.table.buckets raw_coupon t.buckets full put in
      let probed : IsProbed slot_of t.lg_size t.buckets = subst (λ n. IsProbed slot_of n t.buckets) (sym size)
      (IsProbed-puts slot_of m.table.lg_size m.table.buckets raw_coupon t.buckets is.probed (λ z. omega (arith, full, z)) puts) in
      record {
        lg_k = refl;
        map = map_after m t raw_coupon is table probed members below (length-put m.table.buckets raw_coupon t.buckets full put)
            (size ∙ sym (size_kept m.lg_k (length (coupons_in m.table.buckets)) m.table.lg_size (map_size m is) room));
        members = members;
        inserts = fits room size puts;
      }

  -- an insertion with growth
  pub inserted_grows : (t : Table) → IsTable t → IsProbed slot_of t.lg_size t.buckets → coupons_of t ≡ insert (coupons_of m.table) raw_coupon →
      length (coupons_in t.buckets) ≡ length (coupons_in m.table.buckets) + 1 → IsGrownFrom m.table raw_coupon t → 3 * 2 ^ m.table.lg_size < 4 * (length (coupons_in m.table.buckets) + 1) →
      IsInserted m raw_coupon (record { lg_k = m.lg_k; table = t })
  inserted_grows t table probed members count grown tight = record {
    lg_k = refl;
    map = map_after m t raw_coupon is table probed members below count
        (grown.size ∙ sym (size_doubled m.lg_k (length (coupons_in m.table.buckets)) m.table.lg_size (map_size m is) is.high (small_table m is) tight));
    members = members;
    inserts = grows tight grown;
  }

-- ---- another value

module _ (m : ExceptionMap) (is : IsMap m) (slot value p : ℕ) (within : p < length m.table.buckets) (full : get_or m.table.buckets p 0 ≢ 0) (at : slot_of (get_or m.table.buckets p 0) ≡ slot)
    (c : ℕ) (raw_coupon : c ≡ pair slot value) (own : slot_of c ≡ slot) (some : 0 < c) where
  abbrev buckets : List ℕ
  buckets = m.table.buckets

  -- the entry's bucket is the only one that changes
  other_slot : (q : ℕ) → q < length buckets → q ≢ p → get_or buckets q 0 ≢ 0 → slot_of (get_or buckets q 0) ≢ slot
  other_slot q inside other filled same = other (keys_are_distinct slot_of m.table.lg_size buckets q p is.probed inside within filled full (same ∙ sym at))

  pub replaced_buckets : map (replaced slot value) buckets ≡ set buckets p c
  replaced_buckets = ext_get_or 0 (map (replaced slot value) buckets) (set buckets p c) (length-map buckets (replaced slot value) ∙ sym (length-set buckets p c)) (λ q l.
      let inside : q < length buckets = omega (arith, l, length-map buckets (replaced slot value)) in
      get_or-map (replaced slot value) buckets q 0 0 inside ∙ each q inside)
    where
      each : (q : ℕ) → q < length buckets → replaced slot value (get_or buckets q 0) ≡ get_or (set buckets p c) q 0
      each q inside = elim (cases_eq q p) [
        | inl e ↦
            ap (λ r. replaced slot value (get_or buckets r 0)) e
            ∙ cond-false (eqb (get_or buckets p 0) 0) 0 (cond (eqb (slot_of (get_or buckets p 0)) slot) (pair slot value) (get_or buckets p 0)) (not_zero (get_or buckets p 0) full)
            ∙ cond-true (eqb (slot_of (get_or buckets p 0)) slot) (pair slot value) (get_or buckets p 0) (eq-eqb (slot_of (get_or buckets p 0)) slot at)
            ∙ sym raw_coupon ∙ sym (ap (λ r. get_or (set buckets p c) r 0) e ∙ get_or-set_same buckets p c 0 within)
        | inr other ↦ elim (cases_eq (get_or buckets q 0) 0) [
          | inl z ↦
              cond-true (eqb (get_or buckets q 0) 0) 0 (cond (eqb (slot_of (get_or buckets q 0)) slot) (pair slot value) (get_or buckets q 0)) (eq-eqb (get_or buckets q 0) 0 z)
              ∙ sym z ∙ sym (get_or-set_other buckets p q c 0 other)
          | inr filled ↦
              cond-false (eqb (get_or buckets q 0) 0) 0 (cond (eqb (slot_of (get_or buckets q 0)) slot) (pair slot value) (get_or buckets q 0)) (not_zero (get_or buckets q 0) filled)
              ∙ cond-false (eqb (slot_of (get_or buckets q 0)) slot) (pair slot value) (get_or buckets q 0) (differs (slot_of (get_or buckets q 0)) slot (other_slot q inside other filled))
              ∙ sym (get_or-set_other buckets p q c 0 other)
        ]
      ]
        where
          not_zero : (a : ℕ) → a ≢ 0 → eqb a 0 ≡ false
          not_zero a h = differs a 0 h

  -- no bucket gets another slot, or is emptied or filled
  slot_at : (q : ℕ) → slot_of (get_or (set buckets p c) q 0) ≡ slot_of (get_or buckets q 0)
  slot_at q = elim (cases_eq q p) [
    | inl e ↦ ap (λ r. slot_of (get_or (set buckets p c) r 0)) e ∙ ap slot_of (get_or-set_same buckets p c 0 within) ∙ own ∙ sym at ∙ ap (λ r. slot_of (get_or buckets r 0)) (sym e)
    | inr other ↦ ap slot_of (get_or-set_other buckets p q c 0 other)
  ]

  filled_before : (q : ℕ) → get_or (set buckets p c) q 0 ≢ 0 → get_or buckets q 0 ≢ 0
  filled_before q h z = elim (cases_eq q p) [
    | inl e ↦ full (ap (λ r. get_or buckets r 0) (sym e) ∙ z)
    | inr other ↦ h (get_or-set_other buckets p q c 0 other ∙ z)
  ]

  filled_after : (q : ℕ) → get_or buckets q 0 ≢ 0 → get_or (set buckets p c) q 0 ≢ 0
  filled_after q h z = elim (cases_eq q p) [
    | inl e ↦ let none : c ≡ 0 = sym (get_or-set_same buckets p c 0 within) ∙ ap (λ r. get_or (set buckets p c) r 0) (sym e) ∙ z in omega (arith, some, none)
    | inr other ↦ h (sym (get_or-set_other buckets p q c 0 other) ∙ z)
  ]

  probed_replaced : IsProbed slot_of m.table.lg_size (set buckets p c)
  probed_replaced = record {
    size = length-set buckets p c ∙ is.probed.size;
    found = λ q h filled.
        let f : IsFirstFor slot_of m.table.lg_size buckets (slot_of (get_or buckets q 0)) q = is.probed.found q (omega (arith, h, length-set buckets p c)) (filled_before q filled) in
        subst (λ s. IsFirstFor slot_of m.table.lg_size (set buckets p c) s q) (sym (slot_at q)) (record {
          index = f.index;
          within = f.within;
          at = f.at;
          passes = λ j l.
              let passed = f.passes j l in
              let there : ℕ = bucket_of m.table.lg_size (slot_of (get_or buckets q 0)) j in
              (filled_after there passed.0, λ e. passed.1 (sym (slot_at there) ∙ e));
        });
  }

  -- entries at other slots stay
  stay : (w : ℕ) → has w (coupons_in buckets) ≡ true → slot_of w ≢ slot → has w (coupons_in (set buckets p c)) ≡ true
  stay w h other =
      let a : Stands buckets w = stands buckets w (contains-has (coupons_in buckets) w ∙ h) in
      let elsewhere : a.bucket ≢ p = λ e. other (ap slot_of (sym a.is) ∙ ap (λ r. slot_of (get_or buckets r 0)) e ∙ at) in
      sym (contains-has (coupons_in (set buckets p c)) w)
      ∙ found_at_bucket (set buckets p c) a.bucket w (omega (arith, a.within, length-set buckets p c)) (get_or-set_other buckets p a.bucket c 0 elsewhere ∙ a.is) (omega (arith, a.full, a.is))

  were : (w : ℕ) → has w (coupons_in (set buckets p c)) ≡ true → slot_of w ≢ slot → has w (coupons_in buckets) ≡ true
  were w h other =
      let a : Stands (set buckets p c) w = stands (set buckets p c) w (contains-has (coupons_in (set buckets p c)) w ∙ h) in
      let elsewhere : a.bucket ≢ p = λ e. other (ap slot_of (sym a.is) ∙ ap (λ r. slot_of (get_or (set buckets p c) r 0)) e ∙ ap slot_of (get_or-set_same buckets p c 0 within) ∙ own) in
      sym (contains-has (coupons_in buckets) w)
      ∙ found_at_bucket buckets a.bucket w (omega (arith, a.within, length-set buckets p c)) (sym (get_or-set_other buckets p a.bucket c 0 elsewhere) ∙ a.is) (omega (arith, a.full, a.is))

  here : has c (coupons_in (set buckets p c)) ≡ true
  here =
      sym (contains-has (coupons_in (set buckets p c)) c)
      ∙ found_at_bucket (set buckets p c) p c (omega (arith, within, length-set buckets p c)) (get_or-set_same buckets p c 0 within) some

  pub map_replaced : slot < 2 ^ m.lg_k → IsTable (record { lg_size = m.table.lg_size; buckets = set buckets p c }) → length (coupons_in (set buckets p c)) ≡ length (coupons_in buckets) →
      IsMap (record { lg_k = m.lg_k; table = record { lg_size = m.table.lg_size; buckets = set buckets p c } })
  map_replaced below table count = record {
    low = is.low;
    high = is.high;
    table = table;
    probed = probed_replaced;
    slots = for_all (λ d. slot_of d < 2 ^ m.lg_k) (coupons_in (set buckets p c)) (λ d h. elim (cases_eq (slot_of d) slot) [
      | inl e ↦ subst (λ s. s < 2 ^ m.lg_k) (sym e) below
      | inr other ↦ slot_below m is d (were d h other)
    ]);
    size = is.size ∙ ap (table_size m.lg_k) (sym count);
  }

  pub values_replaced : (n : ExceptionMap) → n ≡ record { lg_k = m.lg_k; table = record { lg_size = m.table.lg_size; buckets = set buckets p c } } → IsMap n → value_of c ≡ value → (s : ℕ) →
      value_in n s ≡ cond (eqb s slot) (Some value) (value_in m s)
  values_replaced n same later is_value = by_entries m n is later slot value
      (λ w h other. subst (λ (u : ExceptionMap). has w (coupons_in u.table.buckets) ≡ true) (sym same) (stay w h other))
      (λ w h other. were w (subst (λ (u : ExceptionMap). has w (coupons_in u.table.buckets) ≡ true) same h) other)
      (subst (λ u. IsEntry u slot value) (sym same) (record { raw_coupon = c; there = here; slot = own; value = is_value }))
