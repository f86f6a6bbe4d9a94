-- SPDX-License-Identifier: Apache-2.0
-- 4-bit registers: what is stored is the packed form of the registers.
use Rattle.std.proofs.Common.{◌≡◌, ◌≢◌, ℕ, ◌+◌, ◌-◌, ◌*◌, ◌/◌, ◌%◌, ◌^◌, ◌<◌, ◌≤◌, ◌⊎◌, zero, suc, Bool, true, false, eqb, leb, cond, ◌&&◌, List, [], ◌∷◌, ◌++◌, All, Option, Some, None, length, replicate, take, drop, get_or, refl, sym, ap, subst, ◌∙◌, arith, inl, inr}
use Rattle.std.specs.Prelude.{min, fold, filter, count_by}
use Rattle.std.specs.List.{list_all}
use Rattle.std.specs.Cmp.{nat_cmp_total, both_ways}
use Rattle.std.specs.FinSet.{same_set, nat_cmp-IsAntisymmetric}
use Rattle.std.proofs.lemmas.Bool.{cases_Bool, cases_eq, cases_lt, cond-true, cond-false, eqb-true, eq-eqb, leb-true, le-leb, lt-leb, true≢false, ne_eqb}
use Rattle.std.proofs.lemmas.List.{ext_get_or, length-append, length-replicate, get_or-replicate, get_or_default, take-append-drop}
use Rattle.std.proofs.lemmas.List.Elements.{All-tail, All-append}
use Rattle.std.proofs.lemmas.List.Sums.{count_by-le-length, fold-append, get_or-le-sum_by, length-filter, sum_by-cons}
use Rattle.std.proofs.lemmas.Nat.{pow_pos}
use Rattle.std.proofs.lemmas.List.FromFn.{length-map-range_with_len, get_or-map-range_with_len}
use Rattle.std.proofs.Math.Nat.{zero-add, zero-div, pow-suc}
use Rattle.hll_coupons.specs.AuxMap.{ExceptionMap, IsMap, empty_map, entries_in, entry_at, start_size, value_in}
use Rattle.hll_coupons.specs.Fold.{raw_coupons_from}
use Rattle.hll_coupons.specs.Pair.{pair, set_of, slot_of, value_of}
use Rattle.hll_coupons.specs.Table.{coupons_in}
use Rattle.hll_coupons.proofs.Listed.{has, contains-has}
use Rattle.hll_coupons.proofs.MapChanges.{IsEntry, entry_of_value}
use Rattle.hll_coupons.proofs.Maps.{slot_below, value_found}
use Rattle.hll_coupons.proofs.Pairs.{IsEntryOf, of_value}
use Rattle.hll_coupons.proofs.Buckets.{coupons_in-replicate}
use Rattle.hll_coupons.proofs.Putting.{last_of_all}
use Rattle.hll_coupons.proofs.Registers.{StandsFor, in_raw_coupons, raw_coupons_have, slot_of-pair, value_of-pair, slot_small}
use Rattle.hll_registers.specs.FourBits.{exception_of, exception_in, exceptions_in, kept_above, fallen, unpacked, IsMapFor, IsPacked, PackedIsOfRegisters}
use Rattle.hll_kernels.specs.Packed.{nibble, nibble_at, nibble_bytes_above, minimum}
use Rattle.hll_registers.specs.Exceptions.{exceptions_above}
use Rattle.hll_registers.specs.Payload.{register_of}
use Rattle.hll_registers.proofs.Exceptions.{kept, keeps}
use Rattle.hll_registers.proofs.Packing.{minimum_from_le, minimum_le}

-- ---- the minimum

-- if a filtered list is not empty, some element passes
some_kept : (p : ℕ → Bool) (R : List ℕ) → 0 < length (filter p R) → (i : ℕ) × (i < length R) × (p (get_or R i 0) ≡ true)
some_kept p [] h = absurd (omega arith)
some_kept p (r ∷ R) h = elim (cases_Bool (p r)) [
  | inl t ↦ (0, omega arith, t)
  | inr f ↦
      let i = some_kept p R (omega (arith, h, ap length (cond-false (p r) (r ∷ filter p R) (filter p R) f))) in
      (suc i.0, omega (arith, i.1), i.2)
]

pub at_some : (p : ℕ → Bool) (R : List ℕ) → 0 < count_by p R → (i : ℕ) × (i < length R) × (p (get_or R i 0) ≡ true)
at_some p R h = some_kept p R (omega (arith, h, length-filter p R))

-- the minimum is at most 63
pub minimum_most : (R : List ℕ) → minimum R ≤ 63
minimum_most R = from 63 R
  where
    from : (a : ℕ) (R : List ℕ) → fold min a R ≤ a
    from a [] = omega arith
    from a (r ∷ R) = omega (arith, from (min a r) R)

-- and at least a bound of all registers
pub minimum_ge : (m a : ℕ) (R : List ℕ) → m ≤ a → ((s : ℕ) → s < length R → m ≤ get_or R s 0) → m ≤ fold min a R
minimum_ge m a [] h all = h
minimum_ge m a (r ∷ R) h all = minimum_ge m (min a r) R (omega (arith, h, all 0 (omega arith))) (λ s l. all (suc s) (omega (arith, l)))

-- a bound of all registers that is one of them is the minimum
pub minimum_is : (m : ℕ) (R : List ℕ) → All (λ r. r ≤ 63) R → ((s : ℕ) → s < length R → m ≤ get_or R s 0) → 0 < count_by (λ r. eqb r m) R → m ≡ minimum R
minimum_is m R small all some =
    let i = at_some (λ r. eqb r m) R some in
    let at : get_or R i.0 0 ≡ m = eqb-true (get_or R i.0 0) m i.2 in
    let most : get_or R i.0 0 ≤ 63 = small i.0 0 i.1 in
    omega (arith, at, most, minimum_le R i.0 i.1, minimum_ge m 63 R (omega (arith, at, most)) all)

-- ---- nibbles

-- bytes are those of their nibbles
pub bytes_of_nibbles : (m : ℕ) (bytes R : List ℕ) → 2 * length bytes ≡ length R → All (λ b. b < 256) bytes → ((s : ℕ) → s < length R → nibble_at bytes s ≡ nibble m (get_or R s 0)) → bytes ≡ nibble_bytes_above m R
bytes_of_nibbles m [] [] size fits at = refl
bytes_of_nibbles m [] (r ∷ R) size fits at = absurd (omega arith)
bytes_of_nibbles m (b ∷ bs) [] size fits at = absurd (omega arith)
bytes_of_nibbles m (b ∷ bs) (r ∷ []) size fits at = absurd (omega arith)
bytes_of_nibbles m (b ∷ bs) (r ∷ q ∷ R) size fits at =
    let below : b < 256 = fits 0 0 (omega arith) in
    let low : b % 16 ≡ nibble m r = sym (let e : nibble_at (b ∷ bs) 0 ≡ b % 16 = omega arith in e) ∙ at 0 (omega arith) in
    let high : b / 16 % 16 ≡ nibble m q = sym (let e : nibble_at (b ∷ bs) 1 ≡ b / 16 % 16 = omega arith in e) ∙ at 1 (omega arith) in
    let byte : b ≡ nibble m r + 16 * nibble m q = omega (arith, below, low, high) in
    let rest : bs ≡ nibble_bytes_above m R = bytes_of_nibbles m bs R (omega (arith, size)) (All-tail (λ b. b < 256) b bs fits)
    (λ s l. further s ∙ at (suc (suc s)) (omega (arith, l))) in
    λ i. byte i ∷ rest i
  where
    further : (s : ℕ) → nibble_at bs s ≡ nibble_at (b ∷ bs) (suc (suc s))
    further s =
        let half : suc (suc s) / 2 ≡ suc (s / 2) = omega arith in
        let odd : suc (suc s) % 2 ≡ s % 2 = omega arith in
        sym (λ i. get_or (b ∷ bs) (half i) 0 / 16 ^ odd i % 16)

-- ---- exceptions

pub exception_of-high : (m r : ℕ) → m + 15 ≤ r → exception_of m r ≡ Some r
exception_of-high m r h = cond-true (leb (m + 15) r) (Some r) None (le-leb (m + 15) r h)

pub exception_of-low : (m r : ℕ) → r < m + 15 → exception_of m r ≡ None
exception_of-low m r h = cond-false (leb (m + 15) r) (Some r) None (lt-leb (m + 15) r h)

-- the register of a nibble and an exception
pub register_of-packed : (m r : ℕ) → m ≤ r → register_of m (nibble m r) (exception_of m r) ≡ r
register_of-packed m r low = elim (cases_lt r (m + 15)) [
  | inl under ↦ ap (register_of m (nibble m r)) (exception_of-low m r under) ∙ omega (arith, low, under)
  | inr high ↦ ap (register_of m (nibble m r)) (exception_of-high m r high)
]

module _ (k m : ℕ) (R : List ℕ) (t : ExceptionMap) (small : k ≤ 21) (size : length R ≡ 2 ^ k) (is : IsMap t) (same : t.lg_k ≡ k)
    (at : (s : ℕ) → s < 2 ^ k → value_in t s ≡ exception_of m (get_or R s 0)) where
  -- an entry of the map is an exception
  entry_in : (c : ℕ) → has c (coupons_in t.table.buckets) ≡ true → has c (exceptions_above m R) ≡ true
  entry_in c h =
      let s : ℕ = slot_of c in
      let below : s < 2 ^ k = subst (λ n. s < 2 ^ n) same (slot_below t is c h) in
      let r : ℕ = get_or R s 0 in
      let value : Some (value_of c) ≡ exception_of m r = sym (value_found t is c h) ∙ at s below in
      elim (cases_lt r (m + 15)) [
        | inl under ↦ let none : Some (value_of c) ≡ None = value ∙ exception_of-low m r under in cc
        | inr high ↦
            let both : Some (value_of c) ≡ Some r = value ∙ exception_of-high m r high in
            let v : value_of c ≡ r = cc in
            let word : c ≡ pair s r = omega (arith, v) in
            let some : 0 < r = omega (arith, high) in
            keeps (λ c. leb (m + 15) (value_of c)) c (raw_coupons_from 0 R) (le-leb (m + 15) (value_of c) (omega (arith, v, high)))
            (raw_coupons_have R 0 c s (record { within = omega (arith, below, size); positive = some; is = word ∙ ap (λ n. pair n r) (sym (zero-add s)) }))
      ]

  -- and an exception is an entry of the map
  exception_is : (c : ℕ) → has c (exceptions_above m R) ≡ true → has c (coupons_in t.table.buckets) ≡ true
  exception_is c h =
      let parts = kept (λ c. leb (m + 15) (value_of c)) c (raw_coupons_from 0 R) h in
      let found : (i : ℕ) × StandsFor R 0 c i = in_raw_coupons R 0 c parts.1 in
      let i : ℕ = found.0 in
      let within : i < 2 ^ k = omega (arith, found.1.within, size) in
      let r : ℕ = get_or R i 0 in
      let is_word : c ≡ pair i r = found.1.is ∙ ap (λ n. pair n r) (zero-add i) in
      let slot : slot_of c ≡ i = ap slot_of is_word ∙ slot_of-pair i r (slot_small k i small within) in
      let value : value_of c ≡ r = ap value_of is_word ∙ value_of-pair i r (slot_small k i small within) in
      let high : m + 15 ≤ r = omega (arith, leb-true (m + 15) (value_of c) parts.0, value) in
      let entry : IsEntry t i r = entry_of_value t is i r (at i within ∙ exception_of-high m r high) in
      let word : entry.raw_coupon ≡ c = omega (arith, entry.slot, entry.value, slot, value) in
      ap (λ w. has w (coupons_in t.table.buckets)) (sym word) ∙ entry.there

  pub entries_are : set_of (coupons_in t.table.buckets) ≡ set_of (exceptions_above m R)
  entries_are = same_set nat_cmp_total nat_cmp-IsAntisymmetric _ _ (λ c. both_ways _ _
      (λ h. contains-has (exceptions_above m R) c ∙ entry_in c (sym (contains-has (coupons_in t.table.buckets) c) ∙ h))
      (λ h. contains-has (coupons_in t.table.buckets) c ∙ exception_is c (sym (contains-has (exceptions_above m R) c) ∙ h)))

-- no slot has an exception
no_exceptions : (k m : ℕ) (R : List ℕ) → k ≤ 21 → length R ≡ 2 ^ k → ((s : ℕ) → s < 2 ^ k → None ≡ exception_of m (get_or R s 0)) → set_of [] ≡ set_of (exceptions_above m R)
no_exceptions k m R small size at = same_set nat_cmp_total nat_cmp-IsAntisymmetric _ _ (λ c. both_ways _ _
    (λ h. absurd (true≢false (sym h ∙ contains-has [] c)))
    (λ h. absurd (none c (sym (contains-has (exceptions_above m R) c) ∙ h))))
  where
    none : (c : ℕ) → has c (exceptions_above m R) ≡ true → ⊥
    none c h =
        let parts = kept (λ c. leb (m + 15) (value_of c)) c (raw_coupons_from 0 R) h in
        let found : (i : ℕ) × StandsFor R 0 c i = in_raw_coupons R 0 c parts.1 in
        let i : ℕ = found.0 in
        let within : i < 2 ^ k = omega (arith, found.1.within, size) in
        let r : ℕ = get_or R i 0 in
        let value : value_of c ≡ r = ap value_of (found.1.is ∙ ap (λ n. pair n r) (zero-add i)) ∙ value_of-pair i r (slot_small k i small within) in
        let some : None ≡ Some r = at i within ∙ exception_of-high m r (omega (arith, leb-true (m + 15) (value_of c) parts.0, value)) in
        cc

-- a new map has no value
pub value_in-empty : (t : ExceptionMap) (k s : ℕ) → t ≡ empty_map k → value_in t s ≡ None
value_in-empty t k s e = ap (λ u. value_in u s) e ∙ ap (λ xs. entry_at k xs s) (coupons_in-replicate (2 ^ start_size k))

-- ---- the law

pub packed_is_of_registers : PackedIsOfRegisters
packed_is_of_registers k m n bytes e R small p =
    let least : m ≡ minimum R = minimum_is m R p.registers.small (λ s l. p.least s (omega (arith, l, p.registers.size))) (omega (arith, p.some, p.count)) in
    record {
      minimum_is = least;
      count_is = p.count ∙ ap (λ m. count_by (λ r. eqb r m) R) least;
      bytes_are = bytes_of_nibbles m bytes R (omega (arith, p.size, p.registers.size)) p.fits (λ s l. p.nibbles s (omega (arith, l, p.registers.size))) ∙ ap (λ m. nibble_bytes_above m R) least;
      exceptions_are = entries e p.map_for p.excepted ∙ ap (λ m. set_of (exceptions_above m R)) least;
      unpacked_is = ext_get_or 0 _ _ (length-map-range_with_len _ 0 (2 ^ k) ∙ sym p.registers.size) (λ s l.
          let within : s < 2 ^ k = omega (arith, l, length-map-range_with_len (λ s. register_of m (nibble_at bytes s) (exception_in e s)) 0 (2 ^ k)) in
          get_or-map-range_with_len (λ s. register_of m (nibble_at bytes s) (exception_in e s)) 0 (2 ^ k) s s 0 within (zero-add s)
          ∙ (λ i. register_of m (p.nibbles s within i) (p.excepted s within i)) ∙ register_of-packed m (get_or R s 0) (p.least s within));
    }
  where
    entries : (e : Option ExceptionMap) → IsMapFor k e → ((s : ℕ) → s < 2 ^ k → exception_in e s ≡ exception_of m (get_or R s 0)) → exceptions_in e ≡ set_of (exceptions_above m R)
    entries None u at = no_exceptions k m R small p.registers.size at
    entries (Some t) (is, same, more) at = entries_are k m R t small p.registers.size is same at

-- ---- loops over the entries of a map

pub All-one : {X : Type 0} (P : X → Type 0) (p : X) → P p → All P (p ∷ [])
All-one P p h zero d l = h
All-one P p h (suc i) d l = absurd (omega (arith, l))

All-front : {X : Type 0} (P : X → Type 0) (ys zs : List X) → All P (ys ++ zs) → All P ys
All-front {X = X} P ys zs h i d l = subst P (front ys i l) (h i d (omega (arith, l, length-append ys zs)))
  where
    front : (xs : List X) (j : ℕ) → j < length xs → get_or (xs ++ zs) j d ≡ get_or xs j d
    front [] j k = absurd (omega (arith, k))
    front (x ∷ xs) zero k = refl
    front (x ∷ xs) (suc j) k = front xs j (omega (arith, k))

-- the entries so far that are exceptions above a minimum are kept, and no others
pub record KeptSoFar (t : ExceptionMap) (m : ℕ) (kept : Option ExceptionMap) (ys : List (ℕ × ℕ)) : Type 0 where
  pub map : IsMapFor t.lg_k kept
  pub some : All (λ p. m + 15 ≤ p.1 → exception_in kept p.0 ≡ Some p.1) ys
  pub only : (s v : ℕ) → exception_in kept s ≡ Some v → (value_in t s ≡ Some v) × (m + 15 ≤ v)

pub kept_none : (t : ExceptionMap) (m : ℕ) → KeptSoFar t m None []
kept_none t m = record { map = tt; some = λ i d l. absurd (omega (arith, l)); only = λ s v e. cc }

-- an entry that isn't kept
pub kept_less : (t : ExceptionMap) (m : ℕ) (kept : Option ExceptionMap) (ys : List (ℕ × ℕ)) (s v : ℕ) → KeptSoFar t m kept ys → v < m + 15 → KeptSoFar t m kept (ys ++ (s, v) ∷ [])
kept_less t m kept ys s v h low = record {
  map = h.map;
  some = All-append (λ p. m + 15 ≤ p.1 → exception_in kept p.0 ≡ Some p.1) ys ((s, v) ∷ []) h.some (All-one (λ p. m + 15 ≤ p.1 → exception_in kept p.0 ≡ Some p.1) (s, v) (λ high. absurd (omega (arith, low, high))));
  only = h.only;
}

-- an entry that is kept
pub kept_more : (t : ExceptionMap) (m : ℕ) (kept new : Option ExceptionMap) (ys zs : List (ℕ × ℕ)) (s v : ℕ) → KeptSoFar t m kept ys → All (IsEntryOf t) (ys ++ (s, v) ∷ zs) → m + 15 ≤ v → IsMapFor t.lg_k new →
    ((q : ℕ) → exception_in new q ≡ cond (eqb q s) (Some v) (exception_in kept q)) → KeptSoFar t m new (ys ++ (s, v) ∷ [])
kept_more t m kept new ys zs s v h all high is put = record {
  map = is;
  some = All-append (λ p. m + 15 ≤ p.1 → exception_in new p.0 ≡ Some p.1) ys ((s, v) ∷ [])
      (λ i d l above. let p : ℕ × ℕ = get_or ys i d in
      let entry : IsEntryOf t p = All-front (IsEntryOf t) ys ((s, v) ∷ zs) all i d l in
      elim (cases_Bool (eqb p.0 s)) [
        | inl same ↦
            let both : Some p.1 ≡ Some v = sym entry.value ∙ ap (value_in t) (eqb-true p.0 s same) ∙ here.value in
            put p.0 ∙ cond-true (eqb p.0 s) (Some v) (exception_in kept p.0) same ∙ sym both
        | inr other ↦ put p.0 ∙ cond-false (eqb p.0 s) (Some v) (exception_in kept p.0) other ∙ h.some i d l above
      ])
      (All-one (λ p. m + 15 ≤ p.1 → exception_in new p.0 ≡ Some p.1) (s, v) (λ above. put s ∙ cond-true (eqb s s) (Some v) (exception_in kept s) (eq-eqb s s refl)));
  only = λ q w e. elim (cases_Bool (eqb q s)) [
    | inl same ↦
        let both : Some v ≡ Some w = sym (cond-true (eqb q s) (Some v) (exception_in kept q) same) ∙ sym (put q) ∙ e in
        let value : v ≡ w = cc in
        (ap (value_in t) (eqb-true q s same) ∙ here.value ∙ ap (λ n. Some n) value, omega (arith, high, value))
    | inr other ↦ h.only q w (sym (cond-false (eqb q s) (Some v) (exception_in kept q) other) ∙ sym (put q) ∙ e)
  ];
}
  where
    here : IsEntryOf t (s, v)
    here = last_of_all (IsEntryOf t) (ys ++ (s, v) ∷ zs) ys zs (s, v) refl all

-- after all entries
pub kept_whole : (t : ExceptionMap) (m : ℕ) (kept : Option ExceptionMap) → IsMap t → KeptSoFar t m kept (entries_in t) → (s : ℕ) → exception_in kept s ≡ kept_above m (value_in t s)
kept_whole t m kept is h s = of (value_in t s) refl
  where
    of : (o : Option ℕ) → value_in t s ≡ o → exception_in kept s ≡ kept_above m o
    of None e = none (exception_in kept s) refl
      where
        none : (x : Option ℕ) → exception_in kept s ≡ x → x ≡ None
        none None f = refl
        none (Some w) f = let both : None ≡ Some w = sym e ∙ (h.only s w f).0 in cc
    of (Some v) e = elim (cases_lt v (m + 15)) [
      | inr high ↦ of_value t is (λ p. m + 15 ≤ p.1 → exception_in kept p.0 ≡ Some p.1) h.some s v e high ∙ sym (exception_of-high m v high)
      | inl low ↦ none low (exception_in kept s) refl ∙ sym (exception_of-low m v low)
    ]
      where
        none : v < m + 15 → (x : Option ℕ) → exception_in kept s ≡ x → x ≡ None
        none low None f = refl
        none low (Some w) f =
            let o = h.only s w f in
            let both : Some v ≡ Some w = sym e ∙ o.0 in
            let same : v ≡ w = cc in
            absurd (omega (arith, low, same, o.1))

-- what a slot with an exception rules out is seen where there is none
pub none_of_refused : (o : Option ℕ) → (o ≢ None → ⊥) → o ≡ None
none_of_refused None h = refl
none_of_refused (Some v) h = absurd (h (λ (e : Some v ≡ None). cc))

-- ---- exceptions that fall to nibbles

-- a nibble is unchanged, or is that of an exception that no longer is one above the minimum
abbrev pub IsOldOrFallen : ExceptionMap → ℕ → List ℕ → List ℕ → ℕ → Type 0
IsOldOrFallen t m old new s = (nibble_at new s ≡ nibble_at old s) ⊎ ((v : ℕ) × (value_in t s ≡ Some v) × (v < m + 15) × (nibble_at new s ≡ v - m))

-- those of the entries so far that are no longer exceptions have their nibbles
pub record FallenSoFar (t : ExceptionMap) (m : ℕ) (old new : List ℕ) (ys : List (ℕ × ℕ)) : Type 0 where
  pub done : All (λ p. p.1 < m + 15 → nibble_at new p.0 ≡ p.1 - m) ys
  pub others : (s : ℕ) → IsOldOrFallen t m old new s

pub fallen_none : (t : ExceptionMap) (m : ℕ) (old : List ℕ) → FallenSoFar t m old old []
fallen_none t m old = record { done = λ i d l. absurd (omega (arith, l)); others = λ s. inl refl }

-- an entry that stays an exception
pub fallen_less : (t : ExceptionMap) (m : ℕ) (old new : List ℕ) (ys : List (ℕ × ℕ)) (s v : ℕ) → FallenSoFar t m old new ys → m + 15 ≤ v → FallenSoFar t m old new (ys ++ (s, v) ∷ [])
fallen_less t m old new ys s v h high = record {
  done = All-append (λ p. p.1 < m + 15 → nibble_at new p.0 ≡ p.1 - m) ys ((s, v) ∷ []) h.done (All-one (λ p. p.1 < m + 15 → nibble_at new p.0 ≡ p.1 - m) (s, v) (λ low. absurd (omega (arith, low, high))));
  others = h.others;
}

-- an entry that is no longer an exception
pub fallen_more : (t : ExceptionMap) (m : ℕ) (old now new : List ℕ) (ys zs : List (ℕ × ℕ)) (s v : ℕ) → FallenSoFar t m old now ys → All (IsEntryOf t) (ys ++ (s, v) ∷ zs) → v < m + 15 →
    ((q : ℕ) → nibble_at new q ≡ cond (eqb q s) (v - m) (nibble_at now q)) → FallenSoFar t m old new (ys ++ (s, v) ∷ [])
fallen_more t m old now new ys zs s v h all low put = record {
  done = All-append (λ p. p.1 < m + 15 → nibble_at new p.0 ≡ p.1 - m) ys ((s, v) ∷ [])
      (λ i d l below. let p : ℕ × ℕ = get_or ys i d in
      let entry : IsEntryOf t p = All-front (IsEntryOf t) ys ((s, v) ∷ zs) all i d l in
      elim (cases_Bool (eqb p.0 s)) [
        | inl same ↦
            let both : Some p.1 ≡ Some v = sym entry.value ∙ ap (value_in t) (eqb-true p.0 s same) ∙ here.value in
            let value : p.1 ≡ v = cc in
            put p.0 ∙ cond-true (eqb p.0 s) (v - m) (nibble_at now p.0) same ∙ ap (λ n. n - m) (sym value)
        | inr other ↦ put p.0 ∙ cond-false (eqb p.0 s) (v - m) (nibble_at now p.0) other ∙ h.done i d l below
      ])
      (All-one (λ p. p.1 < m + 15 → nibble_at new p.0 ≡ p.1 - m) (s, v) (λ below. put s ∙ cond-true (eqb s s) (v - m) (nibble_at now s) (eq-eqb s s refl)));
  others = λ q. elim (cases_Bool (eqb q s)) [
    | inl same ↦ inr (v, ap (value_in t) (eqb-true q s same) ∙ here.value, low, put q ∙ cond-true (eqb q s) (v - m) (nibble_at now q) same)
    | inr other ↦
        let kept : nibble_at new q ≡ nibble_at now q = put q ∙ cond-false (eqb q s) (v - m) (nibble_at now q) other in
        elim (h.others q) [ inl e ↦ inl (kept ∙ e) | inr f ↦ inr (f.0, f.1, f.2, kept ∙ f.3) ]
  ];
}
  where
    here : IsEntryOf t (s, v)
    here = last_of_all (IsEntryOf t) (ys ++ (s, v) ∷ zs) ys zs (s, v) refl all

-- after all entries
pub fallen_whole : (t : ExceptionMap) (m : ℕ) (old new : List ℕ) → IsMap t → FallenSoFar t m old new (entries_in t) → (s : ℕ) → nibble_at new s ≡ fallen m (value_in t s) (nibble_at old s)
fallen_whole t m old new is h s = of (value_in t s) refl
  where
    of : (o : Option ℕ) → value_in t s ≡ o → nibble_at new s ≡ fallen m o (nibble_at old s)
    of None e = elim (h.others s) [ inl k ↦ k | inr f ↦ let both : None ≡ Some f.0 = sym e ∙ f.1 in cc ]
    of (Some v) e = elim (cases_lt v (m + 15)) [
      | inl low ↦
          of_value t is (λ p. p.1 < m + 15 → nibble_at new p.0 ≡ p.1 - m) h.done s v e low
          ∙ sym (cond-false (leb (m + 15) v) (nibble_at old s) (v - m) (lt-leb (m + 15) v low))
      | inr high ↦ elim (h.others s) [
        | inl k ↦ k ∙ sym (cond-true (leb (m + 15) v) (nibble_at old s) (v - m) (le-leb (m + 15) v high))
        | inr f ↦
            let both : Some v ≡ Some f.0 = sym e ∙ f.1 in
            let same : v ≡ f.0 = cc in
            absurd (omega (arith, high, same, f.2))
      ]
    ]

-- ---- kept registers

-- the registers are read back from what is stored
pub unpacked_is : (k m n : ℕ) (bytes : List ℕ) (e : Option ExceptionMap) (R : List ℕ) → k ≤ 21 → IsPacked k m n bytes e R → unpacked k m bytes e ≡ R
unpacked_is k m n bytes e R small p = (packed_is_of_registers k m n bytes e R small p).unpacked_is

pub packed_here : (k m n : ℕ) (bytes : List ℕ) (e : Option ExceptionMap) (R : List ℕ) → k ≤ 21 → IsPacked k m n bytes e R → IsPacked k m n bytes e (unpacked k m bytes e)
packed_here k m n bytes e R small p = subst (IsPacked k m n bytes e) (sym (unpacked_is k m n bytes e R small p)) p

replicated : (n v s : ℕ) → s < n → get_or (replicate n v) s 0 ≡ v
replicated n v s l = get_or-replicate n s v 0 l

count_all : (n : ℕ) → count_by (λ r. eqb r 0) (replicate n 0) ≡ n
count_all zero = refl
count_all (suc n) = sum_by-cons (λ r. cond (eqb r 0) 1 0) 0 (replicate n 0) ∙ omega (arith, count_all n)

-- zeros
pub packed_zeros : (k : ℕ) → 4 ≤ k → IsPacked k 0 (2 ^ k) (replicate (2 ^ (k - 1)) 0) None (replicate (2 ^ k) 0)
packed_zeros k low =
    let twice : 2 * 2 ^ (k - 1) ≡ 2 ^ k = sym (ap (λ n. 2 ^ n) (let e : k ≡ suc (k - 1) = omega arith in e) ∙ omega (arith, pow-suc 2 (k - 1))) in
    let long : length (replicate (2 ^ (k - 1)) 0) ≡ 2 ^ (k - 1) = length-replicate {A = ℕ} (2 ^ (k - 1)) 0 in
    record {
      registers = record {
        size = length-replicate {A = ℕ} (2 ^ k) 0;
        small = λ i d l. omega (arith, get_or_default (replicate (2 ^ k) 0) i d 0 l, replicated (2 ^ k) 0 i (omega (arith, l, length-replicate {A = ℕ} (2 ^ k) 0)));
      };
      least = λ s l. omega arith;
      count = sym (count_all (2 ^ k));
      some = pow_pos k;
      size = omega (arith, twice, long);
      fits = λ i d l. omega (arith, get_or_default (replicate (2 ^ (k - 1)) 0) i d 0 l, replicated (2 ^ (k - 1)) 0 i (omega (arith, l, long)));
      nibbles = λ s l.
          let half : s / 2 < 2 ^ (k - 1) = omega (arith, l, twice) in
          ap (λ b. b / 16 ^ (s % 2) % 16) (replicated (2 ^ (k - 1)) 0 (s / 2) half) ∙ none (16 ^ (s % 2)) ∙ sym (ap (nibble 0) (replicated (2 ^ k) 0 s l));
      map_for = tt;
      excepted = λ s l. sym (ap (exception_of 0) (replicated (2 ^ k) 0 s l));
    }
  where
    none : (n : ℕ) → 0 / n % 16 ≡ 0
    none n = ap (λ m. m % 16) (zero-div n)

counted : (b : Bool) (n : ℕ) → cond b 1 0 ≤ n → n ≡ 0 → b ≡ false
counted true n h e = absurd (omega (arith, h, e))
counted false n h e = refl

-- the least of a prefix is the least of all if it is one above a bound that no register is at
pub minimum_of_front : (m i : ℕ) (R : List ℕ) → fold min 63 (take i R) ≡ m + 1 → ((s : ℕ) → s < length R → m ≤ get_or R s 0) → count_by (λ r. eqb r m) R ≡ 0 → fold min 63 (take i R) ≡ minimum R
minimum_of_front m i R is all none =
    let whole : minimum R ≡ fold min (fold min 63 (take i R)) (drop i R) = ap (fold min 63) (sym (take-append-drop i R)) ∙ fold-append min 63 (take i R) (drop i R) in
    let each : (s : ℕ) → s < length R → m + 1 ≤ get_or R s 0 = λ s l.
    let other : eqb (get_or R s 0) m ≡ false = counted (eqb (get_or R s 0) m) _ (get_or-le-sum_by (λ r. cond (eqb r m) 1 0) R s 0 l) none in
    let above : get_or R s 0 ≢ m = λ e. true≢false (sym (eq-eqb (get_or R s 0) m e) ∙ other) in
    omega (arith, all s l, above) in
    omega (arith, whole, minimum_from_le (fold min 63 (take i R)) (drop i R), minimum_ge (m + 1) 63 R (omega (arith, is, minimum_from_le 63 (take i R))) each)

-- ---- counts of zeros

pub count_above : (m : ℕ) (R : List ℕ) → 0 < m → ((s : ℕ) → s < length R → m ≤ get_or R s 0) → count_by (λ r. eqb r 0) R ≡ 0
count_above m [] some h = refl
count_above m (r ∷ R) some h =
    let first : ◌≡◌ {A = ℕ} (cond (eqb r 0) 1 0) 0 = cond-false (eqb r 0) 1 0 (elim (cases_Bool (eqb r 0)) [ inl t ↦ absurd (omega (arith, some, h 0 (omega arith), eqb-true r 0 t)) | inr f ↦ f ]) in
    omega (arith, sum_by-cons (λ r. cond (eqb r 0) 1 0) r R, first, count_above m R some (λ s l. h (suc s) (omega (arith, l))))

-- the number of registers that are 0 is the count at the minimum if that is 0, else 0
pub zeros_packed : (k m n : ℕ) (bytes : List ℕ) (e : Option ExceptionMap) (R : List ℕ) → IsPacked k m n bytes e R → cond (eqb m 0) n 0 ≡ count_by (λ r. eqb r 0) R
zeros_packed k m n bytes e R p = elim (cases_Bool (eqb m 0)) [
  | inl t ↦ cond-true (eqb m 0) n 0 t ∙ p.count ∙ ap (λ m. count_by (λ r. eqb r m) R) (eqb-true m 0 t)
  | inr f ↦
      let some : 0 < m = positive m f in
      cond-false (eqb m 0) n 0 f ∙ sym (count_above m R some (λ s l. p.least s (omega (arith, l, p.registers.size))))
]
  where
    positive : (m : ℕ) → eqb m 0 ≡ false → 0 < m
    positive zero f = absurd (true≢false f)
    positive (suc m) f = omega arith

one_more : (a b : ℕ) → eqb (suc a) (suc b) ≡ eqb a b
one_more a b = elim (cases_eq a b) [
  | inl e ↦ eq-eqb (suc a) (suc b) (ap suc e) ∙ sym (eq-eqb a b e)
  | inr other ↦ ne_eqb (suc a) (suc b) (λ e. other (omega (arith, e))) ∙ sym (ne_eqb a b other)
]

-- all elements pass exactly if the count of those that pass is the length
pub all_by_count : (p : ℕ → Bool) (R : List ℕ) → eqb (count_by p R) (length R) ≡ list_all p R
all_by_count p [] = refl
all_by_count p (r ∷ R) = decide (p r) refl (all_by_count p R)
  where
    decide : (b : Bool) → p r ≡ b → eqb (count_by p R) (length R) ≡ list_all p R → eqb (count_by p (r ∷ R)) (length (r ∷ R)) ≡ (b && list_all p R)
    decide true e rest =
        let one : ◌≡◌ {A = ℕ} (cond (p r) 1 0) 1 = cond-true (p r) 1 0 e in
        ap (λ n. eqb n (length (r ∷ R))) (let s : count_by p (r ∷ R) ≡ suc (count_by p R) = omega (arith, sum_by-cons (λ r. cond (p r) 1 0) r R, one) in s) ∙ one_more (count_by p R) (length R) ∙ rest
    decide false e rest =
        let none : ◌≡◌ {A = ℕ} (cond (p r) 1 0) 0 = cond-false (p r) 1 0 e in
        elim (cases_Bool (eqb (count_by p (r ∷ R)) (length (r ∷ R)))) [
          | inl t ↦ absurd (omega (arith, sum_by-cons (λ r. cond (p r) 1 0) r R, none, count_by-le-length p R, eqb-true (count_by p (r ∷ R)) (length (r ∷ R)) t))
          | inr f ↦ f
        ]
