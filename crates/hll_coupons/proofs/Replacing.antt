-- SPDX-License-Identifier: Apache-2.0
-- A table in which the coupon of a filled bucket is replaced by another.
use Rattle.std.proofs.Common.{◌≡◌, ◌≢◌, ℕ, zero, suc, ◌+◌, ◌^◌, ◌<◌, ◌≤◌, true, false, cond, List, [], ◌∷◌, ◌++◌, length, get_or, set, refl, sym, subst, ap, ◌∙◌, arith, inl, inr}
use Rattle.std.specs.Cmp.{nat_cmp_total}
use Rattle.std.specs.FinSet.{contains, insert, len, len-insert}
use Rattle.std.proofs.lemmas.Bool.{cases_Bool}
use Rattle.std.proofs.lemmas.List.{length-append, length-set, set-get_or, get_or-set_same, get_or-set_other}
use Rattle.hll_coupons.specs.Pair.{Pairs, IsPair, set_of}
use Rattle.hll_coupons.specs.Table.{Table, IsTable, coupons_in, coupons_of}
use Rattle.hll_coupons.proofs.Listed.{contains-has}
use Rattle.hll_coupons.proofs.Members.{set_of-between}
use Rattle.hll_coupons.proofs.Buckets.{Between, between}
use Rattle.hll_coupons.proofs.Putting.{Stands, stands, found_at_bucket}
use Rattle.hll_coupons.proofs.Reading.{len-set_of-le}
use Rattle.hll_coupons.proofs.Maps.{of_all, for_all}
use Rattle.hll_coupons.proofs.TableLemmas.{IsTable-put}

set-set_same : (xs : List ℕ) (i a b : ℕ) → set (set xs i a) i b ≡ set xs i b
set-set_same [] i a b = refl
set-set_same (x ∷ xs) zero a b = refl
set-set_same (x ∷ xs) (suc i) a b = ap (λ ys. x ∷ ys) (set-set_same xs i a b)

module _ (t : Table) (p : ℕ) (table : IsTable t) (inside : p < 2 ^ t.lg_size) (full : get_or t.buckets p 0 ≢ 0) where
  abbrev w : ℕ
  w = get_or t.buckets p 0

  -- the table without the coupon of the bucket
  abbrev emptied : Table
  emptied = record { lg_size = t.lg_size; buckets = set t.buckets p 0 }

  within : p < length t.buckets
  within = omega (arith, inside, table.size)

  empty : get_or emptied.buckets p 0 ≡ 0
  empty = get_or-set_same t.buckets p 0 0 within

  back : set emptied.buckets p w ≡ t.buckets
  back = set-set_same t.buckets p 0 w ∙ set-get_or t.buckets p 0

  parts : Between emptied.buckets p w
  parts = between emptied.buckets p w (omega (arith, within, length-set t.buckets p 0)) empty (omega (arith, full))

  -- each of its coupons is in another bucket of the table
  kept : (c : ℕ) → contains (coupons_of emptied) c ≡ true → (q : ℕ) × (q < length t.buckets) × (q ≢ p) × (get_or t.buckets q 0 ≡ c) × (c ≢ 0)
  kept c h =
      let s : Stands emptied.buckets c = stands emptied.buckets c h in
      let other : s.bucket ≢ p = λ e. s.full (ap (λ q. get_or emptied.buckets q 0) e ∙ empty) in (
        s.bucket,
        omega (arith, s.within, length-set t.buckets p 0),
        other,
        sym (get_or-set_other t.buckets p s.bucket 0 0 other) ∙ s.is,
        λ z. s.full (s.is ∙ z),
      )

  whole : coupons_in t.buckets ≡ parts.before ++ w ∷ parts.after
  whole = ap coupons_in (sym back) ∙ parts.new

  distinct : len (coupons_of emptied) ≡ length (coupons_in emptied.buckets)
  distinct =
      let few : len (set_of (parts.before ++ parts.after)) ≤ length (parts.before ++ parts.after) = len-set_of-le (parts.before ++ parts.after) in
      let all : len (set_of (coupons_in t.buckets)) ≡ length (parts.before ++ w ∷ parts.after) = table.distinct ∙ ap length whole in
      let one : len (set_of (coupons_in t.buckets)) ≤ len (set_of (parts.before ++ parts.after)) + 1 = subst (λ S. len S ≤ len (set_of (parts.before ++ parts.after)) + 1)
      (sym (ap set_of whole ∙ set_of-between parts.before parts.after w)) (len-insert-le (set_of (parts.before ++ parts.after)) w) in
      let same : len (set_of (parts.before ++ parts.after)) ≡ length (parts.before ++ parts.after) =
      omega (arith, few, all, one, length-append parts.before (w ∷ parts.after), length-append parts.before parts.after) in
      ap (λ xs. len (set_of xs)) parts.old ∙ same ∙ sym (ap length parts.old)
    where
      len-insert-le : (S : Pairs) (c : ℕ) → len (insert S c) ≤ len S + 1
      len-insert-le S c = rw (len-insert nat_cmp_total S c) (elim (contains S c) as (λ b. cond b (len S) (len S + 1) ≤ len S + 1) [ true ↦ omega arith | false ↦ omega arith ])

  IsTable-emptied : IsTable emptied
  IsTable-emptied = record {
    small = table.small;
    size = length-set t.buckets p 0 ∙ table.size;
    distinct = distinct;
    valued = for_all IsPair (coupons_in emptied.buckets) (λ c h.
        let k = kept c (contains-has (coupons_in emptied.buckets) c ∙ h) in
        of_all IsPair (coupons_in t.buckets) table.valued c
        (sym (contains-has (coupons_in t.buckets) c) ∙ found_at_bucket t.buckets k.0 c k.1 k.3 (omega (arith, k.4))));
  }

  -- another coupon in this bucket
  pub IsTable-replace : (c : ℕ) → IsPair c → 0 < c → ((q : ℕ) → q < length t.buckets → q ≢ p → get_or t.buckets q 0 ≢ c) →
      IsTable (record { lg_size = t.lg_size; buckets = set t.buckets p c }) × (length (coupons_in (set t.buckets p c)) ≡ length (coupons_in t.buckets))
  IsTable-replace c pair some others =
      let fresh : contains (coupons_of emptied) c ≡ false = elim (cases_Bool (contains (coupons_of emptied) c)) [
        | inl there ↦ let k = kept c there in absurd (others k.0 k.1 k.2 k.3)
        | inr none ↦ none
      ] in
      let put = IsTable-put emptied p c IsTable-emptied inside empty pair fresh in
      let same : set emptied.buckets p c ≡ set t.buckets p c = set-set_same t.buckets p 0 c in (
        subst (λ buckets. IsTable (record { lg_size = t.lg_size; buckets = buckets })) same put.0,
        ap (λ xs. length (coupons_in xs)) (sym same) ∙ put.1 ∙ omega (arith, ap length whole, ap length parts.old, length-append parts.before (w ∷ parts.after), length-append parts.before parts.after),
      )
