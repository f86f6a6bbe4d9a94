-- SPDX-License-Identifier: Apache-2.0
-- Images whose header, counts and length are right.
use Rattle.std.proofs.Common.{arith, ◌≡◌, ℕ, ◌+◌, ◌*◌, ◌^◌, ◌<◌, ◌≤◌, Bool, true, false, cond, eqb, List, [], ◌∷◌, ◌++◌, length, drop, Option, Some, None, inl, inr, refl, sym, ap, subst, ◌∙◌}
use Rattle.std.specs.Bool.{Decides}
use Rattle.std.specs.Prelude.{IfNone, IfErr, Result, Ok, Err}
use Rattle.std.proofs.lemmas.Bool.{cases_Bool}
use Rattle.std.proofs.lemmas.List.{length-drop}
use Rattle.hll_base.specs.declared.error.Reason.{Reason}
use Rattle.hll_base.specs.declared.error.Reason.TheVariants as reasons
use Rattle.hll_coupons.specs.Coupons.{raw_coupons, AreCoupons}
use Rattle.hll_coupons.specs.Payload.{set_coupons, coupon, HasListCount, shape_of_list, shape_of_set, list_buckets, set_count, set_buckets}
use Rattle.hll_sketch.specs.Image.{table_byte, state_byte, is_flagged, HasHeader, HasSetTable, list_shape, set_shape, IsReadAs}
use Rattle.hll_sketch.specs.Checks.{Check, first_failing, header_checks, checks_after, list_checks, set_checks, first_fault, size_fault}
use Rattle.hll_sketch.specs.MergedIn.{raw_coupons_in, HasCompactCoupons}
use Rattle.hll_sketch.specs.Value.{Sketch}
use Rattle.hll_sketch.proofs.Checks.{Decides-leb, Decides-list_count, Decides-set_table}
use Rattle.std.proofs.lemmas.Bool.Decides.{Decides-eqb, Decides-ltb}
use Rattle.hll_sketch.proofs.FirstFailing.{set_first, none_before, after_list, after_set, size_after}
use Rattle.hll_sketch.proofs.FirstFaults.{faultless_is_image}

-- if a check doesn't fail, it passes, and none of the checks after it fails
pub passing : {P : Type 0} (t : Bool) (s : Reason) (o : Option Reason) → Decides t P → cond t o (Some s) ≡ None → P × (o ≡ None)
passing true s o d none = (d.0 refl, none)
passing false s o d none = let other : Some s ≡ None = none in absurd (cc)

-- if no check fails, none of the checks of header and size fails
sized_if_faultless : (hs ss cs : List Check) → first_failing (hs ++ (ss ++ cs)) ≡ None → first_failing (hs ++ ss) ≡ None
sized_if_faultless [] ss cs none = none_before ss cs none
sized_if_faultless (h ∷ hs) ss cs none = of h.passes (sized_if_faultless hs ss cs) none
  where
    of : (t : Bool) → (first_failing (hs ++ (ss ++ cs)) ≡ None → first_failing (hs ++ ss) ≡ None) → cond t (first_failing (hs ++ (ss ++ cs))) (Some h.reason) ≡ None
        → cond t (first_failing (hs ++ ss)) (Some h.reason) ≡ None
    of true further n = further n
    of false further n = n

-- bytes that are read as a sketch have the size that their header and counts say
pub sized_if_read : (b : List ℕ) (x : Sketch) → IsReadAs b x → size_fault b ≡ None
sized_if_read b x read = sized_if_faultless (header_checks b) (checks_after b).size (checks_after b).content ((faultless_is_image b).1 (x, read))

-- what a right size says of a list
pub record ListSize (b : List ℕ) : Type 0 where
  pub table : table_byte b ≡ 3
  pub count : HasListCount (list_shape b)
  pub there : 8 + 4 * list_buckets (list_shape b) ≤ length b

pub list_size : (b : List ℕ) → HasHeader b 0 → size_fault b ≡ None → ListSize b
list_size b h none =
    let first = passing _ _ _ (Decides-eqb (table_byte b) 3) (sym (size_after b 0 (list_checks b) (omega arith) h (after_list b h)) ∙ none) in
    let second = passing _ _ _ (Decides-list_count b) first.1 in
    let third = passing _ _ _ (Decides-leb (8 + 4 * list_buckets (list_shape b)) (length b)) second.1 in
    record { table = first.0; count = second.0; there = third.0 }

-- and of a set
pub record SetSize (b : List ℕ) : Type 0 where
  pub table : HasSetTable b
  pub whole : 12 ≤ length b
  pub count : set_count (drop 8 b) < 2 ^ table_byte b
  pub there : 12 + 4 * set_buckets (set_shape b) (drop 8 b) ≤ length b

pub set_size : (b : List ℕ) → HasHeader b 1 → size_fault b ≡ None → SetSize b
set_size b h none =
    let first = passing _ _ _ (Decides-set_table b) (sym (size_after b 1 (set_checks b) (omega arith) h (after_set b h)) ∙ none) in
    let second = passing _ _ _ (Decides-leb 12 (length b)) first.1 in
    let third = passing _ _ _ (Decides-ltb (set_count (drop 8 b)) (2 ^ table_byte b)) second.1 in
    let fourth = passing _ _ _ (Decides-leb (12 + 4 * set_buckets (set_shape b) (drop 8 b)) (length b)) third.1 in
    record { table = first.0; whole = second.0; count = third.0; there = fourth.0 }

-- ---- compact coupons

-- the raw coupons of a list are there
pub list_there : (b : List ℕ) → HasHeader b 0 → HasCompactCoupons b → HasListCount (list_shape b) × (4 * state_byte b ≤ length (drop 8 b))
list_there b h up =
    let size : ListSize b = list_size b h up.sized in
    let there : 4 * state_byte b ≤ length (drop 8 b) = elim (cases_Bool (is_flagged 4 b)) [
      | inl none ↦ omega (arith, size.count.flag.0 none)
      | inr filled ↦
          let buckets : list_buckets (list_shape b) ≡ state_byte b = λ i. list_buckets (shape_of_list 3 (state_byte b) (filled i) (up.compact i)) in
          omega (arith, size.there, buckets, length-drop 8 b, h.whole)
    ] in
    (size.count, there)

-- and those of a set
pub set_there : (b : List ℕ) → HasHeader b 1 → HasCompactCoupons b → 4 * set_count (drop 8 b) ≤ length (drop 4 (drop 8 b))
set_there b h up =
    let size : SetSize b = set_size b h up.sized in
    let buckets : set_buckets (set_shape b) (drop 8 b) ≡ set_count (drop 8 b) = λ i. set_buckets (shape_of_set (table_byte b) (up.compact i)) (drop 8 b) in
    omega (arith, size.there, size.whole, buckets, length-drop 8 b, length-drop 4 (drop 8 b))

-- if the raw coupons of a compact set are no coupons, that is its first fault
pub faulty_set : (b xs : List ℕ) → HasHeader b 1 → size_fault b ≡ None → is_flagged 8 b ≡ true → xs ≡ raw_coupons_in b → (AreCoupons xs → ⊥) → first_fault b ≡ Some reasons.Coupon
faulty_set b xs h sized compact same faulty =
    let size : SetSize b = set_size b h sized in
    let p : List ℕ = drop 8 b in
    let after : raw_coupons_in b ≡ raw_coupons (set_count p) (drop 4 p) = ap (λ s. cond (eqb s 0) (raw_coupons (state_byte b) p) (raw_coupons (set_count p) (drop 4 p))) h.stage_is in
    let order : set_coupons (set_shape b) p ≡ raw_coupons (set_count p) (drop 4 p) = λ i. set_coupons (shape_of_set (table_byte b) (compact i)) p in
    set_first b reasons.Coupon h size.table
    (coupon (record { whole = omega (arith, size.whole, length-drop 8 b); low = size.count }) (omega (arith, size.there, size.whole, length-drop 8 b)) (λ are. faulty (subst AreCoupons (order ∙ sym (same ∙ after)) are)))
    (λ e. cc)

-- what follows if a result is None
pub IfNone_then : {X : Type 0} (r : Option X) {P Q : Type 0} → IfNone r P → (P → Q) → IfNone r Q
IfNone_then None h f = f h
IfNone_then (Some x) h f = tt

-- two clauses of one error
pub both_err : {T E : Type 0} (r : Result T E) (P Q : E → Type 0) → IfErr r P → IfErr r Q → IfErr r (λ e. P e × Q e)
both_err (Ok x) P Q p q = tt
both_err (Err e) P Q p q = (p, q)
