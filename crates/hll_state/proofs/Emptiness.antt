-- SPDX-License-Identifier: Apache-2.0
-- States without pairs, and coupons that are copied with their table.
use Rattle.std.proofs.Common.{◌≡◌, ◌≢◌, ℕ, ◌-◌, ◌^◌, ◌<◌, ◌≤◌, ◌*◌, Bool, true, false, leb, nat_eq, List, [], Option, Some, None, length, take, refl, sym, ap, ◌∙◌, inl, inr, arith}
use Rattle.std.specs.Prelude.{max}
use Rattle.std.specs.Cmp.{both_ways}
use Rattle.std.specs.FinSet.{len, len-empty}
use Rattle.std.specs.Ordering.{nat_cmp}
use Rattle.std.proofs.lemmas.Bool.{cases_Bool, cond-true, cond-false, eq-eqb, eqb-true, le-leb, ne_eqb}
use Rattle.std.proofs.lemmas.List.{length-take-le}
use Rattle.std.proofs.Math.Pow.{pow_mono}
use Rattle.hll_base.specs.declared.hll_type.HllType.TheVariants.{Hll8}
use Rattle.hll_coupons.proofs.Unions.{set_of-nil}
use Rattle.hll_coupons.specs.Pair.{Pairs, set_of}
use Rattle.hll_sketch.proofs.Emptiness.{listed-none}
use Rattle.hll_sketch.specs.Adding.{content_for}
use Rattle.hll_sketch.specs.Layout.{IsSize}
use Rattle.hll_sketch.specs.Stage.{stage}
use Rattle.hll_sketch.specs.Value.{Sketch, IsLgK, IsTableFor, in_registers, is_empty, pairs_in}
use Rattle.hll_state.specs.Counter.{sketch_in, content_of, content_of_coupons, AreResolved}
use Rattle.hll_state.specs.CouponRun.{members, raws}
use Rattle.hll_state.specs.Header.{new_header, are_few, greatest_size, elements_for, most_used, most_elements, AreWithin, IsHeldWithin, IsWithin}
use Rattle.hll_state.specs.Merged.{HasSomeRegister, is_unused}
use Rattle.hll_state.specs.declared.header.CouponTable.{CouponTable}
use Rattle.hll_state.specs.declared.header.Held.{Held}
use Rattle.hll_state.specs.declared.header.Held.TheVariants.{Coupons, Registers}
use Rattle.hll_state.specs.declared.header.Header.{Header}
use Rattle.hll_state.specs.declared.run.CouponRun.{CouponRun}
use Rattle.hll_state.proofs.Raws.{length-raws}
use Rattle.hll_state.proofs.Rooms.{used_within, elements_mono, few_stay}
use Rattle.hll_state.proofs.Settled.{used_count}

-- coupons with a table are the pairs of their content
pub pairs_in-coupons : (k : ℕ) (c : CouponTable) (S : Pairs) → (c.added ≡ true → stage k c.lg_size (len S) ≢ None) → pairs_in (content_of_coupons k c S) ≡ S
pairs_in-coupons k c S stays = of c.added refl
  where
    kept : (o : Option ℕ) → o ≢ None → pairs_in (content_for k S o) ≡ S
    kept (Some q) some = refl
    kept None some = absurd (some refl)

    of : (b : Bool) → c.added ≡ b → pairs_in (content_of_coupons k c S) ≡ S
    of true e = ap (λ b. pairs_in (content_of_coupons k (record c { added = b }) S)) e ∙ kept (stage k c.lg_size (len S)) (stays e)
    of false e = ap (λ b. pairs_in (content_of_coupons k (record c { added = b }) S)) e

module _ (k : ℕ) (c : CouponTable) (body : List (List ℕ)) (within : AreWithin k c (length body)) (resolved : AreResolved k c body) where
  abbrev S : Pairs
  S = members c.run body

  pub count : c.run.used ≡ len S
  count = used_count c.run.used body S (used_within k c.run.used (length body) within.used within.there) (record { increasing = resolved.ascends; members = refl })

  -- resolved coupons are the pairs of their content
  pub pairs_in-resolved : pairs_in (content_of k (Coupons c) body) ≡ S
  pairs_in-resolved = pairs_in-coupons k c S (λ added none. resolved.stays added (ap (stage k c.lg_size) count ∙ none))

  pub pairs_of-resolved : (held : Held) → held ≡ Coupons c → pairs_in (content_of k held body) ≡ S
  pairs_of-resolved held is = ap (λ h. pairs_in (content_of k h body)) is ∙ pairs_in-resolved

-- ---- no element in use

-- zero coupons are few
few_none : (k : ℕ) → are_few k 0 ≡ true
few_none k = elim (cases_Bool (nat_eq (greatest_size k) 3)) [
  | inl three ↦ cond-true (nat_eq (greatest_size k) 3) (leb 0 7) (leb (4 * 0) (3 * 2 ^ greatest_size k)) three
  | inr other ↦ cond-false (nat_eq (greatest_size k) 3) (leb 0 7) (leb (4 * 0) (3 * 2 ^ greatest_size k)) other ∙ le-leb (4 * 0) (3 * 2 ^ greatest_size k) (omega arith)
]

-- if no element is in use, no coupon is
none_used : (r : CouponRun) (body : List (List ℕ)) → r.used ≡ 0 → len (members r body) ≡ 0
none_used r body none = ap (λ n. len (set_of (take n (raws body)))) none ∙ ap len set_of-nil ∙ len-empty nat_cmp

some_used : (r : CouponRun) (body : List (List ℕ)) → r.used ≤ length body → len (members r body) ≡ 0 → r.used ≡ 0
some_used r body within none =
    omega (arith, ap length (listed-none (take r.used (raws body)) none), length-take-le r.used (raws body) (omega (arith, within, length-raws body)))

-- so a state is empty if no element is in use and its registers, if it has registers, are not all 0
pub none_in_use : (k : ℕ) (c : CouponTable) (body : List (List ℕ)) → AreWithin k c (length body) → (in_registers (content_of_coupons k c (members c.run body)) ≡ true → nat_eq (len (pairs_in (content_of_coupons k c (members c.run body)))) 0 ≡ false)
    → nat_eq c.run.used 0 ≡ nat_eq (len (pairs_in (content_of_coupons k c (members c.run body)))) 0
none_in_use k c body within some = of c.added refl
  where
    S : Pairs
    S = members c.run body

    same : nat_eq c.run.used 0 ≡ nat_eq (len S) 0
    same = both_ways _ _
        (λ e. eq-eqb (len S) 0 (none_used c.run body (eqb-true c.run.used 0 e)))
        (λ e. eq-eqb c.run.used 0 (some_used c.run body (used_within k c.run.used (length body) within.used within.there) (eqb-true (len S) 0 e)))

    staged : (o : Option ℕ) → stage k c.lg_size (len S) ≡ o → (in_registers (content_for k S o) ≡ true → nat_eq (len (pairs_in (content_for k S o))) 0 ≡ false)
        → nat_eq c.run.used 0 ≡ nat_eq (len (pairs_in (content_for k S o))) 0
    staged (Some q) is some = same
    staged None is some = ne_eqb c.run.used 0 (λ none.
        few_stay k c.lg_size (len S) within.size (ap (are_few k) (none_used c.run body none) ∙ few_none k) is) ∙ sym (some refl)

    of : (b : Bool) → c.added ≡ b → nat_eq c.run.used 0 ≡ nat_eq (len (pairs_in (content_of_coupons k c S))) 0
    of true e = staged (stage k c.lg_size (len S)) refl (λ t. ap (λ b. nat_eq (len (pairs_in (content_of_coupons k (record c { added = b }) S))) 0) (sym e) ∙ some (ap (λ b. in_registers (content_of_coupons k (record c { added = b }) S)) e ∙ t))
        ∙ ap (λ b. nat_eq (len (pairs_in (content_of_coupons k (record c { added = b }) S))) 0) (sym e)
    of false e = same ∙ ap (λ b. nat_eq (len (pairs_in (content_of_coupons k (record c { added = b }) S))) 0) (sym e)

-- whatever is held
pub unused_is_empty : (h : Header) (body : List (List ℕ)) → IsWithin h (length body) → HasSomeRegister (sketch_in h body) → is_unused h.held ≡ is_empty (sketch_in h body)
unused_is_empty h body within some = of h.held within.held some
  where
    of : (held : Held) → IsHeldWithin h.lg_k held (length body) → (in_registers (content_of h.lg_k held body) ≡ true → nat_eq (len (pairs_in (content_of h.lg_k held body))) 0 ≡ false)
        → is_unused held ≡ nat_eq (len (pairs_in (content_of h.lg_k held body))) 0
    of (Coupons c) within some = none_in_use h.lg_k c body within some
    of (Registers s) within some = sym (some refl)

-- what the elements hold doesn't matter if none is in use
pub same_without : (h : Header) (c : CouponTable) (old new : List (List ℕ)) → h.held ≡ Coupons c → c.run.used ≡ 0 → sketch_in h new ≡ sketch_in h old
same_without h c old new is none = read new ∙ sym (read old)
  where
    read : (body : List (List ℕ)) → sketch_in h body ≡ record { lg_k = h.lg_k; width = Hll8; content = content_of_coupons h.lg_k c (set_of []) }
    read body = ap (λ (held : Held). let x : Sketch = record { lg_k = h.lg_k; width = Hll8; content = content_of h.lg_k held body } in x) is
        ∙ ap (λ n. let x : Sketch = record { lg_k = h.lg_k; width = Hll8; content = content_of_coupons h.lg_k c (set_of (take n (raws body))) } in x) none

-- coupons of a table are within the elements that are enough for them
pub table_within : (k n p room : ℕ) → IsTableFor k n p → elements_for k n ≤ room → AreWithin k (record { lg_size = p; added = false; run = record { run = 0; used = n } }) room
table_within k n p room table enough = record { size = size table; taken = λ e. table; run = omega arith; used = used table; there = enough }
  where
    size : IsTableFor k n p → IsSize k p
    size (inl few) = inl few.0
    size (inr large) = inr (large.0, large.1)

    used : IsTableFor k n p → n ≤ most_used k
    used (inl few) = let up : 2 ^ 4 ≤ 2 ^ max 4 (k - 3) = pow_mono {i = 4} {j = max 4 (k - 3)} (omega arith) in omega (arith, few.1, up)
    used (inr large) = let up : 2 ^ p ≤ 2 ^ max 4 (k - 3) = pow_mono {i = p} {j = max 4 (k - 3)} (omega (arith, large.1)) in omega (arith, large.2, up)

-- zero coupons are within any number of elements
pub new_within : (k widths room : ℕ) → IsLgK k → widths < 8 → IsWithin (record (new_header k) { widths = widths }) room
new_within k widths room lg_k few = record {
  lg_k = lg_k;
  widths = few;
  held = table_within k 0 3 room (inl (refl, omega arith)) (omega (arith, cond-true (are_few k 0) 0 (most_elements k) (few_none k)));
}

-- a run of at most this number of coupons is within them too
pub run_within : (k n p room : ℕ) (r : CouponRun) → IsTableFor k n p → elements_for k n ≤ room → r.run ≤ r.used → r.used ≤ n → AreWithin k (record { lg_size = p; added = false; run = r }) room
run_within k n p room r table enough run fewer =
    let all = table_within k n p room table enough in
    record {
      size = all.size;
      taken = λ e. taken table;
      run = run;
      used = omega (arith, all.used, fewer);
      there = omega (arith, elements_mono k r.used n fewer, enough);
    }
  where
    taken : IsTableFor k n p → IsTableFor k r.used p
    taken (inl few) = inl (few.0, omega (arith, few.1, fewer))
    taken (inr large) = inr (large.0, large.1, omega (arith, large.2, fewer))
