-- SPDX-License-Identifier: Apache-2.0
-- Which check fails first, by the faults that readers of payloads fail with.
use Rattle.std.proofs.Common.{arith, ◌≡◌, ◌≢◌, ◌⊎◌, ℕ, ◌+◌, ◌*◌, ◌^◌, ◌<◌, ◌≤◌, Bool, true, false, cond, eqb, leb, List, [], ◌∷◌, ◌++◌, length, take, drop, All, Some, None, Result, Ok, Err, IfErr, inl, inr, refl, sym, ap, subst, ◌∙◌}
use Rattle.std.proofs.lemmas.Bool.{cases_eq, true≢false}
use Rattle.std.proofs.lemmas.Bool.Decides.{Decides-eqb, Decides-ltb}
use Rattle.std.proofs.lemmas.List.{length-drop, drop-drop, take-append-drop, length-take}
use Rattle.hll_base.specs.declared.error.Reason.{Reason}
use Rattle.hll_base.specs.declared.error.Reason.TheVariants as reasons
use Rattle.hll_coupons.specs.Coupons.{AreCoupons}
use Rattle.hll_coupons.specs.Payload.{HasListCount, ListFault, list_buckets, list_coupons, set_count, set_buckets, set_coupons, HasSetCount, SetFault}
use Rattle.hll_coupons.specs.Payload as coupons
use Rattle.hll_coupons.proofs.Payloads.{front_number}
use Rattle.hll_registers.specs.Payload.{num_at_cur_min, exception_count, field_size, hll4_size, entries_of, HasEntries, IsWhole, HasPlainCounts, IsHll8Payload, IsHll6Payload, FirstHll8Fault, FirstHll6Fault, FirstHll4Fault}
use Rattle.hll_registers.specs.Payload as arrays
use Rattle.hll_sketch.specs.Image.{lg_k_byte, table_byte, state_byte, width_bits, is_flagged, list_shape, set_shape, hll4_shape, HasHeader, HasSetTable}
use Rattle.hll_sketch.specs.Checks.{Check, Checks, check, first_failing, checks_after, list_checks, set_checks, plain_checks, hll4_checks, hll6_checks, hll8_checks, size_fault, first_fault}
use Rattle.hll_sketch.proofs.Checks.{passed, failed, header_passed, Decides-leb, Decides-list_count, Decides-set_table, Decides-coupons, Decides-entries, Decides-small, Decides-plain, Decides-counts, Decides-table, Decides-all_agree}

-- a check that fails first does so whatever checks follow
pub failing_before : (cs ds : List Check) (r : Reason) → first_failing cs ≡ Some r → first_failing (cs ++ ds) ≡ Some r
failing_before [] ds r e = absurd (let none : None ≡ Some r = e in cc)
failing_before (c ∷ cs) ds r e = of c.passes (failing_before cs ds r) e
  where
    of : (t : Bool) → (first_failing cs ≡ Some r → first_failing (cs ++ ds) ≡ Some r) → cond t (first_failing cs) (Some c.reason) ≡ Some r
        → cond t (first_failing (cs ++ ds)) (Some c.reason) ≡ Some r
    of true further f = further f
    of false further f = f

-- if no check fails, none of the first checks fails
pub none_before : (cs ds : List Check) → first_failing (cs ++ ds) ≡ None → first_failing cs ≡ None
none_before [] ds e = refl
none_before (c ∷ cs) ds e = of c.passes (none_before cs ds) e
  where
    of : (t : Bool) → (first_failing (cs ++ ds) ≡ None → first_failing cs ≡ None) → cond t (first_failing (cs ++ ds)) (Some c.reason) ≡ None
        → cond t (first_failing cs) (Some c.reason) ≡ None
    of true further n = further n
    of false further n = n

-- what two clauses say of an error
pub IfErr-with : {T E : Type 0} (r : Result T E) (P Q S : E → Type 0) → ((e : E) → P e → Q e → S e) → IfErr r P → IfErr r Q → IfErr r S
IfErr-with (Ok x) P Q S h p q = tt
IfErr-with (Err e) P Q S h p q = h e p q

module _ (b : List ℕ) where
  -- ---- after a header

  pub after_list : HasHeader b 0 → checks_after b ≡ list_checks b
  after_list h = ap (λ s. cond (eqb s 0) (list_checks b) (cond (eqb s 1) (set_checks b) (cond (eqb (width_bits b) 0) (hll4_checks b) (cond (eqb (width_bits b) 1) (hll6_checks b) (hll8_checks b))))) h.stage_is

  pub after_set : HasHeader b 1 → checks_after b ≡ set_checks b
  after_set h = ap (λ s. cond (eqb s 0) (list_checks b) (cond (eqb s 1) (set_checks b) (cond (eqb (width_bits b) 0) (hll4_checks b) (cond (eqb (width_bits b) 1) (hll6_checks b) (hll8_checks b))))) h.stage_is

  pub after_hll : (w : ℕ) → HasHeader b 2 → width_bits b ≡ w → checks_after b ≡ cond (eqb w 0) (hll4_checks b) (cond (eqb w 1) (hll6_checks b) (hll8_checks b))
  after_hll w h width = λ i. cond (eqb (h.stage_is i) 0) (list_checks b) (cond (eqb (h.stage_is i) 1) (set_checks b) (cond (eqb (width i) 0) (hll4_checks b) (cond (eqb (width i) 1) (hll6_checks b) (hll8_checks b))))

  -- the first fault is that of the checks after the header
  pub first_after : (s : ℕ) (cs : Checks) → s < 3 → HasHeader b s → checks_after b ≡ cs → first_fault b ≡ first_failing (cs.size ++ cs.content)
  first_after s cs three h is = header_passed b s ((checks_after b).size ++ (checks_after b).content) three h ∙ ap (λ (cs : Checks). first_failing (cs.size ++ cs.content)) is

  pub size_after : (s : ℕ) (cs : Checks) → s < 3 → HasHeader b s → checks_after b ≡ cs → size_fault b ≡ first_failing cs.size
  size_after s cs three h is = header_passed b s (checks_after b).size three h ∙ ap (λ (cs : Checks). first_failing cs.size) is

  -- ---- a list

  list_sized : (cs : List Check) → 8 ≤ length b → table_byte b ≡ 3 → HasListCount (list_shape b) → 4 * list_buckets (list_shape b) ≤ length (drop 8 b) → first_failing ((list_checks b).size ++ cs) ≡ first_failing cs
  list_sized cs whole table count there =
      passed _ _ _ (Decides-eqb (table_byte b) 3) table
      ∙ passed _ _ _ (Decides-list_count b) count
      ∙ passed _ _ _ (Decides-leb (8 + 4 * list_buckets (list_shape b)) (length b)) (omega (arith, there, whole, length-drop 8 b))

  list_failing : (r : Reason) → 8 ≤ length b → table_byte b ≡ 3 → ListFault (list_shape b) (drop 8 b) r → (r ≡ reasons.Count → HasListCount (list_shape b) → AreCoupons (list_coupons (list_shape b) (drop 8 b)))
      → first_failing ((list_checks b).size ++ (list_checks b).content) ≡ Some r
  list_failing r whole table (coupons.ListFault.count n) order =
      passed _ _ _ (Decides-eqb (table_byte b) 3) table
      ∙ failed _ _ _ (Decides-list_count b) n
  list_failing r whole table (coupons.ListFault.short count l) order =
      passed _ _ _ (Decides-eqb (table_byte b) 3) table
      ∙ passed _ _ _ (Decides-list_count b) count
      ∙ failed _ _ _ (Decides-leb (8 + 4 * list_buckets (list_shape b)) (length b)) (λ t. omega (arith, t, l, length-drop 8 b))
  list_failing r whole table (coupons.ListFault.coupon count there n) order =
      list_sized (list_checks b).content whole table count there
      ∙ failed _ _ _ (Decides-coupons (list_coupons (list_shape b) (drop 8 b))) n
  list_failing r whole table (coupons.ListFault.number count there n) order =
      list_sized (list_checks b).content whole table count there
      ∙ passed _ _ _ (Decides-coupons (list_coupons (list_shape b) (drop 8 b))) (order refl count)
      ∙ failed _ _ _ (Decides-eqb (length (list_coupons (list_shape b) (drop 8 b))) (state_byte b)) n

  pub list_first : (r : Reason) → HasHeader b 0 → table_byte b ≡ 3 → ListFault (list_shape b) (drop 8 b) r → (r ≡ reasons.Count → HasListCount (list_shape b) → AreCoupons (list_coupons (list_shape b) (drop 8 b)))
      → first_fault b ≡ Some r
  list_first r h table f order = first_after 0 (list_checks b) (omega arith) h (after_list h) ∙ list_failing r h.whole table f order

  pub list_table_first : HasHeader b 0 → table_byte b ≢ 3 → first_fault b ≡ Some reasons.LgArr
  list_table_first h n = first_after 0 (list_checks b) (omega arith) h (after_list h) ∙ failed _ _ _ (Decides-eqb (table_byte b) 3) n

  pub list_asked : HasHeader b 0 → table_byte b ≡ 3 → HasListCount (list_shape b) → 4 * list_buckets (list_shape b) ≤ length (drop 8 b) → size_fault b ≡ None
  list_asked h table count there = size_after 0 (list_checks b) (omega arith) h (after_list h) ∙ list_sized [] h.whole table count there

  -- ---- a set

  set_sized : (cs : List Check) → HasSetTable b → HasSetCount (set_shape b) (drop 8 b) → 4 + 4 * set_buckets (set_shape b) (drop 8 b) ≤ length (drop 8 b) → first_failing ((set_checks b).size ++ cs) ≡ first_failing cs
  set_sized cs table count there =
      passed _ _ _ (Decides-set_table b) table
      ∙ passed _ _ _ (Decides-leb 12 (length b)) (omega (arith, count.whole, length-drop 8 b))
      ∙ passed _ _ _ (Decides-ltb (set_count (drop 8 b)) (2 ^ table_byte b)) count.low
      ∙ passed _ _ _ (Decides-leb (12 + 4 * set_buckets (set_shape b) (drop 8 b)) (length b)) (omega (arith, there, length-drop 8 b))

  set_failing : (r : Reason) → HasSetTable b → SetFault (set_shape b) (drop 8 b) r → (r ≡ reasons.Count → HasSetCount (set_shape b) (drop 8 b) → AreCoupons (set_coupons (set_shape b) (drop 8 b)))
      → first_failing ((set_checks b).size ++ (set_checks b).content) ≡ Some r
  set_failing r table (coupons.SetFault.no_count l) order =
      passed _ _ _ (Decides-set_table b) table
      ∙ failed _ _ _ (Decides-leb 12 (length b)) (λ t. omega (arith, t, l, length-drop 8 b))
  set_failing r table (coupons.SetFault.count whole l) order =
      passed _ _ _ (Decides-set_table b) table
      ∙ passed _ _ _ (Decides-leb 12 (length b)) (omega (arith, whole, length-drop 8 b))
      ∙ failed _ _ _ (Decides-ltb (set_count (drop 8 b)) (2 ^ table_byte b)) (λ t. omega (arith, t, l))
  set_failing r table (coupons.SetFault.short count l) order =
      passed _ _ _ (Decides-set_table b) table
      ∙ passed _ _ _ (Decides-leb 12 (length b)) (omega (arith, count.whole, length-drop 8 b))
      ∙ passed _ _ _ (Decides-ltb (set_count (drop 8 b)) (2 ^ table_byte b)) count.low
      ∙ failed _ _ _ (Decides-leb (12 + 4 * set_buckets (set_shape b) (drop 8 b)) (length b)) (λ t. omega (arith, t, l, length-drop 8 b))
  set_failing r table (coupons.SetFault.coupon count there n) order =
      set_sized (set_checks b).content table count there
      ∙ failed _ _ _ (Decides-coupons (set_coupons (set_shape b) (drop 8 b))) n
  set_failing r table (coupons.SetFault.number count there n) order =
      set_sized (set_checks b).content table count there
      ∙ passed _ _ _ (Decides-coupons (set_coupons (set_shape b) (drop 8 b))) (order refl count)
      ∙ failed _ _ _ (Decides-eqb (length (set_coupons (set_shape b) (drop 8 b))) (set_count (drop 8 b))) n

  pub set_first : (r : Reason) → HasHeader b 1 → HasSetTable b → SetFault (set_shape b) (drop 8 b) r → (r ≡ reasons.Count → HasSetCount (set_shape b) (drop 8 b) → AreCoupons (set_coupons (set_shape b) (drop 8 b)))
      → first_fault b ≡ Some r
  set_first r h table f order = first_after 1 (set_checks b) (omega arith) h (after_set h) ∙ set_failing r table f order

  pub set_table_first : HasHeader b 1 → (HasSetTable b → ⊥) → first_fault b ≡ Some reasons.LgArr
  set_table_first h n = first_after 1 (set_checks b) (omega arith) h (after_set h) ∙ failed _ _ _ (Decides-set_table b) n

  pub set_asked : HasHeader b 1 → HasSetTable b → HasSetCount (set_shape b) (drop 8 b) → 4 + 4 * set_buckets (set_shape b) (drop 8 b) ≤ length (drop 8 b) → size_fault b ≡ None
  set_asked h table count there = size_after 1 (set_checks b) (omega arith) h (after_set h) ∙ set_sized [] table count there

  -- ---- 8-bit and 6-bit registers

  plain_sized : (n : ℕ) (cs : List Check) → HasPlainCounts (lg_k_byte b) (drop 8 b) → 32 + n ≤ length (drop 8 b) → first_failing (plain_checks n b ++ cs) ≡ first_failing cs
  plain_sized n cs counts there =
      passed _ _ _ (Decides-leb 40 (length b)) (omega (arith, counts.whole, length-drop 8 b))
      ∙ passed _ _ _ (Decides-plain b) (counts.zero_count, counts.no_exceptions)
      ∙ passed _ _ _ (Decides-leb (40 + n) (length b)) (omega (arith, there, length-drop 8 b))

  no_counts_failing : (n : ℕ) (cs : List Check) → length (drop 8 b) < 32 → first_failing (plain_checks n b ++ cs) ≡ Some reasons.Truncated
  no_counts_failing n cs l = failed _ _ _ (Decides-leb 40 (length b)) (λ t. omega (arith, t, l, length-drop 8 b))

  counts_failing : (n : ℕ) (cs : List Check) → 32 ≤ length (drop 8 b) → ((num_at_cur_min (drop 8 b) ≤ 2 ^ lg_k_byte b) × (exception_count (drop 8 b) ≡ 0) → ⊥) → first_failing (plain_checks n b ++ cs) ≡ Some reasons.Count
  counts_failing n cs whole wrong =
      passed _ _ _ (Decides-leb 40 (length b)) (omega (arith, whole, length-drop 8 b))
      ∙ failed _ _ _ (Decides-plain b) wrong

  short_failing : (n : ℕ) (cs : List Check) → HasPlainCounts (lg_k_byte b) (drop 8 b) → length (drop 8 b) < 32 + n → first_failing (plain_checks n b ++ cs) ≡ Some reasons.Truncated
  short_failing n cs counts l =
      passed _ _ _ (Decides-leb 40 (length b)) (omega (arith, counts.whole, length-drop 8 b))
      ∙ passed _ _ _ (Decides-plain b) (counts.zero_count, counts.no_exceptions)
      ∙ failed _ _ _ (Decides-leb (40 + n) (length b)) (λ t. omega (arith, t, l, length-drop 8 b))

  eight_failing : (r : Reason) → FirstHll8Fault (lg_k_byte b) (drop 8 b) r → first_failing ((hll8_checks b).size ++ (hll8_checks b).content) ≡ Some r
  eight_failing r (arrays.FirstHll8Fault.no_counts l) = no_counts_failing (2 ^ lg_k_byte b) (hll8_checks b).content l
  eight_failing r (arrays.FirstHll8Fault.zero_count whole many) = counts_failing (2 ^ lg_k_byte b) (hll8_checks b).content whole (λ t. omega (arith, t.0, many))
  eight_failing r (arrays.FirstHll8Fault.exceptions_counted whole some) = counts_failing (2 ^ lg_k_byte b) (hll8_checks b).content whole (λ t. some t.1)
  eight_failing r (arrays.FirstHll8Fault.short counts l) = short_failing (2 ^ lg_k_byte b) (hll8_checks b).content counts l
  eight_failing r (arrays.FirstHll8Fault.register counts there n) =
      let same : take (2 ^ lg_k_byte b) (drop 40 b) ≡ take (2 ^ lg_k_byte b) (drop 32 (drop 8 b)) = ap (take (2 ^ lg_k_byte b)) (sym (drop-drop 32 8 b)) in
      plain_sized (2 ^ lg_k_byte b) (hll8_checks b).content counts there
      ∙ failed _ _ _ (Decides-small (take (2 ^ lg_k_byte b) (drop 40 b))) (λ small. n (subst (All (λ v. v ≤ 63)) same small))

  pub eight_first : (r : Reason) → HasHeader b 2 → width_bits b ≡ 2 → FirstHll8Fault (lg_k_byte b) (drop 8 b) r → first_fault b ≡ Some r
  eight_first r h width f = first_after 2 (hll8_checks b) (omega arith) h (after_hll 2 h width) ∙ eight_failing r f

  six_failing : (r : Reason) → FirstHll6Fault (lg_k_byte b) (drop 8 b) r → first_failing ((hll6_checks b).size ++ (hll6_checks b).content) ≡ Some r
  six_failing r (arrays.FirstHll6Fault.no_counts l) = no_counts_failing (field_size (lg_k_byte b)) [] l
  six_failing r (arrays.FirstHll6Fault.zero_count whole many) = counts_failing (field_size (lg_k_byte b)) [] whole (λ t. omega (arith, t.0, many))
  six_failing r (arrays.FirstHll6Fault.exceptions_counted whole some) = counts_failing (field_size (lg_k_byte b)) [] whole (λ t. some t.1)
  six_failing r (arrays.FirstHll6Fault.short counts l) = short_failing (field_size (lg_k_byte b)) [] counts l

  pub six_first : (r : Reason) → HasHeader b 2 → width_bits b ≡ 1 → FirstHll6Fault (lg_k_byte b) (drop 8 b) r → first_fault b ≡ Some r
  six_first r h width f = first_after 2 (hll6_checks b) (omega arith) h (after_hll 1 h width) ∙ six_failing r f

  -- the counts in a prefix are those in all bytes
  front_counts : (n : ℕ) → length (take (32 + n) (drop 8 b)) ≡ 32 + n → num_at_cur_min (take (32 + n) (drop 8 b)) ≤ 2 ^ lg_k_byte b → exception_count (take (32 + n) (drop 8 b)) ≡ 0 → HasPlainCounts (lg_k_byte b) (drop 8 b)
  front_counts n size low none =
      let a : List ℕ = take (32 + n) (drop 8 b) in
      let cut : a ++ drop (32 + n) (drop 8 b) ≡ drop 8 b = take-append-drop (32 + n) (drop 8 b) in
      record {
        whole = omega (arith, size, length-take (32 + n) (drop 8 b));
        zero_count = subst (λ m. m ≤ 2 ^ lg_k_byte b) (front_number a (drop (32 + n) (drop 8 b)) (drop 8 b) cut 24 (omega (arith, size))) low;
        no_exceptions = sym (front_number a (drop (32 + n) (drop 8 b)) (drop 8 b) cut 28 (omega (arith, size))) ∙ none;
      }

  pub eight_asked : HasHeader b 2 → width_bits b ≡ 2 → IsHll8Payload (lg_k_byte b) (take (32 + 2 ^ lg_k_byte b) (drop 8 b)) → size_fault b ≡ None
  eight_asked h width p =
      let n : ℕ = 2 ^ lg_k_byte b in
      size_after 2 (hll8_checks b) (omega arith) h (after_hll 2 h width)
      ∙ plain_sized n [] (front_counts n p.size p.zero_count p.no_exceptions) (omega (arith, p.size, length-take (32 + n) (drop 8 b)))

  pub six_asked : HasHeader b 2 → width_bits b ≡ 1 → IsHll6Payload (lg_k_byte b) (take (32 + field_size (lg_k_byte b)) (drop 8 b)) → size_fault b ≡ None
  six_asked h width p =
      let n : ℕ = field_size (lg_k_byte b) in
      size_after 2 (hll6_checks b) (omega arith) h (after_hll 1 h width)
      ∙ plain_sized n [] (front_counts n p.size p.zero_count p.no_exceptions) (omega (arith, p.size, length-take (32 + n) (drop 8 b)))

  -- ---- 4-bit registers

  -- a table that is needed has a size in its range
  right_table : HasEntries (hll4_shape b) (drop 8 b) → (is_flagged 8 b ≡ true) ⊎ ((exception_count (drop 8 b) ≡ 0) ⊎ (table_byte b ≤ 26))
  right_table has = of (is_flagged 8 b) refl
    where
      of : (c : Bool) → is_flagged 8 b ≡ c → (is_flagged 8 b ≡ true) ⊎ ((exception_count (drop 8 b) ≡ 0) ⊎ (table_byte b ≤ 26))
      of true e = inl e
      of false e = inr (elim (cases_eq (exception_count (drop 8 b)) 0) [ inl none ↦ inl none | inr some ↦ inr (has.table e some) ])

  four_counted : (cs : List Check) → num_at_cur_min (drop 8 b) ≤ 2 ^ lg_k_byte b → HasEntries (hll4_shape b) (drop 8 b) →
      first_failing ((hll4_checks b).size ++ cs) ≡ first_failing (check reasons.Truncated (leb (8 + hll4_size (hll4_shape b) (drop 8 b)) (length b)) ∷ cs)
  four_counted cs low has =
      passed _ _ _ (Decides-leb 40 (length b)) (omega (arith, has.whole, length-drop 8 b))
      ∙ passed _ _ _ (Decides-counts b) (low, has.few)
      ∙ passed _ _ _ (Decides-table b) (right_table has)

  four_sized : (cs : List Check) → IsWhole (hll4_shape b) (drop 8 b) → first_failing ((hll4_checks b).size ++ cs) ≡ first_failing cs
  four_sized cs whole =
      four_counted cs whole.low whole.has_entries
      ∙ passed _ _ _ (Decides-leb (8 + hll4_size (hll4_shape b) (drop 8 b)) (length b)) (omega (arith, whole.there, whole.has_entries.whole, length-drop 8 b))

  four_failing : (r : Reason) → FirstHll4Fault (hll4_shape b) (drop 8 b) r → first_failing ((hll4_checks b).size ++ (hll4_checks b).content) ≡ Some r
  four_failing r (arrays.FirstHll4Fault.no_counts l) = failed _ _ _ (Decides-leb 40 (length b)) (λ t. omega (arith, t, l, length-drop 8 b))
  four_failing r (arrays.FirstHll4Fault.low_count_above whole many) =
      passed _ _ _ (Decides-leb 40 (length b)) (omega (arith, whole, length-drop 8 b))
      ∙ failed _ _ _ (Decides-counts b) (λ t. omega (arith, t.0, many))
  four_failing r (arrays.FirstHll4Fault.exceptions_above whole many) =
      passed _ _ _ (Decides-leb 40 (length b)) (omega (arith, whole, length-drop 8 b))
      ∙ failed _ _ _ (Decides-counts b) (λ t. omega (arith, t.1, many))
  four_failing r (arrays.FirstHll4Fault.table whole low few loose some wide) =
      passed _ _ _ (Decides-leb 40 (length b)) (omega (arith, whole, length-drop 8 b))
      ∙ passed _ _ _ (Decides-counts b) (low, few)
      ∙ failed _ _ _ (Decides-table b) (λ t. elim t [ inl compact ↦ true≢false (sym compact ∙ loose) | inr rest ↦ elim rest [ inl none ↦ some none | inr narrow ↦ absurd (omega (arith, narrow, wide)) ] ])
  four_failing r (arrays.FirstHll4Fault.short low has l) =
      four_counted (hll4_checks b).content low has
      ∙ failed _ _ _ (Decides-leb (8 + hll4_size (hll4_shape b) (drop 8 b)) (length b)) (λ t. omega (arith, t, l, length-drop 8 b))
  four_failing r (arrays.FirstHll4Fault.coupon whole n) =
      four_sized (hll4_checks b).content whole
      ∙ failed _ _ _ (Decides-entries (lg_k_byte b) (entries_of (hll4_shape b) (drop 8 b))) n
  four_failing r (arrays.FirstHll4Fault.number whole are n) =
      four_sized (hll4_checks b).content whole
      ∙ passed _ _ _ (Decides-entries (lg_k_byte b) (entries_of (hll4_shape b) (drop 8 b))) are
      ∙ failed _ _ _ (Decides-eqb (length (entries_of (hll4_shape b) (drop 8 b))) (exception_count (drop 8 b))) n
  four_failing r (arrays.FirstHll4Fault.register whole are number n) =
      four_sized (hll4_checks b).content whole
      ∙ passed _ _ _ (Decides-entries (lg_k_byte b) (entries_of (hll4_shape b) (drop 8 b))) are
      ∙ passed _ _ _ (Decides-eqb (length (entries_of (hll4_shape b) (drop 8 b))) (exception_count (drop 8 b))) number
      ∙ failed _ _ _ (Decides-all_agree b) n

  pub four_first : (r : Reason) → HasHeader b 2 → width_bits b ≡ 0 → FirstHll4Fault (hll4_shape b) (drop 8 b) r → first_fault b ≡ Some r
  four_first r h width f = first_after 2 (hll4_checks b) (omega arith) h (after_hll 0 h width) ∙ four_failing r f

  pub four_asked : HasHeader b 2 → width_bits b ≡ 0 → IsWhole (hll4_shape b) (drop 8 b) → size_fault b ≡ None
  four_asked h width whole = size_after 2 (hll4_checks b) (omega arith) h (after_hll 0 h width) ∙ four_sized [] whole
