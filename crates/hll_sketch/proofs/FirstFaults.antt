-- SPDX-License-Identifier: Apache-2.0
-- The first check that fails is a fault, and bytes that pass all checks begin with an image.
use Rattle.std.proofs.Common.{arith, ◌≡◌, ◌≢◌, ◌⊎◌, ℕ, ◌+◌, ◌*◌, ◌^◌, ◌<◌, ◌≤◌, false, eqb, List, ◌++◌, length, take, drop, All, Option, Some, None, inl, inr, refl, sym, ap, subst, ◌∙◌}
use Rattle.std.proofs.lemmas.Bool.{cond_both, cases_lt, false_from_ne_true, eqb-false, true≢false}
use Rattle.std.proofs.lemmas.Bool.Decides.{Decides-eqb, Decides-ltb}
use Rattle.std.proofs.lemmas.List.{length-drop, drop-drop}
use Rattle.hll_base.specs.declared.error.Reason.{Reason}
use Rattle.hll_coupons.specs.Pair.{set_of}
use Rattle.hll_coupons.specs.Payload.{HasListCount, list_buckets, list_coupons, list_table, shape_of_list, set_count, set_buckets, set_coupons, HasSetCount}
use Rattle.hll_coupons.specs.Payload as coupons
use Rattle.hll_coupons.proofs.Reading.{is_list_payload, coupons_in-list_table}
use Rattle.hll_coupons.proofs.SetReading.{is_set_payload}
use Rattle.hll_registers.specs.Payload.{num_at_cur_min, exception_count, field_size, hll4_size, entries_of, HasEntries, IsWhole}
use Rattle.hll_registers.specs.Payload as arrays
use Rattle.hll_arrays.proofs.FourBitWholes.{is_hll4_payload}
use Rattle.hll_arrays.proofs.ReadingRegisters.{is_hll8_payload, is_hll6_payload}
use Rattle.hll_sketch.specs.Value.{Sketch}
use Rattle.hll_sketch.specs.Image.{byte, lg_k_byte, table_byte, state_byte, preamble_byte, preamble_words, stage_bits, width_bits, is_flagged, list_shape, set_shape, hll4_shape, HasHeader, IsReadAs}
use Rattle.hll_sketch.specs.Fault.{IsFault, HeaderFault}
use Rattle.hll_sketch.specs.Fault as fault
use Rattle.hll_sketch.specs.Checks.{Check, Checks, first_failing, header_checks, checks_after, list_checks, set_checks, hll4_checks, hll6_checks, hll8_checks, first_fault, FirstFaultStands, FaultlessIsImage}
use Rattle.hll_sketch.proofs.Checks.{decide, Decides-leb, Decides-lg_k, Decides-list_count, Decides-set_table, Decides-coupons, Decides-entries, Decides-small, Decides-plain, Decides-counts, Decides-table, Decides-all_agree}
use Rattle.hll_sketch.proofs.Faults.{fault_excludes_image}
use Rattle.hll_sketch.proofs.FrontImages.{read_as-list, read_as-set, read_as-eight, read_as-six, read_as-four}
use Rattle.hll_sketch.proofs.ListImages.{list_image}

-- if there is a reason, it is a fault; if there is none, the bytes are read as a sketch
abbrev Outcome : List ℕ → Option Reason → Type 0
Outcome b None = (x : Sketch) × IsReadAs b x
Outcome b (Some r) = IsFault b r

-- one of two counts is wrong
wrong : {n m e : ℕ} → ((n ≤ m) × (e ≡ 0) → ⊥) → (m < n) ⊎ (e ≢ 0)
wrong {n} {m} {e} not_both = elim (cases_lt m n) [ inl many ↦ inl many | inr few ↦ inr (λ none. not_both (few, none)) ]

above : {n m k : ℕ} → ((n ≤ k) × (m ≤ k) → ⊥) → (k < n) ⊎ (k < m)
above {n} {m} {k} not_both = elim (cases_lt k n) [ inl many ↦ inl many | inr few ↦ elim (cases_lt k m) [ inl more ↦ inr more | inr fewer ↦ absurd (not_both (few, fewer)) ] ]

module _ (b : List ℕ) where
  abbrev R : Option Reason → Type 0
  R = Outcome b

  -- the checks after have this outcome
  abbrev Gives : Checks → Type 0
  Gives cs = R (first_failing (cs.size ++ cs.content))

  by_header : (cs : List Check) → (stage_bits b < 3 → HasHeader b (stage_bits b) → R (first_failing cs)) → R (first_failing (header_checks b ++ cs))
  by_header cs next =
      decide R _ _ _ (Decides-leb 8 (length b)) (λ n. fault.IsFault.header (fault.HeaderFault.short (omega (arith, n)))) (λ whole.
      decide R _ _ _ (Decides-eqb (byte b 2) 7) (λ n. fault.IsFault.header (fault.HeaderFault.family whole n)) (λ family.
      decide R _ _ _ (Decides-eqb (byte b 1) 1) (λ n. fault.IsFault.header (fault.HeaderFault.version whole n)) (λ version.
      decide R _ _ _ (Decides-lg_k b) (λ n. fault.IsFault.header (fault.HeaderFault.lg_k whole n)) (λ lg_k.
      decide R _ _ _ (Decides-ltb (width_bits b) 3) (λ n. fault.IsFault.header (fault.HeaderFault.width whole (omega (arith, n)))) (λ width.
      decide R _ _ _ (Decides-ltb (stage_bits b) 3) (λ n. fault.IsFault.header (fault.HeaderFault.stage whole (omega (arith, n)))) (λ stage.
      decide R _ _ _ (Decides-eqb (preamble_byte b) (preamble_words (stage_bits b))) (λ n. fault.IsFault.header (fault.HeaderFault.preamble whole stage n)) (λ preamble.
      next stage (record { whole = whole; family = family; version = version; lg_k = lg_k; width = width; stage_is = refl; preamble = preamble }))))))))

  by_list : HasHeader b 0 → Gives (list_checks b)
  by_list h =
      decide R _ _ _ (Decides-eqb (table_byte b) 3) (λ n. fault.IsFault.list_table h.whole h.stage_is n) (λ table.
      decide R _ _ _ (Decides-list_count b) (λ n. fault.IsFault.list_payload h.whole h.stage_is (coupons.ListFault.count n)) (λ count.
      decide R _ _ _ (Decides-leb (8 + 4 * list_buckets (list_shape b)) (length b))
      (λ n. fault.IsFault.list_payload h.whole h.stage_is (coupons.ListFault.short count (omega (arith, n, length-drop 8 b)))) (λ long.
      let there : 4 * list_buckets (list_shape b) ≤ length (drop 8 b) = omega (arith, long, length-drop 8 b) in
      decide R _ _ _ (Decides-coupons (list_coupons (list_shape b) (drop 8 b)))
      (λ n. fault.IsFault.list_payload h.whole h.stage_is (coupons.ListFault.coupon count there n)) (λ are.
      decide R _ _ _ (Decides-eqb (length (list_coupons (list_shape b) (drop 8 b))) (state_byte b))
      (λ n. fault.IsFault.list_payload h.whole h.stage_is (coupons.ListFault.number count there n)) (λ number.
      (_, read_as-list b (list_table (list_shape b) (drop 8 b)) (list_image b h table (is_list_payload (list_shape b) (drop 8 b) count there are number)) refl))))))

  by_set : HasHeader b 1 → Gives (set_checks b)
  by_set h =
      decide R _ _ _ (Decides-set_table b) (λ n. fault.IsFault.set_table h.whole h.stage_is h.lg_k n) (λ table.
      decide R _ _ _ (Decides-leb 12 (length b)) (λ n. fault.IsFault.set_short h.whole h.stage_is (omega (arith, n))) (λ twelve.
      let whole : 4 ≤ length (drop 8 b) = omega (arith, twelve, length-drop 8 b) in
      decide R _ _ _ (Decides-ltb (set_count (drop 8 b)) (2 ^ table_byte b))
      (λ n. fault.IsFault.set_payload h.whole h.stage_is h.lg_k table (coupons.SetFault.count whole (omega (arith, n)))) (λ low.
      let count : HasSetCount (set_shape b) (drop 8 b) = record { whole = whole; low = low } in
      decide R _ _ _ (Decides-leb (12 + 4 * set_buckets (set_shape b) (drop 8 b)) (length b))
      (λ n. fault.IsFault.set_payload h.whole h.stage_is h.lg_k table (coupons.SetFault.short count (omega (arith, n, length-drop 8 b)))) (λ long.
      let there : 4 + 4 * set_buckets (set_shape b) (drop 8 b) ≤ length (drop 8 b) = omega (arith, long, length-drop 8 b) in
      decide R _ _ _ (Decides-coupons (set_coupons (set_shape b) (drop 8 b)))
      (λ n. fault.IsFault.set_payload h.whole h.stage_is h.lg_k table (coupons.SetFault.coupon count there n)) (λ are.
      decide R _ _ _ (Decides-eqb (length (set_coupons (set_shape b) (drop 8 b))) (set_count (drop 8 b)))
      (λ n. fault.IsFault.set_payload h.whole h.stage_is h.lg_k table (coupons.SetFault.number count there n)) (λ number.
      let shape = shape_of_list (table_byte b) (set_count (drop 8 b)) false (is_flagged 8 b) in (
        _,
        read_as-set b (list_table shape (drop 4 (drop 8 b))) h table (is_set_payload (set_shape b) (drop 8 b) count there are number) refl
            (ap set_of (coupons_in-list_table shape (drop 4 (drop 8 b)) are)),
      )))))))

  by_eight : HasHeader b 2 → width_bits b ≡ 2 → Gives (hll8_checks b)
  by_eight h width =
      let k : ℕ = lg_k_byte b in
      decide R _ _ _ (Decides-leb 40 (length b)) (λ n. fault.IsFault.hll_short h.whole h.stage_is h.width (omega (arith, n))) (λ forty.
      let whole : 32 ≤ length (drop 8 b) = omega (arith, forty, length-drop 8 b) in
      decide R _ _ _ (Decides-plain b)
      (λ n. fault.IsFault.hll8_payload h.whole h.stage_is width h.lg_k (elim (wrong n) [ inl many ↦ arrays.Hll8Fault.zero_count whole many | inr some ↦ arrays.Hll8Fault.exceptions_counted whole some ])) (λ counts.
      decide R _ _ _ (Decides-leb (40 + 2 ^ k) (length b))
      (λ n. fault.IsFault.hll8_payload h.whole h.stage_is width h.lg_k (arrays.Hll8Fault.short (omega (arith, n, length-drop 8 b)))) (λ long.
      let there : 32 + 2 ^ k ≤ length (drop 8 b) = omega (arith, long, length-drop 8 b) in
      let same : take (2 ^ k) (drop 40 b) ≡ take (2 ^ k) (drop 32 (drop 8 b)) = ap (take (2 ^ k)) (sym (drop-drop 32 8 b)) in
      decide R _ _ _ (Decides-small (take (2 ^ k) (drop 40 b)))
      (λ n. fault.IsFault.hll8_payload h.whole h.stage_is width h.lg_k (arrays.Hll8Fault.register there (λ small. n (subst (All (λ v. v ≤ 63)) (sym same) small)))) (λ small.
      (_, read_as-eight b _ h width (is_hll8_payload k (drop 8 b) there counts.0 counts.1 (subst (All (λ v. v ≤ 63)) same small)) refl)))))

  by_six : HasHeader b 2 → width_bits b ≡ 1 → Gives (hll6_checks b)
  by_six h width =
      let k : ℕ = lg_k_byte b in
      decide R _ _ _ (Decides-leb 40 (length b)) (λ n. fault.IsFault.hll_short h.whole h.stage_is h.width (omega (arith, n))) (λ forty.
      let whole : 32 ≤ length (drop 8 b) = omega (arith, forty, length-drop 8 b) in
      decide R _ _ _ (Decides-plain b)
      (λ n. fault.IsFault.hll6_payload h.whole h.stage_is width h.lg_k (elim (wrong n) [ inl many ↦ arrays.Hll6Fault.zero_count whole many | inr some ↦ arrays.Hll6Fault.exceptions_counted whole some ])) (λ counts.
      decide R _ _ _ (Decides-leb (40 + field_size k) (length b))
      (λ n. fault.IsFault.hll6_payload h.whole h.stage_is width h.lg_k (arrays.Hll6Fault.short (omega (arith, n, length-drop 8 b)))) (λ long.
      let there : 32 + field_size k ≤ length (drop 8 b) = omega (arith, long, length-drop 8 b) in
      (_, read_as-six b _ h width (is_hll6_payload k (drop 8 b) there counts.0 counts.1) refl))))

  by_four : HasHeader b 2 → width_bits b ≡ 0 → Gives (hll4_checks b)
  by_four h width =
      let k : ℕ = lg_k_byte b in
      let n : ℕ = hll4_size (hll4_shape b) (drop 8 b) in
      let entries : List ℕ = entries_of (hll4_shape b) (drop 8 b) in
      decide R _ _ _ (Decides-leb 40 (length b)) (λ n. fault.IsFault.hll_short h.whole h.stage_is h.width (omega (arith, n))) (λ forty.
      let whole : 32 ≤ length (drop 8 b) = omega (arith, forty, length-drop 8 b) in
      decide R _ _ _ (Decides-counts b)
      (λ n. fault.IsFault.hll4_payload h.whole h.stage_is width h.lg_k (elim (above n) [ inl many ↦ arrays.Hll4Fault.low_count_above whole many | inr more ↦ arrays.Hll4Fault.exceptions_above whole more ])) (λ counts.
      decide R _ _ _ (Decides-table b)
      (λ n. fault.IsFault.hll4_payload h.whole h.stage_is width h.lg_k
      (arrays.Hll4Fault.table whole counts.1 (false_from_ne_true (is_flagged 8 b) (λ e. n (inl e))) (λ none. n (inr (inl none))) (let wide : 26 < table_byte b = elim (cases_lt 26 (table_byte b)) [ inl l ↦ l | inr few ↦ absurd (n (inr (inr few))) ] in wide))) (λ table.
      let has : HasEntries (hll4_shape b) (drop 8 b) = record {
        whole = whole;
        few = counts.1;
        table = λ loose some. elim table [ inl compact ↦ absurd (true≢false (sym compact ∙ loose)) | inr rest ↦ elim rest [ inl none ↦ absurd (some none) | inr few ↦ few ] ];
      } in
      decide R _ _ _ (Decides-leb (8 + n) (length b))
      (λ f. fault.IsFault.hll4_payload h.whole h.stage_is width h.lg_k (arrays.Hll4Fault.short has (let short : length (drop 8 b) < n = omega (arith, f, length-drop 8 b) in short))) (λ long.
      let there : n ≤ length (drop 8 b) = omega (arith, long, length-drop 8 b) in
      decide R _ _ _ (Decides-entries k entries)
      (λ f. fault.IsFault.hll4_payload h.whole h.stage_is width h.lg_k (arrays.Hll4Fault.coupon has there f)) (λ are.
      decide R _ _ _ (Decides-eqb (length entries) (exception_count (drop 8 b)))
      (λ f. fault.IsFault.hll4_payload h.whole h.stage_is width h.lg_k (arrays.Hll4Fault.number has there f)) (λ number.
      decide R _ _ _ (Decides-all_agree b)
      (λ f. fault.IsFault.hll4_payload h.whole h.stage_is width h.lg_k (arrays.Hll4Fault.register has there are number f)) (λ agree.
      (_, read_as-four b _ h width (is_hll4_payload (hll4_shape b) (drop 8 b) (record { low = counts.0; has_entries = has; there = there }) are number agree) refl))))))))

  by_kind : stage_bits b < 3 → HasHeader b (stage_bits b) → Gives (checks_after b)
  by_kind three h =
      let of : (s : ℕ) → stage_bits b ≡ s → HasHeader b s = λ s e. subst (HasHeader b) e h in
      cond_both (eqb (stage_bits b) 0) _ _ Gives (λ e. by_list (of 0 ((Decides-eqb (stage_bits b) 0).0 e))) (λ list.
      cond_both (eqb (stage_bits b) 1) _ _ Gives (λ e. by_set (of 1 ((Decides-eqb (stage_bits b) 1).0 e))) (λ set.
      let hll : HasHeader b 2 = of 2 (omega (arith, three, eqb-false (stage_bits b) 0 list, eqb-false (stage_bits b) 1 set)) in
      cond_both (eqb (width_bits b) 0) _ _ Gives (λ e. by_four hll ((Decides-eqb (width_bits b) 0).0 e)) (λ four.
      cond_both (eqb (width_bits b) 1) _ _ Gives (λ e. by_six hll ((Decides-eqb (width_bits b) 1).0 e)) (λ six.
      by_eight hll (omega (arith, hll.width, eqb-false (width_bits b) 0 four, eqb-false (width_bits b) 1 six))))))

  outcome : Outcome b (first_fault b)
  outcome = by_header ((checks_after b).size ++ (checks_after b).content) by_kind

pub first_fault_stands : FirstFaultStands
first_fault_stands b r e = subst (Outcome b) e (outcome b)

-- if there is an image, there is no first fault
excluded : (b : List ℕ) (o : Option Reason) → Outcome b o → (x : Sketch) → IsReadAs b x → o ≡ None
excluded b None out x read = refl
excluded b (Some r) out x read = absurd (fault_excludes_image b r out read.size x read.image)

pub faultless_is_image : FaultlessIsImage
faultless_is_image b = (λ e. subst (Outcome b) e (outcome b), λ found. excluded b (first_fault b) (outcome b) found.0 found.1)
