-- SPDX-License-Identifier: Apache-2.0
use Rattle.std.proofs.Common.{arith, ◌≡◌, ◌≢◌, ◌+◌, ◌%◌, ◌^◌, ◌≤◌, ◌⊎◌, ℕ, true, cond, eqb, Some, None, List, [], ◌∷◌, ◌++◌, length, inl, inr, refl, sym, ap, subst, ◌∙◌}
use Rattle.std.proofs.lemmas.Bool.{true≢false}
use Rattle.std.proofs.lemmas.List.{length-append}
use Rattle.hll_base.proofs.Errors.{IfErr-passed}
use Rattle.hll_base.specs.declared.error.Reason.{Reason}
use Rattle.hll_base.specs.declared.error.Reason.TheVariants.{Memory, Coupon, Count}
use Rattle.hll_coupons.specs.AuxMap.{entry_at}
use Rattle.hll_coupons.specs.Coupons.{coupons_at}
use Rattle.hll_coupons.specs.Pair.{slot_of, value_of}
use Rattle.hll_registers.specs.Payload.{AreEntries}
use Rattle.hll_arrays.proofs.EntryReading.{coupons-more, coupons-same, coupons-all, rest-more, entries-none, length-none, entry_at-none, entry_at-push, AreEntries-push, no_entry}
use Rattle.hll_arrays.proofs.four_bit_payload.read_entries.Goals as goal
use Rattle.hll_arrays.proofs.four_bit_payload.read_entries.Goals.{else-is_empty-via-then-is_empty+else-not-frame, else-is_empty-via-else-is_empty}

pub loop-init : goal.loop-init
loop-init g c =
    let k : ℕ = c.args.lg_config_k in record {
      rest = c.new-cursor.ensures;
      map_for = tt;
      values = λ s. sym (entry_at-none k c.args.frame.now.compact c.args.frame.now.entries.now s);
      are = entries-none k c.args.frame.now.compact c.args.frame.now.entries.now;
      number = sym (length-none c.args.frame.now.compact c.args.frame.now.entries.now);
      few = omega arith;
      none = λ _. refl;
    }

pub loop-preserved-then-not-frame : goal.loop-preserved-then-not-frame
loop-preserved-then-not-frame g c =
    let inv = c.loop.invariant in
    let word = c.in_ok-read_u32_le.ensures.ok in
    let w : ℕ = c.in_ok-read_u32_le.field-0 in
    let empty : w ≡ 0 = sym c.from_raw-entry.ensures ∙ c.is_empty.ensures.0 c.if-is_empty.true in
    let same : coupons_at c.args.frame.now.compact (c.loop.counter + 1) c.args.frame.now.entries.now ≡ coupons_at c.args.frame.now.compact c.loop.counter c.args.frame.now.entries.now =
    coupons-same c.args.frame.now.compact c.loop.counter w c.args.frame.now.entries.now c.loop.cursor inv.rest word.1 c.if-not-frame.true empty in
    record {
      rest = rest-more c.args.frame.now.compact c.loop.counter w c.args.frame.now.entries.now c.loop.cursor inv.rest word.1 c.read_u32_le.new.self word.2;
      map_for = inv.map_for;
      values = λ s. inv.values s ∙ ap (λ xs. entry_at c.args.lg_config_k xs s) (sym same);
      are = subst (AreEntries c.args.lg_config_k) (sym same) inv.are;
      number = inv.number ∙ ap length (sym same);
      few = omega (arith, inv.few);
      none = λ start. let no : ⊥ = omega (arith, start) in absurd no;
    }

pub returns-in_err-put_entry-clause-err : goal.returns-in_err-put_entry-clause-err
returns-in_err-put_entry-clause-err g c =
    let inv = c.loop.invariant in
    let word = c.in_ok-read_u32_le.ensures.ok in
    let w : ℕ = c.in_ok-read_u32_le.field-0 in
    let k : ℕ = c.args.lg_config_k in
    let all : List ℕ = coupons_at c.args.frame.now.compact c.args.frame.now.buckets c.args.frame.now.entries.now in
    let filled : w ≡ 0 → c.args.frame.now.compact ≡ true = λ z. elim c.else-is_empty.branch [
      | else-is_empty-via-then-is_empty+else-not-frame v ↦ v.if-not-frame.false
      | else-is_empty-via-else-is_empty v ↦ absurd (true≢false (sym (c.is_empty.ensures.1 (c.from_raw-entry.ensures ∙ z)) ∙ v.if-is_empty.false))
    ] in
    let parts = coupons-all c.args.frame.now.compact c.loop.counter w c.args.frame.now.entries.now c.loop.cursor inv.rest word.1 c.args.frame.now.buckets c.loop-test.true filled in
    let P : Reason → Type 0 = λ e. (e ≡ Memory) ⊎ (((e ≡ Coupon) × (AreEntries k all → ⊥)) ⊎ ((e ≡ Count) × AreEntries k all × (length all ≢ c.args.frame.now.preamble.exception_count))) in
    IfErr-passed P c.from_residual-in_err-put_entry.result c.in_err-put_entry.field-0.0 c.from_residual-in_err-put_entry.ensures.1
    (elim c.in_err-put_entry.ensures.err [
      | inl memory ↦ inl memory
      | inr fault ↦
          let bad : (value_of w ≡ 0) ⊎ (entry_at k (coupons_at c.args.frame.now.compact c.loop.counter c.args.frame.now.entries.now) (slot_of w % 2 ^ k) ≢ None) =
          subst (λ (e : ℕ). (value_of e ≡ 0) ⊎ (entry_at k (coupons_at c.args.frame.now.compact c.loop.counter c.args.frame.now.entries.now) (slot_of e % 2 ^ k) ≢ None)) c.from_raw-entry.ensures
          (elim fault.1 [ inl z ↦ inl z | inr some ↦ inr (λ none. some (inv.values (slot_of c.from_raw-entry.result % 2 ^ k) ∙ none)) ]) in
          inr (inl (fault.0, no_entry k (coupons_at c.args.frame.now.compact c.loop.counter c.args.frame.now.entries.now) parts.0 all w parts.1 bad))
    ])

pub loop-preserved : goal.loop-preserved
loop-preserved g c =
    let inv = c.loop.invariant in
    let word = c.in_ok-read_u32_le.ensures.ok in
    let w : ℕ = c.in_ok-read_u32_le.field-0 in
    let k : ℕ = c.args.lg_config_k in
    let order : List ℕ = coupons_at c.args.frame.now.compact c.loop.counter c.args.frame.now.entries.now in
    let filled : w ≡ 0 → c.args.frame.now.compact ≡ true = λ z. elim c.else-is_empty.branch [
      | else-is_empty-via-then-is_empty+else-not-frame v ↦ v.if-not-frame.false
      | else-is_empty-via-else-is_empty v ↦ absurd (true≢false (sym (c.is_empty.ensures.1 (c.from_raw-entry.ensures ∙ z)) ∙ v.if-is_empty.false))
    ] in
    let more : coupons_at c.args.frame.now.compact (c.loop.counter + 1) c.args.frame.now.entries.now ≡ order ++ w ∷ [] =
    coupons-more c.args.frame.now.compact c.loop.counter w c.args.frame.now.entries.now c.loop.cursor inv.rest word.1 filled in
    let put = c.in_ok-put_entry.ensures in
    let same : c.from_raw-entry.result ≡ w = c.from_raw-entry.ensures in
    let none : entry_at k order (slot_of w % 2 ^ k) ≡ None = subst (λ (e : ℕ). entry_at k order (slot_of e % 2 ^ k) ≡ None) same (sym (inv.values (slot_of c.from_raw-entry.result % 2 ^ k)) ∙ put.new) in
    let valued : 1 ≤ value_of w = subst (λ (e : ℕ). 1 ≤ value_of e) same put.valued in
    record {
      rest = rest-more c.args.frame.now.compact c.loop.counter w c.args.frame.now.entries.now c.loop.cursor inv.rest word.1 c.read_u32_le.new.self word.2;
      map_for = put.map;
      values = λ s. put.values s ∙ (λ i. cond (eqb s (slot_of (same i) % 2 ^ k)) (Some (value_of (same i))) (inv.values s i)) ∙ sym (entry_at-push k order w none s) ∙ ap (λ xs. entry_at k xs s) (sym more);
      are = subst (AreEntries k) (sym more) (AreEntries-push k order w none inv.are valued);
      number = omega (arith, inv.number, ap length more, length-append order (w ∷ []));
      few = omega (arith, inv.few);
      none = λ start. let no : ⊥ = omega (arith, start) in absurd no;
    }
