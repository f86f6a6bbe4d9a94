-- SPDX-License-Identifier: Apache-2.0
use Rattle.std.proofs.Common.{◌≡◌, ℕ, ◌+◌, ◌%◌, ◌^◌, ◌≤◌, true, List, [], ◌∷◌, ◌++◌, All, Some, None, refl, sym, subst, arith}
use Rattle.std.proofs.lemmas.List.Elements.{All-append}
use Rattle.hll_coupons.specs.AuxMap.{entry_at}
use Rattle.hll_coupons.specs.Coupons.{raw_coupons}
use Rattle.hll_coupons.specs.Pair.{slot_of, value_of}
use Rattle.hll_kernels.specs.Packed.{nibble_at}
use Rattle.hll_registers.specs.Payload.{Agrees, AreEntries}
use Rattle.hll_registers.proofs.FourBits.{All-one}
use Rattle.hll_arrays.proofs.EntryReading.{coupons-more, rest-more, entries-none, AreEntries-push}
use Rattle.hll_arrays.proofs.few_exceptions.are_exceptions.Goals as goal

pub loop-index-init : goal.loop-index-init
loop-index-init c = record { rest = c.new-cursor.ensures; are = entries-none c.args.lg_k true c.args.entries.now; marked = λ i d l. absurd (omega (arith, l)) }

pub loop-index-preserved : goal.loop-index-preserved
loop-index-preserved c =
    let inv = c.loop-index.invariant in
    let word = c.in-Ok.ensures.ok in
    let w : ℕ = c.in-Ok.raw_coupon in
    let k : ℕ = c.args.lg_k in
    let E : List ℕ = c.args.entries.now in
    let order : List ℕ = raw_coupons c.loop-index.index E in
    let IsMarked : ℕ → Type 0 = λ e. Agrees c.args.minimum (nibble_at c.args.nibbles.now (slot_of e % 2 ^ k)) (Some (value_of e)) in
    let more : raw_coupons (c.loop-index.index + 1) E ≡ order ++ w ∷ [] = coupons-more true c.loop-index.index w E c.loop-index.cursor inv.rest word.1 (λ _. refl) in
    let none : entry_at k order (slot_of w % 2 ^ k) ≡ None = subst (λ (e : ℕ). entry_at k order (slot_of e % 2 ^ k) ≡ None) c.from_raw-entry.ensures (c.is_new.ensures c.if-not-is_new.false) in
    let mark : IsMarked w = subst IsMarked c.from_raw-entry.ensures (c.is_marked.ensures c.if-not-is_marked.false) in
    let valued : 1 ≤ value_of w = omega (arith, mark.1) in
    record {
      rest = rest-more true c.loop-index.index w E c.loop-index.cursor inv.rest word.1 c.read_u32_le.new.self word.2;
      are = subst (AreEntries k) (sym more) (AreEntries-push k order w none inv.are valued);
      marked = subst (All IsMarked) (sym more) (All-append IsMarked order (w ∷ []) inv.marked (All-one IsMarked w mark));
    }
