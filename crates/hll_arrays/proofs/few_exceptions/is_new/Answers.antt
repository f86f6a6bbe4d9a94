-- SPDX-License-Identifier: Apache-2.0
use Rattle.std.proofs.Common.{◌≡◌, ◌≢◌, ℕ, ◌+◌, ◌%◌, ◌^◌, true, List, [], ◌∷◌, ◌++◌, refl, sym, ap, subst, None, ◌∙◌}
use Rattle.hll_coupons.specs.AuxMap.{entry_at}
use Rattle.hll_coupons.specs.Coupons.{raw_coupons}
use Rattle.hll_coupons.specs.Pair.{slot_of}
use Rattle.hll_arrays.proofs.EntryReading.{coupons-more, rest-more}
use Rattle.hll_arrays.proofs.FewExceptions.{entry_at-other}
use Rattle.hll_arrays.proofs.few_exceptions.is_new.Goals as goal

pub loop-preserved : goal.loop-preserved
loop-preserved c =
    let inv = c.loop.invariant in
    let word = c.in-Ok.ensures.ok in
    let w : ℕ = c.in-Ok.raw_coupon in
    let k : ℕ = c.args.lg_k in
    let E : List ℕ = c.args.entries.now in
    let s : ℕ = slot_of c.args.entry % 2 ^ k in
    let more : raw_coupons (c.loop.counter + 1) E ≡ raw_coupons c.loop.counter E ++ w ∷ [] = coupons-more true c.loop.counter w E c.loop.cursor inv.rest word.1 (λ _. refl) in
    let own : c.slot.result % c.two_to.result ≡ s = λ i. c.slot.ensures.slot i % c.two_to.ensures i in
    let here : c.slot-in-loop.result % c.two_to-in-loop.result ≡ slot_of w % 2 ^ k = λ i. (c.slot-in-loop.ensures.slot ∙ ap slot_of c.from_raw.ensures) i % c.two_to-in-loop.ensures i in
    let other : slot_of w % 2 ^ k ≢ s = λ same. c.if-slot-two_to.false (here ∙ same ∙ sym own) in
    record {
      rest = rest-more true c.loop.counter w E c.loop.cursor inv.rest word.1 c.read_u32_le.new.self word.2;
      none = subst (λ order. entry_at k order s ≡ None) (sym more) (entry_at-other k (raw_coupons c.loop.counter E) w s inv.none other);
    }
