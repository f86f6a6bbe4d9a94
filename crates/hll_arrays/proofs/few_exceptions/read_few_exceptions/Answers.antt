-- SPDX-License-Identifier: Apache-2.0
use Rattle.std.proofs.Common.{arith, ◌≡◌, ℕ, ◌+◌, ◌-◌, ◌*◌, ◌^◌, List, length, map, drop, refl, sym, ap, subst, ◌∙◌}
use Rattle.std.specs.Int.{w32, from_le_bytes}
use Rattle.std.proofs.lemmas.List.{length-drop}
use Rattle.hll_coupons.specs.AuxMap.{entry_at}
use Rattle.hll_coupons.specs.Coupons.{raw_coupons}
use Rattle.hll_coupons.proofs.Merging.{length-raw_coupons}
use Rattle.hll_kernels.specs.Packed.{nibble_at}
use Rattle.hll_registers.specs.Payload.{Hll4Shape, Agrees, AllAgree, AreEntries, entries_of, exception_count, shape_of_hll4}
use Rattle.hll_registers.specs.declared.aux_format.AuxFormat.TheVariants.{Compact}
use Rattle.hll_arrays.specs.FewExceptions.{registers_with, HasExceptions}
use Rattle.hll_arrays.proofs.FourBitWholes.{is_hll4_payload, nibbles-size, registers-front}
use Rattle.hll_arrays.proofs.few_exceptions.read_few_exceptions.Goals as goal

pub agree-requires-clause-size : goal.agree-requires-clause-size
agree-requires-clause-size c =
    let h : Hll4Shape = shape_of_hll4 c.args.lg_config_k c.args.cur_min Compact in
    let frame = c.in-Ok.ensures.ok c.args.cur_min in
    ap (λ bs. 2 * length bs) frame.3 ∙ nibbles-size h c.args.cursor frame.0 (omega (arith, c.requires.least))

pub agree-requires-clause-some : goal.agree-requires-clause-some
agree-requires-clause-some c = omega (arith, c.if-count-eq0.false)

pub agree-requires-clause-there : goal.agree-requires-clause-there
agree-requires-clause-there c =
    let frame = c.in-Ok.ensures.ok c.args.cur_min in
    omega (arith, frame.0.there, frame.2, ap length frame.4, length-drop (32 + 2 ^ (c.args.lg_config_k - 1)) c.args.cursor)

pub elements_of_raw_coupons-requires : goal.elements_of_raw_coupons-requires
elements_of_raw_coupons-requires c =
    let frame = c.in-Ok.ensures.ok c.args.cur_min in
    omega (arith, frame.0.there, frame.2, ap length frame.4, length-drop (32 + 2 ^ (c.args.lg_config_k - 1)) c.args.cursor)

pub returns-clause-payload : goal.returns-clause-payload
returns-clause-payload c =
    let h : Hll4Shape = shape_of_hll4 c.args.lg_config_k c.args.cur_min Compact in
    let b : List ℕ = c.args.cursor in
    let frame = c.in-Ok.ensures.ok c.args.cur_min in
    let same : raw_coupons c.in-Ok.frame.buckets c.in-Ok.frame.entries.now ≡ entries_of h b = λ i. raw_coupons (frame.2 i) (frame.4 i) in
    let parts : HasExceptions h.lg_k h.minimum c.in-Ok.frame.nibbles.now (raw_coupons c.in-Ok.frame.buckets c.in-Ok.frame.entries.now) = c.agree.ensures c.if-not-agree.false in
    let agree : AllAgree h b = λ s l. subst (λ ns. Agrees h.minimum (nibble_at ns s) (entry_at h.lg_k (entries_of h b) s)) frame.3
    (subst (λ es. Agrees h.minimum (nibble_at c.in-Ok.frame.nibbles.now s) (entry_at h.lg_k es s)) same (parts.agree s l)) in
    is_hll4_payload h b frame.0 (subst (AreEntries h.lg_k) same parts.are_entries) (length-raw_coupons (exception_count b) (drop (32 + 2 ^ (h.lg_k - 1)) b)) agree

pub returns-clause-registers : goal.returns-clause-registers
returns-clause-registers c =
    let h : Hll4Shape = shape_of_hll4 c.args.lg_config_k c.args.cur_min Compact in
    let b : List ℕ = c.args.cursor in
    let frame = c.in-Ok.ensures.ok c.args.cur_min in
    let order : map (from_le_bytes w32) c.elements_of_raw_coupons.result.now ≡ entries_of h b = c.elements_of_raw_coupons.ensures ∙ (λ i. raw_coupons (frame.2 i) (frame.4 i)) in
    (λ i. registers_with h.lg_k h.minimum (frame.3 i) (order i)) ∙ sym (registers-front h b frame.0)

pub returns-clause-parts : goal.returns-clause-parts
returns-clause-parts c =
    (refl, subst (HasExceptions c.args.lg_config_k c.args.cur_min c.in-Ok.frame.nibbles.now) (sym c.elements_of_raw_coupons.ensures) (c.agree.ensures c.if-not-agree.false))
