-- SPDX-License-Identifier: Apache-2.0
use Rattle.std.proofs.Common.{List, ℕ, drop, cond, sym, ap, subst, ◌∙◌, inl, inr}
use Rattle.std.proofs.lemmas.List.{take_rest}
use Rattle.hll_base.proofs.Errors.{IfErr-passed}
use Rattle.hll_base.specs.declared.hll_type.HllType.TheVariants.{Hll4}
use Rattle.hll_registers.specs.Payload.{shape_of_hll4, FirstHll4Fault}
use Rattle.hll_registers.specs.declared.aux_format.AuxFormat.{AuxFormat}
use Rattle.hll_registers.specs.Store.{Stored}
use Rattle.hll_sketch.specs.Image.{lg_k_byte, is_flagged, hll4_shape, IsReadAs}
use Rattle.hll_sketch.specs.Refusal.{IsRefusal}
use Rattle.hll_sketch.specs.Value.{registers}
use Rattle.hll_sketch.specs.declared.header.Header.{Header}
use Rattle.hll_sketch.proofs.FirstFailing.{four_first}
use Rattle.hll_sketch.proofs.FourBitImages.{Given, shape_is, given_as, asked_as}
use Rattle.hll_sketch.proofs.FrontImages.{first_as, read_as-four}
use Rattle.hll_sketch.proofs.read_image.read_four.Goals as goal

pub returns-in_err-array-clause-err : goal.returns-in_err-array-clause-err
returns-in_err-array-clause-err g c =
    let b : List ℕ = c.args.bytes.now in
    let e = c.in_err-array.field-0.0 in
    let h : Header = c.args.header in
    IfErr-passed (IsRefusal b) c.from_residual.result e c.from_residual.ensures.1 (record {
      first = elim c.in_err-array.ensures.order [
        | inl full ↦ inl full
        | inr f ↦ inr (four_first b e c.requires.has c.requires.width
            (subst (λ s. FirstHll4Fault s (drop 8 b) e) (shape_is b h c.requires.header)
            (first_as h.lg_k h.state_byte h.lg_arr h.compact (drop 8 b) e
            (subst (λ xs. FirstHll4Fault (shape_of_hll4 h.lg_k h.state_byte (cond h.compact AuxFormat.Compact (AuxFormat.Updatable h.lg_arr))) xs e) (c.new.ensures ∙ take_rest b 8)
            (subst (λ t. FirstHll4Fault (shape_of_hll4 h.lg_k h.state_byte t) c.new.result e) c.from_header.ensures f)))))
      ];
      asked = λ full. asked_as b h _ _ c.requires.header c.requires.has c.requires.width (c.new.ensures ∙ take_rest b 8) c.from_header.ensures (c.in_err-array.ensures.asked full);
    })

pub returns-clause-ok : goal.returns-clause-ok
returns-clause-ok g c =
    let b : List ℕ = c.args.bytes.now in
    let h : Header = c.args.header in
    let a : Stored = c.in_ok-array.array.stored in
    let here = given_as h.lg_k h.state_byte h.lg_arr h.compact h.out_of_order c.new.result _ a c.from_header.ensures c.in_ok-array.ensures.ok in
    let there = subst (λ xs. Given (record { lg_k = h.lg_k; minimum = h.state_byte; compact = h.compact; lg_table = h.lg_arr }) h.lg_k h.out_of_order xs a) (c.new.ensures ∙ take_rest b 8) here in
    let same : Given (hll4_shape b) (lg_k_byte b) (is_flagged 16 b) (drop 8 b) a =
    subst (λ (x : Header). Given (record { lg_k = x.lg_k; minimum = x.state_byte; compact = x.compact; lg_table = x.lg_arr }) x.lg_k x.out_of_order (drop 8 b) a) c.requires.header there in
    let read : IsReadAs b (record { lg_k = h.lg_k; width = Hll4; content = registers a.registers a.state }) =
    subst (λ k. IsReadAs b (record { lg_k = k; width = Hll4; content = registers a.registers a.state })) (ap (λ (h : Header). h.lg_k) (sym c.requires.header))
    (read_as-four b a c.requires.has c.requires.width same.0 same.1) in
    read
