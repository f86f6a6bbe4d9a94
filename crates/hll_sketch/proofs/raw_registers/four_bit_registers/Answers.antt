-- SPDX-License-Identifier: Apache-2.0
use Rattle.std.proofs.Common.{◌≡◌, ◌≢◌, List, ℕ, drop, cond, refl, sym, ap, subst, ◌∙◌, inl, inr}
use Rattle.std.proofs.lemmas.List.{take_rest}
use Rattle.std.proofs.lemmas.Result.{IfOk-weaker, IfErr-weaker}
use Rattle.hll_registers.specs.Payload.{exception_count, shape_of_hll4, FirstHll4Fault}
use Rattle.hll_base.specs.declared.error.Reason.TheVariants.{Memory}
use Rattle.hll_registers.specs.declared.aux_format.AuxFormat.{AuxFormat}
use Rattle.hll_registers.specs.Store.{Stored}
use Rattle.hll_sketch.specs.Image.{lg_k_byte, is_flagged, hll4_shape, width_of_bits}
use Rattle.hll_sketch.specs.Refusal.{IsRefusal}
use Rattle.hll_sketch.specs.MergedIn.{IsOfRegisters, HasPlainRegisters}
use Rattle.hll_sketch.specs.declared.header.Header.{Header}
use Rattle.hll_sketch.proofs.FirstFailing.{four_first}
use Rattle.hll_sketch.proofs.FourBitImages.{Given, shape_is, given_as, asked_as}
use Rattle.hll_sketch.proofs.FrontImages.{first_as, read_as-four}
use Rattle.hll_sketch.proofs.SizedImages.{both_err}
use Rattle.hll_sketch.proofs.raw_registers.four_bit_registers.Goals as goal

pub returns-clause-err : goal.returns-clause-err
returns-clause-err g c =
    let b : List ℕ = c.args.bytes.now in
    let h : Header = c.args.header in
    IfErr-weaker c.read_nibbles.result _ (IsRefusal b)
    (λ e is. record {
      first = elim is.0 [
        | inl full ↦ inl full
        | inr f ↦ inr (four_first b e c.requires.has c.requires.width
            (subst (λ s. FirstHll4Fault s (drop 8 b) e) (shape_is b h c.requires.header)
            (first_as h.lg_k h.state_byte h.lg_arr h.compact (drop 8 b) e
            (subst (λ xs. FirstHll4Fault (shape_of_hll4 h.lg_k h.state_byte (cond h.compact AuxFormat.Compact (AuxFormat.Updatable h.lg_arr))) xs e) (c.new.ensures ∙ take_rest b 8)
            (subst (λ t. FirstHll4Fault (shape_of_hll4 h.lg_k h.state_byte t) c.new.result e) c.from_header.ensures f)))))
      ];
      asked = λ full. asked_as b h _ _ c.requires.header c.requires.has c.requires.width (c.new.ensures ∙ take_rest b 8) c.from_header.ensures (is.1 full);
    })
    (both_err c.read_nibbles.result _ _ c.read_nibbles.ensures.order c.read_nibbles.ensures.asked)

pub returns-clause-needed : goal.returns-clause-needed
returns-clause-needed g c =
    let b : List ℕ = c.args.bytes.now in
    IfErr-weaker c.read_nibbles.result _ (λ e. e ≡ Memory → HasPlainRegisters b → ⊥)
    (λ e needed full plain. subst (λ xs. exception_count xs ≢ 0) (c.new.ensures ∙ take_rest b 8) (needed full) (plain.1 c.requires.width)) c.read_nibbles.ensures.needed

pub returns-clause-ok : goal.returns-clause-ok
returns-clause-ok g c =
    let b : List ℕ = c.args.bytes.now in
    let h : Header = c.args.header in
    IfOk-weaker c.read_nibbles.result _ (IsOfRegisters b)
    (λ a read.
    let here = given_as h.lg_k h.state_byte h.lg_arr h.compact h.out_of_order c.new.result _ a c.from_header.ensures read in
    let there = subst (λ xs. Given (record { lg_k = h.lg_k; minimum = h.state_byte; compact = h.compact; lg_table = h.lg_arr }) h.lg_k h.out_of_order xs a) (c.new.ensures ∙ take_rest b 8) here in
    let same : Given (hll4_shape b) (lg_k_byte b) (is_flagged 16 b) (drop 8 b) a =
    subst (λ (x : Header). Given (record { lg_k = x.lg_k; minimum = x.state_byte; compact = x.compact; lg_table = x.lg_arr }) x.lg_k x.out_of_order (drop 8 b) a) c.requires.header there in
    record {
      stage = c.requires.has.stage_is;
      sketch = _;
      read = read_as-four b a c.requires.has c.requires.width same.0 same.1;
      lg_k = ap (λ (y : Stored). y.lg_k) (sym same.1);
      width_is = ap width_of_bits (sym c.requires.width);
      content = refl;
    })
    c.read_nibbles.ensures.ok
