-- SPDX-License-Identifier: Apache-2.0
use Rattle.std.proofs.Common.{◌≡◌, ℕ, List, Option, Some, None, Bool, true, false, map, take, drop, cond, not, refl, sym, ap, subst, ◌∙◌}
use Rattle.std.specs.Prelude.{IfSome}
use Rattle.std.specs.Int.{w32, from_le_bytes}
use Rattle.std.proofs.lemmas.Bool.{true≢false}
use Rattle.std.proofs.lemmas.List.{take_rest}
use Rattle.hll_registers.specs.Payload.{Hll4Shape, hll4_size, registers_of, shape_of_hll4, state_at, IsHll4Payload}
use Rattle.hll_registers.specs.Store.{Stored}
use Rattle.hll_registers.specs.declared.aux_format.AuxFormat.TheVariants.{Compact, Updatable}
use Rattle.hll_registers.specs.declared.estimate_state.EstimateState.{EstimateState}
use Rattle.hll_arrays.specs.FewExceptions.{registers_with, HasExceptions}
use Rattle.hll_arrays.specs.declared.few_exceptions.FewExceptions.{FewExceptions}
use Rattle.hll_sketch.specs.Header.{header_of}
use Rattle.hll_sketch.specs.Image.{lg_k_byte, is_flagged, hll4_shape, width_bits, width_of_bits, HasHeader}
use Rattle.hll_sketch.specs.MergedIn.{IsOfNibbles}
use Rattle.hll_sketch.specs.Value.{IsLgK}
use Rattle.hll_sketch.specs.declared.header.Header.{Header}
use Rattle.hll_sketch.proofs.FourBitImages.{Given, given_as}
use Rattle.hll_sketch.proofs.FrontImages.{read_as-four}
use Rattle.hll_sketch.proofs.few_exceptions.few_exceptions_after.Goals as goal

is_set : (b : Bool) → not b ≡ false → b ≡ true
is_set true e = refl
is_set false e = absurd (true≢false e)

module _ (b payload : List ℕ) (h : Header) (has : HasHeader b 2) (width : width_bits b ≡ 0) (header : h ≡ header_of b) (compact : h.compact ≡ true) (rest : payload ≡ drop 8 b) where
  abbrev shape : Hll4Shape
  shape = shape_of_hll4 h.lg_k h.state_byte Compact

  abbrev front : List ℕ
  front = take (hll4_size shape payload) payload

  of_nibbles : (k m : ℕ) (N L : List ℕ) → IsHll4Payload shape front → registers_with k m N L ≡ registers_of shape front → k ≡ h.lg_k → HasExceptions k m N L → IsOfNibbles b k m N L
  of_nibbles k m N L is registers same parts =
      let state : EstimateState = state_at h.out_of_order payload in
      let x : Stored = record { lg_k = k; registers = registers_with k m N L; state = state } in
      let format : Compact ≡ cond h.compact Compact (Updatable h.lg_arr) = sym (ap (λ t. cond t Compact (Updatable h.lg_arr)) compact) in
      let given : Given shape h.lg_k h.out_of_order payload x = (is, λ i. record { lg_k = same i; registers = registers i; state = state }) in
      let here = given_as h.lg_k h.state_byte h.lg_arr h.compact h.out_of_order payload Compact x format given in
      let there = subst (λ xs. Given (record { lg_k = h.lg_k; minimum = h.state_byte; compact = h.compact; lg_table = h.lg_arr }) h.lg_k h.out_of_order xs x) rest here in
      let from : Given (hll4_shape b) (lg_k_byte b) (is_flagged 16 b) (drop 8 b) x =
      subst (λ (g : Header). Given (record { lg_k = g.lg_k; minimum = g.state_byte; compact = g.compact; lg_table = g.lg_arr }) g.lg_k g.out_of_order (drop 8 b) x) header there in
      record {
        lg_k = subst IsLgK (sym (same ∙ ap (λ (g : Header). g.lg_k) header)) has.lg_k;
        parts = parts;
        state = state;
        read = record {
          stage = has.stage_is;
          sketch = _;
          read = read_as-four b x has width from.0 from.1;
          lg_k = ap (λ (y : Stored). y.lg_k) (sym from.1);
          width_is = ap width_of_bits (sym width);
          content = refl;
        };
      }

  -- what the reader of the payload returns
  of_few : (o : Option FewExceptions) → IfSome o (λ r. IsHll4Payload shape front) → IfSome o (λ r. registers_with r.lg_k r.minimum r.nibbles.now (map (from_le_bytes w32) r.entries.now) ≡ registers_of shape front)
      → IfSome o (λ r. (r.lg_k ≡ h.lg_k) × HasExceptions r.lg_k r.minimum r.nibbles.now (map (from_le_bytes w32) r.entries.now)) → IfSome o (λ r. IsOfNibbles b r.lg_k r.minimum r.nibbles.now (map (from_le_bytes w32) r.entries.now))
  of_few None is registers parts = tt
  of_few (Some r) is registers parts = of_nibbles r.lg_k r.minimum r.nibbles.now (map (from_le_bytes w32) r.entries.now) is registers parts.0 parts.1

pub returns : goal.returns
returns c =
    of_few c.args.image.now c.new.result c.args.header c.requires.has c.requires.width c.requires.header (is_set c.args.header.compact c.if-not-header.false) (c.new.ensures ∙ take_rest c.args.image.now 8)
    c.read_few_exceptions.result c.read_few_exceptions.ensures.payload c.read_few_exceptions.ensures.registers c.read_few_exceptions.ensures.parts
