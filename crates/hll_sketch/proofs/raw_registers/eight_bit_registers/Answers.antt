-- SPDX-License-Identifier: Apache-2.0
use Rattle.std.proofs.Common.{◌≡◌, ◌≢◌, Bool, ℕ, ◌+◌, ◌^◌, List, Some, take, drop, refl, sym, ap, subst, ◌∙◌}
use Rattle.std.proofs.lemmas.List.{take_rest}
use Rattle.std.proofs.lemmas.Result.{IfOk-weaker, IfErr-weaker}
use Rattle.hll_base.specs.declared.error.Reason.TheVariants.{Memory}
use Rattle.hll_registers.specs.Payload.{state_at, IsHll8Payload, FirstHll8Fault}
use Rattle.hll_registers.specs.Store.{Stored}
use Rattle.hll_sketch.specs.Checks.{first_fault}
use Rattle.hll_sketch.specs.Image.{lg_k_byte, is_flagged, width_of_bits}
use Rattle.hll_sketch.specs.MergedIn.{IsOfRegisters}
use Rattle.hll_sketch.specs.declared.header.Header.{Header}
use Rattle.hll_sketch.proofs.FaultKinds.{eight_not_memory}
use Rattle.hll_sketch.proofs.FirstFailing.{eight_first}
use Rattle.hll_sketch.proofs.FrontImages.{read_as-eight}
use Rattle.hll_sketch.proofs.raw_registers.eight_bit_registers.Goals as goal

-- the payload, and the registers in it
abbrev Given : ℕ → Bool → List ℕ → Stored → Type 0
Given k flagged payload x = IsHll8Payload k (take (32 + 2 ^ k) payload) × (x ≡ record { lg_k = k; registers = take (2 ^ k) (drop 32 payload); state = state_at flagged payload })

pub returns-clause-err : goal.returns-clause-err
returns-clause-err c =
    let b : List ℕ = c.args.bytes.now in
    let h : Header = c.args.header in
    let k = ap (λ (h : Header). h.lg_k) c.requires.header in
    let entry = c.new-payload.ensures ∙ take_rest b 8 in
    IfErr-weaker c.read_registers.result _ (λ e. (e ≢ Memory) × (first_fault b ≡ Some e))
    (λ e order.
    let first : FirstHll8Fault (lg_k_byte b) (drop 8 b) e = subst (λ n. FirstHll8Fault n (drop 8 b) e) k (subst (λ xs. FirstHll8Fault h.lg_k xs e) entry order) in
    (eight_not_memory (lg_k_byte b) (drop 8 b) e first, eight_first b e c.requires.has c.requires.width first))
    c.read_registers.ensures.order

pub returns-clause-ok : goal.returns-clause-ok
returns-clause-ok c =
    let b : List ℕ = c.args.bytes.now in
    let h : Header = c.args.header in
    let k = ap (λ (h : Header). h.lg_k) c.requires.header in
    IfOk-weaker c.read_registers.result _ (IsOfRegisters b)
    (λ x read.
    let there : Given h.lg_k h.out_of_order (drop 8 b) x = subst (λ xs. Given h.lg_k h.out_of_order xs x) (c.new-payload.ensures ∙ take_rest b 8) read in
    let given : Given (lg_k_byte b) (is_flagged 16 b) (drop 8 b) x = subst (λ (h : Header). Given h.lg_k h.out_of_order (drop 8 b) x) c.requires.header there in
    record {
      stage = c.requires.has.stage_is;
      sketch = _;
      read = read_as-eight b x c.requires.has c.requires.width given.0 given.1;
      lg_k = ap (λ (y : Stored). y.lg_k) (sym given.1);
      width_is = ap width_of_bits (sym c.requires.width);
      content = refl;
    })
    c.read_registers.ensures.ok
