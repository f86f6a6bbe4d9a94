-- SPDX-License-Identifier: Apache-2.0
use Rattle.std.proofs.Common.{◌≡◌, ◌+◌, Bool, List, ℕ, take, drop, sym, ap, subst, ◌∙◌, inl, inr}
use Rattle.std.proofs.lemmas.List.{take_rest}
use Rattle.hll_base.proofs.Errors.{IfErr-passed}
use Rattle.hll_base.specs.declared.hll_type.HllType.TheVariants.{Hll6}
use Rattle.hll_kernels.specs.Packed.{fields}
use Rattle.hll_registers.specs.Payload.{field_size, state_at, IsHll6Payload, FirstHll6Fault}
use Rattle.hll_registers.specs.Store.{Stored}
use Rattle.hll_sketch.specs.Image.{lg_k_byte, is_flagged, IsReadAs}
use Rattle.hll_sketch.specs.Refusal.{IsRefusal}
use Rattle.hll_sketch.specs.Value.{registers}
use Rattle.hll_sketch.specs.declared.header.Header.{Header}
use Rattle.hll_sketch.proofs.FirstFailing.{six_first, six_asked}
use Rattle.hll_sketch.proofs.FrontImages.{read_as-six}
use Rattle.hll_sketch.proofs.read_image.read_six.Goals as goal

-- the registers that the reader of the payload gives
abbrev Given : ℕ → Bool → List ℕ → Stored → Type 0
Given k flag payload a = IsHll6Payload k (take (32 + field_size k) payload) × (a ≡ record { lg_k = k; registers = fields (take (field_size k) (drop 32 payload)); state = state_at flag payload })

pub returns-in_err-array-clause-err : goal.returns-in_err-array-clause-err
returns-in_err-array-clause-err g c =
    let b : List ℕ = c.args.bytes.now in
    let e = c.in_err-array.field-0.0 in
    let P : Header → List ℕ → Type 0 = λ h xs. IsHll6Payload h.lg_k (take (32 + field_size h.lg_k) xs) in
    IfErr-passed (IsRefusal b) c.from_residual.result e c.from_residual.ensures.1 (record {
      first = elim c.in_err-array.ensures.order [
        | inl full ↦ inl full
        | inr f ↦ inr (six_first b e c.requires.has c.requires.width
            (subst (λ (h : Header). FirstHll6Fault h.lg_k (drop 8 b) e) c.requires.header (subst (λ xs. FirstHll6Fault c.args.header.lg_k xs e) (c.new-payload.ensures ∙ take_rest b 8) f)))
      ];
      asked = λ full. six_asked b c.requires.has c.requires.width (subst (λ h. P h (drop 8 b)) c.requires.header (subst (P c.args.header) (c.new-payload.ensures ∙ take_rest b 8) (c.in_err-array.ensures.asked full)));
    })

pub returns-clause-ok : goal.returns-clause-ok
returns-clause-ok g c =
    let b : List ℕ = c.args.bytes.now in
    let a : Stored = c.in_ok-array.array in
    let same : Given (lg_k_byte b) (is_flagged 16 b) (drop 8 b) a = subst (λ (h : Header). Given h.lg_k h.out_of_order (drop 8 b) a) c.requires.header
    (subst (λ xs. Given c.args.header.lg_k c.args.header.out_of_order xs a) (c.new-payload.ensures ∙ take_rest b 8) c.in_ok-array.ensures.ok) in
    subst (λ k. IsReadAs b (record { lg_k = k; width = Hll6; content = registers a.registers a.state })) (ap (λ (h : Header). h.lg_k) (sym c.requires.header))
    (read_as-six b a c.requires.has c.requires.width same.0 same.1)
