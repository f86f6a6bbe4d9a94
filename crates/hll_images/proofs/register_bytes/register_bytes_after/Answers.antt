-- SPDX-License-Identifier: Apache-2.0
use Rattle.std.proofs.Common.{◌≡◌, ℕ, ◌+◌, ◌^◌, ◌≤◌, List, length, take, drop, All, None, Some, refl, sym, ap, subst, ◌∙◌, arith}
use Rattle.std.proofs.lemmas.List.{take_rest, length-drop, length-take-le}
use Rattle.hll_base.specs.declared.error.Reason.TheVariants.{Register}
use Rattle.hll_registers.specs.Payload.{state_at, HasPlainCounts, IsHll8Payload, FirstHll8Fault}
use Rattle.hll_registers.specs.Payload as payload
use Rattle.hll_registers.specs.Store.{Stored}
use Rattle.hll_registers.specs.declared.estimate_state.EstimateState.{EstimateState}
use Rattle.hll_arrays.proofs.ReadingRegisters.{is_hll8_payload}
use Rattle.hll_sketch.specs.Image.{lg_k_byte, is_flagged, width_of_bits}
use Rattle.hll_sketch.specs.MergedIn.{HasRegisterBytes}
use Rattle.hll_sketch.specs.declared.header.Header.{Header}
use Rattle.hll_sketch.proofs.FirstFailing.{eight_first}
use Rattle.hll_sketch.proofs.FrontImages.{read_as-eight}
use Rattle.hll_images.proofs.register_bytes.register_bytes_after.Goals as goal

-- the bytes of registers in a payload
abbrev AreAt : ℕ → List ℕ → List ℕ → Type 0
AreAt k R payload = HasPlainCounts k payload × (32 + 2 ^ k ≤ length payload) × (R ≡ take (2 ^ k) (drop 32 payload))

pub returns-in-Ok-clause-some : goal.returns-in-Ok-clause-some
returns-in-Ok-clause-some c =
    let b : List ℕ = c.args.image.now in
    let R : List ℕ = c.in-Ok.bytes.now in
    let k : ℕ = lg_k_byte b in
    let same : c.args.header.lg_k ≡ k = ap (λ (h : Header). h.lg_k) c.requires.header in
    let given : AreAt k R (drop 8 b) =
    subst (λ n. AreAt n R (drop 8 b)) same (subst (AreAt c.args.header.lg_k R) (c.new-payload.ensures ∙ take_rest b 8) (c.in-Ok.ensures.ok.0, c.in-Ok.ensures.ok.1, c.in-Ok.ensures.ok.2)) in
    let counts : HasPlainCounts k (drop 8 b) = given.0 in
    let own : All (λ v. v ≤ 63) R → All (λ v. v ≤ 63) (take (2 ^ k) (drop 32 (drop 8 b))) = subst (All (λ v. v ≤ 63)) given.2 in
    let state : EstimateState = state_at (is_flagged 16 b) (drop 8 b) in
    let x : Stored = record { lg_k = k; registers = R; state = state } in
    subst (λ n. HasRegisterBytes b n R) (sym same) (record {
      lg_k = c.requires.has.lg_k;
      size = ap length given.2 ∙ length-take-le (2 ^ k) (drop 32 (drop 8 b)) (omega (arith, given.1, length-drop 32 (drop 8 b)));
      state = state;
      read = λ small. record {
        stage = c.requires.has.stage_is;
        sketch = _;
        read = read_as-eight b x c.requires.has c.requires.width (is_hll8_payload k (drop 8 b) given.1 counts.zero_count counts.no_exceptions (own small))
            (λ i. record { lg_k = k; registers = given.2 i; state = state });
        lg_k = refl;
        width_is = ap width_of_bits (sym c.requires.width);
        content = refl;
      };
      rejected = λ above. eight_first b Register c.requires.has c.requires.width
          (payload.FirstHll8Fault.register counts given.1 (λ small. above (subst (All (λ v. v ≤ 63)) (sym given.2) small)));
    })

pub returns-in-Err-clause-none : goal.returns-in-Err-clause-none
returns-in-Err-clause-none c clean =
    let b : List ℕ = c.args.image.now in
    let same : c.args.header.lg_k ≡ lg_k_byte b = ap (λ (h : Header). h.lg_k) c.requires.header in
    let found : FirstHll8Fault (lg_k_byte b) (drop 8 b) c.in-Err.field-0 =
    subst (λ n. FirstHll8Fault n (drop 8 b) c.in-Err.field-0) same (subst (λ p. FirstHll8Fault c.args.header.lg_k p c.in-Err.field-0) (c.new-payload.ensures ∙ take_rest b 8) c.in-Err.ensures.order) in
    let fault : None ≡ Some c.in-Err.field-0 = sym clean ∙ eight_first b c.in-Err.field-0 c.requires.has c.requires.width found in
    absurd (cc)
