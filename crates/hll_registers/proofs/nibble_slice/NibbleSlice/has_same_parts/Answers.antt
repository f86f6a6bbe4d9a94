-- SPDX-License-Identifier: Apache-2.0
use Rattle.std.proofs.Common.{◌≡◌, ap, sym, subst, ◌∙◌}
use Rattle.hll_registers.specs.FourBits.{unboxed, unpacked}
use Rattle.hll_registers.specs.Store.{Stored}
use Rattle.hll_registers.proofs.FourBitReading.{AgreeAbove}
use Rattle.hll_registers.proofs.SameRegisters.{left_open, other_bytes, same_bytes, same_nibbles, same_registers, other_registers}
use Rattle.hll_registers.proofs.nibble_slice.NibbleSlice.has_same_parts.Goals as goal

pub returns-then-ne : goal.returns-then-ne
returns-then-ne g c =
    let x = c.self.inside in
    let y = c.other.inside in
    let k : y.lg_k ≡ x.lg_k = ap (λ (l : Stored). l.lg_k) c.other.view_is ∙ sym c.requires ∙ sym (ap (λ (l : Stored). l.lg_k) c.self.view_is) in
    let one : AgreeAbove x.lg_k x.minimum x.nibbles.now (unboxed x.exceptions) = record { size = c.self.invariant.2; fits = c.self.invariant.3; map_for = c.self.invariant.4; agree = c.self.invariant.5 } in
    let own : AgreeAbove y.lg_k y.minimum y.nibbles.now (unboxed y.exceptions) = record { size = c.other.invariant.2; fits = c.other.invariant.3; map_for = c.other.invariant.4; agree = c.other.invariant.5 } in
    let two : AgreeAbove x.lg_k x.minimum y.nibbles.now (unboxed y.exceptions) = subst (λ n. AgreeAbove n x.minimum y.nibbles.now (unboxed y.exceptions)) k (subst (λ m. AgreeAbove y.lg_k m y.nibbles.now (unboxed y.exceptions)) (sym c.if-self-other.false) own) in
    let here : unpacked x.lg_k x.minimum x.nibbles.now (unboxed x.exceptions) ≡ c.args.self.now.registers = ap (λ (l : Stored). l.registers) c.self.view_is in
    let there : unpacked x.lg_k x.minimum y.nibbles.now (unboxed y.exceptions) ≡ c.args.other.now.registers =
    (λ i. unpacked (sym k i) (c.if-self-other.false i) y.nibbles.now (unboxed y.exceptions)) ∙ ap (λ (l : Stored). l.registers) c.other.view_is in (
      λ t. absurd (cc),
      λ e. absurd (other_bytes c.ne.result _ _ c.ne.ensures c.if-ne.true (same_nibbles x.lg_k x.minimum x.nibbles.now y.nibbles.now (unboxed x.exceptions) (unboxed y.exceptions) one two (here ∙ e ∙ sym there))),
    )

pub returns : goal.returns
returns g c =
    let x = c.self.inside in
    let y = c.other.inside in
    let k : y.lg_k ≡ x.lg_k = ap (λ (l : Stored). l.lg_k) c.other.view_is ∙ sym c.requires ∙ sym (ap (λ (l : Stored). l.lg_k) c.self.view_is) in
    let one : AgreeAbove x.lg_k x.minimum x.nibbles.now (unboxed x.exceptions) = record { size = c.self.invariant.2; fits = c.self.invariant.3; map_for = c.self.invariant.4; agree = c.self.invariant.5 } in
    let own : AgreeAbove y.lg_k y.minimum y.nibbles.now (unboxed y.exceptions) = record { size = c.other.invariant.2; fits = c.other.invariant.3; map_for = c.other.invariant.4; agree = c.other.invariant.5 } in
    let two : AgreeAbove x.lg_k x.minimum y.nibbles.now (unboxed y.exceptions) = subst (λ n. AgreeAbove n x.minimum y.nibbles.now (unboxed y.exceptions)) k (subst (λ m. AgreeAbove y.lg_k m y.nibbles.now (unboxed y.exceptions)) (sym c.if-self-other.false) own) in
    let here : unpacked x.lg_k x.minimum x.nibbles.now (unboxed x.exceptions) ≡ c.args.self.now.registers = ap (λ (l : Stored). l.registers) c.self.view_is in
    let there : unpacked x.lg_k x.minimum y.nibbles.now (unboxed y.exceptions) ≡ c.args.other.now.registers =
    (λ i. unpacked (sym k i) (c.if-self-other.false i) y.nibbles.now (unboxed y.exceptions)) ∙ ap (λ (l : Stored). l.registers) c.other.view_is in
    let nibbles : x.nibbles.now ≡ y.nibbles.now = same_bytes c.ne.result _ _ c.ne.ensures c.if-ne.false in
    left_open c.are_all_in.result (c.args.self.now.registers ≡ c.args.other.now.registers)
    (λ t. sym here ∙ same_registers x.lg_k x.minimum x.nibbles.now y.nibbles.now (unboxed x.exceptions) (unboxed y.exceptions) one two nibbles (c.are_all_in.ensures.all t) ∙ there)
    (λ f e.
    let s = c.are_all_in.ensures.some f in
    other_registers x.lg_k x.minimum x.nibbles.now y.nibbles.now (unboxed x.exceptions) (unboxed y.exceptions) one two s.0 s.1 s.2 s.3 s.4 (here ∙ e ∙ sym there))
