-- SPDX-License-Identifier: Apache-2.0
use Rattle.std.proofs.Common.{◌≡◌, ℕ, ◌∙◌, List, nat_eq, sym, ap, subst}
use Rattle.std.specs.Cmp.Lexicographic.{pointwise}
use lib.Pointwise.{bytes_decides}
use Rattle.std.proofs.lemmas.Bool.{eqb-true, true≢false}
use Rattle.hll_registers.specs.FourBits.{NibbleRegisters, IsPacked, unpacked, unboxed}
use Rattle.hll_registers.proofs.FourBitStores.{same_exceptions, same_minimum, same_nibbles, same_registers, same_test}
use Rattle.hll_registers.proofs.nibble_registers.NibbleRegisters.is_same.Goals as goal
use Rattle.hll_registers.proofs.nibble_registers.NibbleRegisters.is_same.Goals.{then-self-other, else-self-other}

pub returns-then-eq : goal.returns-then-eq
returns-then-eq g c =
    let x = c.self.inside in
    let y = c.other.inside in
    let R : List ℕ = unpacked x.lg_k x.minimum x.nibbles.items (unboxed x.exceptions) in
    let Q : List ℕ = unpacked y.lg_k y.minimum y.nibbles.items (unboxed y.exceptions) in
    let k : x.lg_k ≡ y.lg_k = ap (λ (z : NibbleRegisters). z.lg_k) c.self.view_is ∙ c.requires ∙ sym (ap (λ (z : NibbleRegisters). z.lg_k) c.other.view_is) in
    let q : IsPacked x.lg_k y.minimum y.count_at_minimum y.nibbles.items (unboxed y.exceptions) Q = subst (λ k. IsPacked k y.minimum y.count_at_minimum y.nibbles.items (unboxed y.exceptions) Q) (sym k) c.other.invariant.2 in
    let entries = c.have_same_exceptions.ensures x.lg_k c.self.invariant.2.map_for q.map_for in
    subst (λ (z : NibbleRegisters). c.have_same_exceptions.result ≡ pointwise nat_eq z.registers c.args.other.now.registers) c.self.view_is
    (subst (λ (z : NibbleRegisters). c.have_same_exceptions.result ≡ pointwise nat_eq R z.registers) c.other.view_is (elim c.if-self-other.branch [
      | then-self-other w ↦
          let tested : w.eq.result ≡ pointwise nat_eq x.nibbles.items y.nibbles.items = w.eq.ensures ∙ (λ i. pointwise nat_eq (w.as_slice.ensures.value i) (w.as_slice-then-self-other.ensures.value i)) in
          let nibbles : x.nibbles.items ≡ y.nibbles.items = (bytes_decides x.nibbles.items y.nibbles.items).0 (sym tested ∙ sym w.value-is ∙ c.if-eq.true) in
          same_test c.have_same_exceptions.result R Q
          (λ e. same_registers _ _ _ _ _ _ _ _ _ _ _ c.self.invariant.1 c.self.invariant.2 q w.if-self-other.true nibbles (entries.0 e))
          (λ is. entries.1 (same_exceptions _ _ _ _ _ _ _ _ _ _ _ c.self.invariant.1 c.self.invariant.2 q is))
      | else-self-other w ↦ absurd (w.if-self-other.false (eqb-true x.minimum y.minimum (sym w.value-is ∙ c.if-eq.true)))
    ]))

pub returns-else-eq : goal.returns-else-eq
returns-else-eq g c =
    let x = c.self.inside in
    let y = c.other.inside in
    let R : List ℕ = unpacked x.lg_k x.minimum x.nibbles.items (unboxed x.exceptions) in
    let Q : List ℕ = unpacked y.lg_k y.minimum y.nibbles.items (unboxed y.exceptions) in
    let k : x.lg_k ≡ y.lg_k = ap (λ (z : NibbleRegisters). z.lg_k) c.self.view_is ∙ c.requires ∙ sym (ap (λ (z : NibbleRegisters). z.lg_k) c.other.view_is) in
    let q : IsPacked x.lg_k y.minimum y.count_at_minimum y.nibbles.items (unboxed y.exceptions) Q = subst (λ k. IsPacked k y.minimum y.count_at_minimum y.nibbles.items (unboxed y.exceptions) Q) (sym k) c.other.invariant.2 in
    subst (λ (z : NibbleRegisters). c.if-self-other.value ≡ pointwise nat_eq z.registers c.args.other.now.registers) c.self.view_is
    (subst (λ (z : NibbleRegisters). c.if-self-other.value ≡ pointwise nat_eq R z.registers) c.other.view_is
    (same_test c.if-self-other.value R Q (λ e. absurd (true≢false (sym e ∙ c.if-eq.false))) (λ is. elim c.if-self-other.branch [
      | then-self-other w ↦
          let tested : w.eq.result ≡ pointwise nat_eq x.nibbles.items y.nibbles.items = w.eq.ensures ∙ (λ i. pointwise nat_eq (w.as_slice.ensures.value i) (w.as_slice-then-self-other.ensures.value i)) in
          w.value-is ∙ tested ∙ (bytes_decides x.nibbles.items y.nibbles.items).1 (same_nibbles _ _ _ _ _ _ _ _ _ _ _ c.self.invariant.1 c.self.invariant.2 q is)
      | else-self-other w ↦ absurd (w.if-self-other.false (same_minimum _ _ _ _ _ _ _ _ _ _ _ c.self.invariant.1 c.self.invariant.2 q is))
    ])))
