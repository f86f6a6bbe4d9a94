-- SPDX-License-Identifier: Apache-2.0
use Rattle.std.proofs.Common.{◌≡◌, ℕ, List, Bool, true, false, nat_eq, sym, subst, ◌∙◌}
use Rattle.std.specs.Prelude.{◌&&◌}
use Rattle.std.specs.Bool.{beq}
use Rattle.std.specs.Cmp.Lexicographic.{pointwise}
use Rattle.std.proofs.lemmas.Bool.{eq-eqb, eqb-true}
use Rattle.hll_kernels.specs.Groups.{registers_in}
use Rattle.hll_arrays.specs.Same.{same_stored}
use Rattle.hll_registers.specs.Store.{Stored}
use Rattle.hll_kernels.proofs.Grouping.{pointwise-registers_in}
use Rattle.hll_arrays.proofs.array6.Array6PartialEq.eq.Goals as goal
use Rattle.hll_arrays.proofs.array6.Array6PartialEq.eq.Goals.{then-self-other, else-self-other}

-- whether the states are the same
abbrev same_state : Stored → Stored → Bool
same_state x y = pointwise nat_eq x.state.words y.state.words && beq x.state.out_of_order y.state.out_of_order

-- what is left to compare if lg_k is the same
same_lg_k : (x y : Stored) (r : Bool) → x.lg_k ≡ y.lg_k → pointwise nat_eq x.registers y.registers ≡ r → (r && same_state x y) ≡ same_stored x y
same_lg_k x y r k e = λ i. sym (eq-eqb x.lg_k y.lg_k k) i && (sym e i && same_state x y)

other_lg_k : (x y : Stored) → nat_eq x.lg_k y.lg_k ≡ false → false ≡ same_stored x y
other_lg_k x y k = λ i. sym k i && (pointwise nat_eq x.registers y.registers && same_state x y)

pub returns-then-eq : goal.returns-then-eq
returns-then-eq g c =
    let G : List (List ℕ) = c.self.inside.groups.items in
    let H : List (List ℕ) = c.other.inside.groups.items in
    let x : Stored = record { lg_k = c.self.inside.lg_config_k; registers = registers_in G; state = c.self.inside.state } in
    let y : Stored = record { lg_k = c.other.inside.lg_config_k; registers = registers_in H; state = c.other.inside.state } in
    subst (λ z. c.eq-then-eq.result ≡ same_stored z c.args.other.now) c.self.view_is (subst (λ z. c.eq-then-eq.result ≡ same_stored x z) c.other.view_is (elim c.if-self-other.branch [
      | then-self-other w ↦
          let groups : w.eq.result ≡ pointwise (pointwise nat_eq) G H = w.eq.ensures ∙ (λ i. pointwise (pointwise nat_eq) (w.as_slice.ensures.value i) (w.as_slice-then-self-other.ensures.value i)) in
          let same : pointwise nat_eq (registers_in G) (registers_in H) ≡ true =
          sym (pointwise-registers_in G H c.self.invariant.2.bytes c.other.invariant.2.bytes) ∙ sym groups ∙ sym w.value-is ∙ c.if-eq.true in
          c.eq-then-eq.ensures ∙ same_lg_k x y true w.if-self-other.true same
      | else-self-other w ↦ absurd (w.if-self-other.false (eqb-true _ _ (sym w.value-is ∙ c.if-eq.true)))
    ]))

pub returns-else-eq : goal.returns-else-eq
returns-else-eq g c =
    let G : List (List ℕ) = c.self.inside.groups.items in
    let H : List (List ℕ) = c.other.inside.groups.items in
    let x : Stored = record { lg_k = c.self.inside.lg_config_k; registers = registers_in G; state = c.self.inside.state } in
    let y : Stored = record { lg_k = c.other.inside.lg_config_k; registers = registers_in H; state = c.other.inside.state } in
    subst (λ z. c.if-self-other.value ≡ same_stored z c.args.other.now) c.self.view_is (subst (λ z. c.if-self-other.value ≡ same_stored x z) c.other.view_is (elim c.if-self-other.branch [
      | then-self-other w ↦
          let groups : w.eq.result ≡ pointwise (pointwise nat_eq) G H = w.eq.ensures ∙ (λ i. pointwise (pointwise nat_eq) (w.as_slice.ensures.value i) (w.as_slice-then-self-other.ensures.value i)) in
          let other : pointwise nat_eq (registers_in G) (registers_in H) ≡ false =
          sym (pointwise-registers_in G H c.self.invariant.2.bytes c.other.invariant.2.bytes) ∙ sym groups ∙ sym w.value-is ∙ c.if-eq.false in
          c.if-eq.false ∙ same_lg_k x y false w.if-self-other.true other
      | else-self-other w ↦ c.if-eq.false ∙ other_lg_k x y (sym w.value-is ∙ c.if-eq.false)
    ]))
