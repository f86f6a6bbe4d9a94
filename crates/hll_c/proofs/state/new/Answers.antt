-- SPDX-License-Identifier: Apache-2.0
use Rattle.std.proofs.Common.{◌≡◌, ℕ, Bool, true, false, nat_eq, List, refl, sym, subst, ◌∙◌, arith, inl, inr}
use Rattle.std.proofs.lemmas.Bool.{eq-eqb, ne_eqb}
use Rattle.hll_sketch.specs.Value.{IsLgK}
use Rattle.hll_c.specs.States.{MayBeLgK, IsNewState, MakesState, made, made_open, few_elements, no_lg_k}
use Rattle.hll_c.proofs.state.new.Goals.{then-is_open, else-is_open}
use Rattle.hll_c.proofs.state.new.Goals as goal

-- a new state of the least lg_k is open if 0 was given for it, and of the lg_k that was given if not
new_as : (elements : List (List ℕ)) (k l : ℕ) (b c : Bool) → k ≡ l → b ≡ c → IsNewState k b elements → IsNewState l c elements
new_as elements k l b c same alike is = subst (λ b. IsNewState l b elements) alike (subst (λ k. IsNewState k b elements) same is)

pub returns-in_default : goal.returns-in_default
returns-in_default c =
    let outside : IsLgK c.if-is_open.least → ⊥ = c.in_default.ensures.outside.1 in
    let neither : MayBeLgK c.args.lg_k → ⊥ = elim c.if-is_open.branch [
      | then-is_open w ↦ λ may. outside (record { low = omega (arith, w.least-is, w.from-least.ensures); high = omega (arith, w.least-is, w.from-least.ensures) })
      | else-is_open w ↦ λ may. elim may [
        | inl is ↦ outside (subst IsLgK (sym w.least-is) is)
        | inr none ↦ w.if-is_open.false none
      ]
    ] in
    subst (MakesState c.args.lg_k c.args.state.now c.args.state.now) (sym c.number.ensures) (no_lg_k neither refl)

pub returns-then-state-lt-HEADER_LEN : goal.returns-then-state-lt-HEADER_LEN
returns-then-state-lt-HEADER_LEN c =
    let may : MayBeLgK c.args.lg_k = elim c.if-is_open.branch [
      | then-is_open w ↦ inr w.if-is_open.true
      | else-is_open w ↦ inl (subst IsLgK w.least-is c.in-Ok.ensures.ok.1)
    ] in
    few_elements may c.if-state-lt-HEADER_LEN.true refl

pub returns : goal.returns
returns c =
    let n : List (List ℕ) = c.make.new.state in
    elim c.if-is_open.branch [
      | then-is_open w ↦
          made_open w.if-is_open.true
          (new_as n c.in-Ok.lg_k 4 (nat_eq c.args.lg_k 0) true (c.in-Ok.ensures.ok.0 ∙ w.least-is ∙ w.from-least.ensures) (eq-eqb c.args.lg_k 0 w.if-is_open.true) c.make.ensures.made)
      | else-is_open w ↦
          made (subst IsLgK w.least-is c.in-Ok.ensures.ok.1)
          (new_as n c.in-Ok.lg_k c.args.lg_k (nat_eq c.args.lg_k 0) false (c.in-Ok.ensures.ok.0 ∙ w.least-is) (ne_eqb c.args.lg_k 0 w.if-is_open.false) c.make.ensures.made)
    ]
