-- SPDX-License-Identifier: Apache-2.0
-- When two stores are the same (docs/MODEL.md, "Laws of a store").
use Rattle.std.specs.Prelude.{◌≡◌, ◌&&◌, nat_eq, Bool, true, refl}
use Rattle.std.proofs.Common.{subst, eqb-true, eq-eqb}
use Rattle.std.proofs.lemmas.Bool.{and_parts, and_from}
use Rattle.std.specs.Bool.{beq}
use Rattle.std.specs.Cmp.{IsPartialEquivalence, IsEquivalence, nat_eq_equiv, bool_eq_equiv, booleans_Decides, on_equiv, and_equiv, partial_equiv_from_equiv}
use Rattle.std.specs.Cmp.Lexicographic.{pointwise, lists_equiv}
use Rattle.std.specs.Ordering.{on, eq_of_both}
use lib.Pointwise.{bytes_decides}
use Rattle.hll_registers.specs.FourBits.{FourBits}
use Rattle.hll_registers.specs.Store.{Stored}

-- the same lg_k, registers and state
abbrev pub same_stored : Stored → Stored → Bool
same_stored = eq_of_both (on (λ a. a.lg_k) nat_eq) (eq_of_both (on (λ a. a.registers) (pointwise nat_eq)) (eq_of_both (on (λ a. a.state.words) (pointwise nat_eq)) (on (λ a. a.state.out_of_order) beq)))

pub same_stored-equivalence : IsEquivalence same_stored
same_stored-equivalence =
    and_equiv (on_equiv (λ a. a.lg_k) nat_eq_equiv) (and_equiv (on_equiv (λ a. a.registers) (lists_equiv nat_eq_equiv))
    (and_equiv (on_equiv (λ a. a.state.words) (lists_equiv nat_eq_equiv)) (on_equiv (λ a. a.state.out_of_order) bool_eq_equiv)))

pub same_stored-partial : IsPartialEquivalence same_stored
same_stored-partial = partial_equiv_from_equiv same_stored-equivalence

-- then the stores are equal
pub same_stored-from : (x y : Stored) → same_stored x y ≡ true → x ≡ y
same_stored-from x y h =
    let r = and_parts (nat_eq x.lg_k y.lg_k) _ h in
    let q = and_parts (pointwise nat_eq x.registers y.registers) _ r.1 in
    let s = and_parts (pointwise nat_eq x.state.words y.state.words) _ q.1 in
    let k : x.lg_k ≡ y.lg_k = eqb-true _ _ r.0 in
    let R : x.registers ≡ y.registers = (bytes_decides x.registers y.registers).0 q.0 in
    let w : x.state.words ≡ y.state.words = (bytes_decides x.state.words y.state.words).0 s.0 in
    let o : x.state.out_of_order ≡ y.state.out_of_order = (booleans_Decides _ _).0 s.1 in
    λ i. record { lg_k = k i; registers = R i; state = record { words = w i; out_of_order = o i } }

-- and equal stores are the same
pub same_stored-to : (x y : Stored) → x ≡ y → same_stored x y ≡ true
same_stored-to x y e = subst (λ z. same_stored x z ≡ true) e (same_stored-equivalence.refl x)

-- ---- 4-bit registers

-- the same lg_k, registers and state; the buckets of exceptions don't matter
abbrev pub same_four_bits : FourBits → FourBits → Bool
same_four_bits = on (λ a. a.stored) same_stored

pub same_four_bits-equivalence : IsEquivalence same_four_bits
same_four_bits-equivalence = on_equiv (λ a. a.stored) same_stored-equivalence

pub same_four_bits-partial : IsPartialEquivalence same_four_bits
same_four_bits-partial = partial_equiv_from_equiv same_four_bits-equivalence
