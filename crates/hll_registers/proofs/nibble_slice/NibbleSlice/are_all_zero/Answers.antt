-- SPDX-License-Identifier: Apache-2.0
use Rattle.std.proofs.Common.{◌==◌, ap, ◌∙◌, sym}
use Rattle.std.specs.Cmp.{both_ways}
use Rattle.std.specs.List.{list_all}
use Rattle.std.proofs.lemmas.Bool.{eqb-true, false_from_ne_true}
use Rattle.hll_registers.specs.FourBits.{unboxed}
use Rattle.hll_registers.proofs.FourBitReading.{AgreeAbove, zeros_above, least_of_none, bytes_of_none}
use Rattle.hll_registers.specs.Store.{Stored}
use Rattle.hll_registers.proofs.nibble_slice.NibbleSlice.are_all_zero.Goals as goal

pub returns-then-self-eq0 : goal.returns-then-self-eq0
returns-then-self-eq0 g c =
    let x = c.self.inside in
    let parts : AgreeAbove x.lg_k x.minimum x.nibbles.now (unboxed x.exceptions) = record { size = c.self.invariant.2; fits = c.self.invariant.3; map_for = c.self.invariant.4; agree = c.self.invariant.5 } in
    c.all_zero.ensures ∙ both_ways _ _ (zeros_above parts c.if-self-eq0.true) (bytes_of_none parts) ∙ ap (λ (l : Stored). list_all (λ v. v == 0) l.registers) c.self.view_is

pub returns-else-self-eq0 : goal.returns-else-self-eq0
returns-else-self-eq0 g c =
    let x = c.self.inside in
    let parts : AgreeAbove x.lg_k x.minimum x.nibbles.now (unboxed x.exceptions) = record { size = c.self.invariant.2; fits = c.self.invariant.3; map_for = c.self.invariant.4; agree = c.self.invariant.5 } in
    false_from_ne_true _ (λ e. c.if-self-eq0.false (eqb-true x.minimum 0 e)) ∙ sym (false_from_ne_true _ (λ all. c.if-self-eq0.false (least_of_none parts all))) ∙ ap (λ (l : Stored). list_all (λ v. v == 0) l.registers) c.self.view_is
