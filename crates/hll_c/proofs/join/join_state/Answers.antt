-- SPDX-License-Identifier: Apache-2.0
use Rattle.std.proofs.Common.{◌≡◌, ◌-◌, ℕ, List, length, drop, refl, sym, ap, subst, ◌∙◌}
use borrow.Rule.Slice.PartMut.{mid_of}
use Rattle.hll_base.specs.Reason.{number_of}
use Rattle.hll_sketch.specs.BorrowedImage.{sketch_of_borrowed}
use Rattle.hll_sketch.specs.Value.{IsLegal}
use Rattle.hll_state.specs.Counter.{sketch_in, IsResolved}
use Rattle.hll_state.specs.declared.header.Header.{Header}
use Rattle.hll_state.proofs.States.{rest_borrowed, legal_registers, read_at, read_own}
use Rattle.hll_c.specs.States.{JoinsUnder, JoinsState, state_read, no_states, register_above}
use Rattle.hll_c.proofs.join.join_state.Goals as goal

pub returns-in_default-clause-joined : goal.returns-in_default-clause-joined
returns-in_default-clause-joined c =
    subst (JoinsState c.args.lg_max_k c.args.other.now c.args.state.now c.args.state.now c.args.size.now c.args.size.now) (sym c.number.ensures) (no_states (λ both. c.in_default.ensures.none both.0) refl refl)

pub returns-in_default-clause-kept : goal.returns-in_default-clause-kept
returns-in_default-clause-kept c = read_own c.args.other.now

pub returns-in_default-resolve-clause-joined : goal.returns-in_default-resolve-clause-joined
returns-in_default-resolve-clause-joined c =
    subst (JoinsState c.args.lg_max_k c.args.other.now c.args.state.now c.args.state.now c.args.size.now c.args.size.now) (sym c.number-in_default-resolve.ensures)
    (no_states (λ both. c.in_default-resolve.ensures.none both.1) refl refl)

pub as_image-requires-clause-resolved : goal.as_image-requires-clause-resolved
as_image-requires-clause-resolved c = subst (IsResolved c.in-Some-resolve.other_header) (sym (rest_borrowed c.resolve.new.elements)) c.in-Some-resolve.ensures.resolved

pub returns-in-Ok-clause-joined : goal.returns-in-Ok-clause-joined
returns-in-Ok-clause-joined c =
    let n : List (List ℕ) = c.resolve.new.elements in
    let h : Header = c.in-Some-resolve.other_header in
    let of = c.in-Some-resolve.ensures.some in
    let g : Header = of.was.state.header in
    let is : sketch_of_borrowed c.in-Ok.image ≡ sketch_in g (drop 10 c.args.other.now) = c.in-Ok.ensures.ok ∙ ap (sketch_in h) (rest_borrowed n) ∙ sym of.is ∙ of.was.is in
    state_read g of.was.state.has
    (subst (λ widths. JoinsUnder c.args.lg_max_k widths (sketch_in g (drop 10 c.args.other.now)) c.args.state.now c.join.new.state c.args.size.now c.join.new.size c.join.result)
    (c.in-Some-resolve.ensures.widths g of.was.state.has)
    (subst (λ y. JoinsUnder c.args.lg_max_k h.widths y c.args.state.now c.join.new.state c.args.size.now c.join.new.size c.join.result) is c.join.ensures))

pub returns-in-Err-clause-joined : goal.returns-in-Err-clause-joined
returns-in-Err-clause-joined c =
    let n : List (List ℕ) = c.resolve.new.elements in
    let h : Header = c.in-Some-resolve.other_header in
    let of = read_at c.args.other.now n h c.in-Some-resolve.ensures.some in
    subst (JoinsState c.args.lg_max_k c.args.other.now c.args.state.now c.args.state.now c.args.size.now c.args.size.now) (sym (c.number-in-Err.ensures ∙ ap number_of (c.reason.ensures ∙ c.in-Err.ensures.err.0)))
    (register_above (record { header = c.in-Some.header; has = c.in-Some.ensures.some.0; bound = c.in-Some.ensures.some.1 })
    (record { sketch = of.sketch; was = of.was; is = λ legal. c.in-Err.ensures.err.1 (legal_registers h (mid_of 10 (length n - 10) n) (subst IsLegal of.is legal)) }) refl refl)
