-- SPDX-License-Identifier: Apache-2.0
use Rattle.std.proofs.Common.{◌-◌, ℕ, List, length, inl, inr}
use Rattle.std.proofs.lemmas.Result.{IfOk-weaker, IfErr-weaker}
use borrow.Rule.Slice.PartMut.{mid_of}
use Rattle.hll_base.proofs.Errors.{IfErr-passed}
use Rattle.hll_sketch.specs.Value.{Sketch}
use Rattle.hll_state.specs.Counter.{sketch_in}
use Rattle.hll_state.specs.Memory.{IsSettled}
use Rattle.hll_state.proofs.States.{read_at, read_own}
use Rattle.hll_c.specs.Answers.{IsImageOf, WithFields}
use Rattle.hll_c.specs.Calls.{IsWidth}
use Rattle.hll_c.specs.States.{IsOfState, RefusesState}
use Rattle.hll_c.proofs.Codes.{IfOk-always}
use Rattle.hll_c.proofs.States.{image_at, refuses_no_state, refuses_register, refuses_state_memory}
use Rattle.hll_c.proofs.state.image_of.Goals as goal

pub returns-in_err-hll_type-clause-err : goal.returns-in_err-hll_type-clause-err
returns-in_err-hll_type-clause-err c =
    let e = c.in_err-hll_type in
    IfErr-passed (RefusesState (IsWidth c.args.width) c.args.state.now) c.from_residual.result e.field-0.0 c.from_residual.ensures.1
    (refuses_no_state (IsWidth c.args.width) c.args.state.now e.field-0.0 e.ensures.outside.0 (λ are. e.ensures.outside.1 are.0))

pub returns-in_err-hll_type-clause-kept : goal.returns-in_err-hll_type-clause-kept
returns-in_err-hll_type-clause-kept c = read_own c.args.state.now

pub returns-in_default-clause-err : goal.returns-in_default-clause-err
returns-in_default-clause-err c = refuses_no_state (IsWidth c.args.width) c.args.state.now c.new.result c.new.ensures (λ are. c.in_default.ensures.none are.1)

pub returns-clause-ok : goal.returns-clause-ok
returns-clause-ok c =
    let h = c.in-Some.header in
    let n : List (List ℕ) = c.resolve.new.elements in
    IfOk-weaker c.image_of_held.result _ (λ image. IsImageOf (WithFields (IsOfState c.args.width c.args.state.now)) image.items)
    (λ image. image_at c.args.state.now (sketch_in h (mid_of 10 (length n - 10) n)) c.args.width c.in_ok-hll_type.hll_type image.items (read_at c.args.state.now n h c.in-Some.ensures.some) c.in_ok-hll_type.ensures.ok)
    c.image_of_held.ensures.ok

pub returns-clause-err : goal.returns-clause-err
returns-clause-err c =
    let h = c.in-Some.header in
    let n : List (List ℕ) = c.resolve.new.elements in
    let x : Sketch = sketch_in h (mid_of 10 (length n - 10) n) in
    let of = read_at c.args.state.now n h c.in-Some.ensures.some in
    let width : IsWidth c.args.width = record { width = c.in_ok-hll_type.hll_type; is = c.in_ok-hll_type.ensures.ok } in
    let Refuses = RefusesState (IsWidth c.args.width) c.args.state.now in
    IfErr-weaker c.image_of_held.result _ Refuses
    (λ e why. elim why [
      | inl memory ↦ refuses_state_memory (IsWidth c.args.width) c.args.state.now e x width memory of
      | inr register ↦ refuses_register (IsWidth c.args.width) c.args.state.now e x width register.0 of register.1
    ])
    c.image_of_held.ensures.err

pub returns-clause-settled : goal.returns-clause-settled
returns-clause-settled c = IfOk-always c.image_of_held.result (IsSettled c.resolve.new.elements) c.in-Some.ensures.settled
