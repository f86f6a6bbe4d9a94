-- SPDX-License-Identifier: Apache-2.0
use Rattle.std.proofs.Common.{◌-◌, ℕ, List, length}
use Rattle.std.proofs.lemmas.Result.{IfOk-weaker, IfErr-weaker}
use borrow.Rule.Slice.PartMut.{mid_of}
use Rattle.hll_state.specs.Counter.{sketch_in}
use Rattle.hll_state.specs.Memory.{IsSettled}
use Rattle.hll_state.proofs.States.{read_at}
use Rattle.hll_c.specs.States.{SaysEstimateOfState, RefusesState}
use Rattle.hll_c.proofs.Codes.{IfOk-always}
use Rattle.hll_c.proofs.States.{estimate_at, refuses_no_state, refuses_register}
use Rattle.hll_c.proofs.state.estimate_of.Goals as goal

pub returns-in_default-clause-err : goal.returns-in_default-clause-err
returns-in_default-clause-err c = refuses_no_state (Unit {0}) c.args.state.now c.new.result c.new.ensures (λ are. c.in_default.ensures.none are.1)

pub returns-clause-ok : goal.returns-clause-ok
returns-clause-ok c =
    let h = c.in-Some.header in
    let n : List (List ℕ) = c.resolve.new.elements in
    IfOk-weaker c.estimate_of_held.result _ (SaysEstimateOfState c.args.state.now) (λ e. estimate_at c.args.state.now (sketch_in h (mid_of 10 (length n - 10) n)) e (read_at c.args.state.now n h c.in-Some.ensures.some)) c.estimate_of_held.ensures.ok

pub returns-clause-err : goal.returns-clause-err
returns-clause-err c =
    let h = c.in-Some.header in
    let n : List (List ℕ) = c.resolve.new.elements in
    IfErr-weaker c.estimate_of_held.result _ (RefusesState (Unit {0}) c.args.state.now)
    (λ e why. refuses_register (Unit {0}) c.args.state.now e (sketch_in h (mid_of 10 (length n - 10) n)) tt why.0 (read_at c.args.state.now n h c.in-Some.ensures.some) why.1)
    c.estimate_of_held.ensures.err

pub returns-clause-settled : goal.returns-clause-settled
returns-clause-settled c = IfOk-always c.estimate_of_held.result (IsSettled c.resolve.new.elements) c.in-Some.ensures.settled
