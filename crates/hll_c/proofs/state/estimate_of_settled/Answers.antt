-- SPDX-License-Identifier: Apache-2.0
use Rattle.std.proofs.Common.{◌-◌, ℕ, List, length, sym, subst}
use Rattle.std.proofs.lemmas.Result.{IfOk-weaker, IfErr-weaker}
use borrow.Rule.Slice.PartMut.{mid_of}
use Rattle.hll_state.specs.Counter.{sketch_in, IsResolved}
use Rattle.hll_state.specs.Memory.{IsSettled}
use Rattle.hll_state.proofs.States.{rest_borrowed}
use Rattle.hll_c.specs.States.{SaysEstimateOfState, RefusesState}
use Rattle.hll_c.proofs.States.{estimate_at, borrowed, refuses_no_state, refuses_register}
use Rattle.hll_c.proofs.state.estimate_of_settled.Goals as goal

pub returns-in_default-clause-err : goal.returns-in_default-clause-err
returns-in_default-clause-err c = refuses_no_state (IsSettled c.args.state.now) c.args.state.now c.new.result c.new.ensures (λ are. c.in_default.ensures.none are.1 are.0)

pub estimate_of_held-requires-clause-resolved : goal.estimate_of_held-requires-clause-resolved
estimate_of_held-requires-clause-resolved c = subst (IsResolved c.in-Some.header) (sym (rest_borrowed c.args.state.now)) c.in-Some.ensures.resolved

pub returns-clause-ok : goal.returns-clause-ok
returns-clause-ok c =
    let h = c.in-Some.header in
    let n : List (List ℕ) = c.args.state.now in
    IfOk-weaker c.estimate_of_held.result _ (SaysEstimateOfState c.args.state.now) (λ e. estimate_at c.args.state.now (sketch_in h (mid_of 10 (length n - 10) n)) e (borrowed n h c.in-Some.ensures.some)) c.estimate_of_held.ensures.ok

pub returns-clause-err : goal.returns-clause-err
returns-clause-err c =
    let h = c.in-Some.header in
    let n : List (List ℕ) = c.args.state.now in
    IfErr-weaker c.estimate_of_held.result _ (RefusesState (IsSettled n) n)
    (λ e why. refuses_register (IsSettled n) n e (sketch_in h (mid_of 10 (length n - 10) n)) c.in-Some.ensures.settled why.0 (borrowed n h c.in-Some.ensures.some) why.1)
    c.estimate_of_held.ensures.err
