-- SPDX-License-Identifier: Apache-2.0
use Rattle.std.proofs.Common.{ℕ, ◌<◌, List, length, arith}
use Rattle.hll_base.proofs.Errors.{IfErr-passed}
use Rattle.hll_c.specs.Steps.{FailsToMergeIn}
use Rattle.hll_c.proofs.GrowingUnions.{merges_none, merges_more, merges_all, fails_here}
use Rattle.hll_c.proofs.union.merge_in_all.Goals as goal

pub loop-number-init : goal.loop-number-init
loop-number-init g c = merges_none c.args.union.now (g.S.Strings.strings c.args.images.now) c.args.failed.now

pub returns-in_err-merge_in-clause-err : goal.returns-in_err-merge_in-clause-err
returns-in_err-merge_in-clause-err g c =
    let all : List (List ℕ) = g.S.Strings.strings c.args.images.now in
    let inside : c.loop-number.number < length all = omega (arith, c.loop-number-test.true, c.count-number-end.ensures) in
    let e = c.in_err-merge_in in
    IfErr-passed (FailsToMergeIn all c.args.failed.now c.merge_in.new.failed) c.from_residual.result e.field-0.0 c.from_residual.ensures.1
    (fails_here c.args.union.now c.loop-number.union all c.args.failed.now c.loop-number.failed c.loop-number.number c.loop-number.invariant inside c.string.result.now c.string.ensures
    c.merge_in.new.failed e.field-0.0 e.ensures.err)

pub loop-number-preserved : goal.loop-number-preserved
loop-number-preserved g c =
    let all : List (List ℕ) = g.S.Strings.strings c.args.images.now in
    let inside : c.loop-number.number < length all = omega (arith, c.loop-number-test.true, c.count-number-end.ensures) in
    merges_more c.args.union.now c.loop-number.union all c.args.failed.now c.loop-number.failed c.loop-number.number c.loop-number.invariant inside c.string.result.now c.string.ensures
    c.merge_in.new.self c.merge_in.new.failed c.in_ok-merge_in.ensures.ok.0 c.in_ok-merge_in.ensures.ok.1

pub returns-clause-ok : goal.returns-clause-ok
returns-clause-ok g c =
    let all : List (List ℕ) = g.S.Strings.strings c.args.images.now in (
      merges_all c.args.union.now c.loop-number.union all c.args.failed.now c.loop-number.failed c.loop-number.number c.loop-number.invariant
          (omega (arith, c.loop-number-test.false, c.count-number-end.ensures)),
      c.loop-number.invariant.untold,
    )
