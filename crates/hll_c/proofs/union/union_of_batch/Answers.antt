-- SPDX-License-Identifier: Apache-2.0
use Rattle.std.proofs.Common.{length, refl}
use Rattle.std.proofs.lemmas.Result.{IfErr-weaker}
use Rattle.hll_c.specs.Answers.{RefusesImages}
use Rattle.hll_c.specs.Batches.{AreEnds, strings}
use Rattle.hll_c.specs.Calls.{AreBatchArguments}
use Rattle.hll_c.proofs.Answers.{not_so}
use Rattle.hll_c.proofs.Images.{refuses_arguments, refuses_in_batch}
use Rattle.hll_c.proofs.union.union_of_batch.Goals as goal

pub returns-then-not-are_delimited-clause-err : goal.returns-then-not-are_delimited-clause-err
returns-then-not-are_delimited-clause-err c =
    let all = strings c.args.images.now c.args.ends.now in
    let Are = AreBatchArguments c.args.lg_max_k c.args.width (length c.args.images.now) c.args.ends.now in
    refuses_arguments Are all c.args.failed.now c.args.failed.now c.new.result c.new.ensures
    (λ are. not_so c.are_delimited.result (AreEnds (length c.args.images.now) c.args.ends.now) c.if-not-are_delimited.true c.are_delimited.ensures are.are) refl

pub returns-clause-err : goal.returns-clause-err
returns-clause-err c =
    let all = strings c.args.images.now c.args.ends.now in
    let Are = AreBatchArguments c.args.lg_max_k c.args.width (length c.args.images.now) c.args.ends.now in
    IfErr-weaker c.union_of.result _ (RefusesImages Are all c.args.failed.now c.union_of.new.failed)
    (λ e r. refuses_in_batch c.args.lg_max_k c.args.width c.args.images.now c.args.ends.now c.args.failed.now c.union_of.new.failed e (c.are_delimited.ensures.0 c.if-not-are_delimited.false) r)
    c.union_of.ensures.err
