-- SPDX-License-Identifier: Apache-2.0
use Rattle.std.proofs.Common.{length}
use Rattle.hll_c.specs.Answers.{WithFields, RefusesImages}
use Rattle.hll_c.specs.Batches.{strings}
use Rattle.hll_c.specs.Calls.{AreBatchArguments, IsUnionOfBatch}
use Rattle.hll_c.proofs.Answers.{answers_with}
use Rattle.hll_c.proofs.hll_images_union.Goals as goal

pub returns : goal.returns
returns c =
    answers_with (λ v. v.items) c.union_of_batch.result (WithFields (IsUnionOfBatch c.args.lg_max_k c.args.width c.args.images.now c.args.ends.now c.args.failed.now c.union_of_batch.new.failed))
    (RefusesImages (AreBatchArguments c.args.lg_max_k c.args.width (length c.args.images.now) c.args.ends.now) (strings c.args.images.now c.args.ends.now) c.args.failed.now c.union_of_batch.new.failed)
    c.args.out.now c.put_bytes.new.out c.args.size.now c.put_bytes.new.size c.put_bytes.result c.union_of_batch.ensures.ok c.union_of_batch.ensures.err c.put_bytes.ensures
