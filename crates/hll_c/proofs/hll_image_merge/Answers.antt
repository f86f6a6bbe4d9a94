-- SPDX-License-Identifier: Apache-2.0
use Rattle.std.proofs.Common.{[], ◌∷◌}
use Rattle.hll_c.specs.Answers.{WithFields, RefusesImages}
use Rattle.hll_c.specs.Calls.{AreUnionArguments, IsUnionOf}
use Rattle.hll_c.proofs.Answers.{answers_with}
use Rattle.hll_c.proofs.hll_image_merge.Goals as goal

pub returns : goal.returns
returns c =
    let images = c.args.left.now ∷ c.args.right.now ∷ [] in
    answers_with (λ v. v.items) c.union_of_two.result (WithFields (IsUnionOf c.args.lg_max_k c.args.width images c.args.failed.now c.union_of_two.new.failed))
    (RefusesImages (AreUnionArguments c.args.lg_max_k c.args.width) images c.args.failed.now c.union_of_two.new.failed)
    c.args.out.now c.put_bytes.new.out c.args.size.now c.put_bytes.new.size c.put_bytes.result c.union_of_two.ensures.ok c.union_of_two.ensures.err c.put_bytes.ensures
