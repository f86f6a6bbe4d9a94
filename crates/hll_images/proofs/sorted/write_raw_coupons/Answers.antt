-- SPDX-License-Identifier: Apache-2.0
use Rattle.std.proofs.Common.{◌∷◌, [], ◌++◌, sym, ap, ◌∙◌, get_or}
use Rattle.std.proofs.lemmas.List.{take_more}
use Rattle.hll_images.proofs.sorted.write_raw_coupons.Goals as goal

pub loop-index-preserved : goal.loop-index-preserved
loop-index-preserved c =
    c.put.ensures.put ∙ ap (λ ws. ws ++ get_or c.args.numbers.now c.loop-index.index 0 ∷ []) c.loop-index.invariant ∙ sym (take_more c.args.numbers.now c.loop-index.index 0 c.loop-index-test.true)
