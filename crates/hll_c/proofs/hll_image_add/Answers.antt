-- SPDX-License-Identifier: Apache-2.0
use Rattle.std.proofs.Common.{◌≤◌, length, sym, subst}
use Rattle.std.proofs.lemmas.Result.{IfErr-weaker}
use Rattle.hll_c.specs.Answers.{WithFields, RefusesInPlace}
use Rattle.hll_c.specs.Batches.{AreEnds, strings}
use Rattle.hll_c.specs.Calls.{IsMadeOf, HasValues}
use Rattle.hll_c.specs.BytesOrParts.{bytes_of}
use Rattle.hll_c.proofs.Answers.{answers_with, IfErr-both}
use Rattle.hll_c.proofs.StringsByNumber.{length-strings}
use Rattle.hll_c.proofs.hll_image_add.Goals as goal

pub returns : goal.returns
returns c =
    answers_with bytes_of c.with_values.result (WithFields (IsMadeOf c.args.image.now (HasValues (AreEnds (length c.args.values.now) c.args.ends.now) (strings c.args.values.now c.args.ends.now))))
    (RefusesInPlace (AreEnds (length c.args.values.now) c.args.ends.now) (length c.args.ends.now ≤ 1) c.args.image.now)
    c.args.out.now c.put_bytes_or_parts.new.out c.args.size.now c.put_bytes_or_parts.new.size c.put_bytes_or_parts.result c.with_values.ensures.ok
    (IfErr-both c.with_values.result _ _ c.with_values.ensures.err
    (IfErr-weaker c.with_values.result _ _ (λ e none memory plain few. none memory plain (subst (λ n. n ≤ 1) (sym (length-strings 0 c.args.values.now c.args.ends.now)) few)) c.with_values.ensures.memory)) c.put_bytes_or_parts.ensures
