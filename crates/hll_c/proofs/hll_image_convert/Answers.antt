-- SPDX-License-Identifier: Apache-2.0
use Rattle.hll_c.specs.Answers.{WithFields, RefusesInPlace}
use Rattle.hll_c.specs.Calls.{AsksWidth, AsksOwnWidth, IsMadeOf, IsAtWidth}
use Rattle.hll_c.specs.BytesOrParts.{bytes_of}
use Rattle.hll_c.proofs.Answers.{answers_with, IfErr-both}
use Rattle.hll_c.proofs.hll_image_convert.Goals as goal

pub returns : goal.returns
returns c =
    answers_with bytes_of c.converted.result (WithFields (IsMadeOf c.args.image.now (IsAtWidth c.args.width)))
    (RefusesInPlace (AsksWidth c.args.width) (AsksOwnWidth c.args.width c.args.image.now) c.args.image.now)
    c.args.out.now c.put_bytes_or_parts.new.out c.args.size.now c.put_bytes_or_parts.new.size c.put_bytes_or_parts.result c.converted.ensures.ok
    (IfErr-both c.converted.result _ _ c.converted.ensures.err c.converted.ensures.memory) c.put_bytes_or_parts.ensures
