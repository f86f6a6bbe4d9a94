-- SPDX-License-Identifier: Apache-2.0
use Rattle.hll_c.specs.Answers.{WithFields, RefusesInPlace}
use Rattle.hll_c.specs.Calls.{IsMadeOf, HasCoupon, AreOfCoupon}
use Rattle.hll_c.specs.BytesOrParts.{bytes_of}
use Rattle.hll_c.proofs.Answers.{answers_with, IfErr-both}
use Rattle.hll_c.proofs.hll_image_add_coupon.Goals as goal

pub returns : goal.returns
returns c =
    answers_with bytes_of c.with_coupon.result (WithFields (IsMadeOf c.args.image.now (HasCoupon c.args.slot c.args.value)))
    (RefusesInPlace (AreOfCoupon c.args.slot c.args.value) (Unit {0}) c.args.image.now)
    c.args.out.now c.put_bytes_or_parts.new.out c.args.size.now c.put_bytes_or_parts.new.size c.put_bytes_or_parts.result c.with_coupon.ensures.ok
    (IfErr-both c.with_coupon.result _ _ c.with_coupon.ensures.err c.with_coupon.ensures.memory) c.put_bytes_or_parts.ensures
