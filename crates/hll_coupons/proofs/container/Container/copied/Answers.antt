-- SPDX-License-Identifier: Apache-2.0
use Rattle.std.proofs.Common.{◌∙◌, sym}
use Rattle.std.proofs.lemmas.List.{append-nil}
use Rattle.hll_coupons.proofs.Yielded.{given}
use Rattle.hll_coupons.proofs.container.Container.copied.Goals as goal

pub returns-clause-ok : goal.returns-clause-ok
returns-clause-ok g c =
    let all = given _ _ _ _ _ (c.into_iter-coupon-iterator.ensures.into_iter_gives ∙ c.iter-coupon-items.ensures) c.loop-coupon.yielded_by c.in-None.ensures.steps.0 in
    c.loop-coupon.invariant ∙ sym (all ∙ append-nil c.loop-coupon.yielded)
