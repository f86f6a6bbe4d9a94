-- SPDX-License-Identifier: Apache-2.0
use Rattle.std.proofs.Common.{take, subst, sym, ap, ◌∙◌}
use Rattle.std.specs.List.Sorted.{IsStrictlyIncreasing}
use Rattle.hll_state.specs.CouponRun.{raws}
use Rattle.hll_state.proofs.Raws.{take-raws_take}
use Rattle.hll_state.proofs.settle.settle_tail.Goals as goal

pub merge_tail-requires-clause-ascends : goal.merge_tail-requires-clause-ascends
merge_tail-requires-clause-ascends c =
    subst IsStrictlyIncreasing (sym (ap (λ ys. take c.args.run (raws ys)) c.split_at_mut-front.ensures.front ∙ take-raws_take c.args.run c.args.used c.args.coupons.now c.requires.run)) c.requires.ascends
