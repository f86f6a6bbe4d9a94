-- SPDX-License-Identifier: Apache-2.0
use Rattle.std.proofs.Common.{take, subst}
use Rattle.hll_coupons.specs.Coupons.{IsAscending}
use Rattle.hll_state.specs.CouponRun.{raws}
use Rattle.hll_state.proofs.Sets.{set_of-permutation}
use Rattle.hll_state.proofs.settle.sort_all.Goals as goal

pub returns-clause-ascending : goal.returns-clause-ascending
returns-clause-ascending c =
    subst (IsAscending (take c.dedup.result (raws c.dedup.new.coupons))) (set_of-permutation (raws c.args.coupons.now) (raws c.sort.new.coupons) c.sort.ensures.permutation) c.dedup.ensures.ascending
