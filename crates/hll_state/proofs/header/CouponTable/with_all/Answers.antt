-- SPDX-License-Identifier: Apache-2.0
use Rattle.std.proofs.Common.{sym, ap, ◌∙◌}
use Rattle.hll_coupons.specs.Pair.{Pairs, set_of}
use Rattle.hll_state.specs.CouponRun.{members, raws}
use Rattle.hll_state.proofs.Tables.{needed, content_with-coupons}
use Rattle.hll_state.proofs.header.CouponTable.with_all.Goals as goal

pub returns-clause-added : goal.returns-clause-added
returns-clause-added c =
    let S : Pairs = members c.args.self.run c.args.body.now in
    ap (needed c.args.lg_k c.args.self.lg_size) c.extend.ensures.added ∙ sym (content_with-coupons c.args.lg_k c.args.self S (set_of (raws c.args.others.now)))
