-- SPDX-License-Identifier: Apache-2.0
use Rattle.hll_coupons.specs.Cycle.{IsFor}
use Rattle.hll_coupons.proofs.Fillings.{one_more}
use Rattle.std.proofs.Common.{All, sym, subst}
use Rattle.hll_coupons.proofs.long_searches.LongSearches.make_cycle.Goals as goal

pub returns-clause-cycles : goal.returns-clause-cycles
returns-clause-cycles g c =
    subst (All (IsFor c.args.lg_size c.args.buckets.now)) (sym c.in_ok-push.ensures.items)
    (one_more (IsFor c.args.lg_size c.args.buckets.now) c.args.self.now.cycles.items c.in_ok-cycle.cycle c.requires.cycles
    (record { sound = c.in_ok-cycle.ensures.sound; size = c.in_ok-cycle.ensures.size; shows = c.in_ok-cycle.ensures.shows }))
