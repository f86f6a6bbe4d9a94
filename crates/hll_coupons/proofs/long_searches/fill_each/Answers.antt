-- SPDX-License-Identifier: Apache-2.0
use Rattle.std.proofs.Common.{◌<◌, ◌^◌}
use Rattle.hll_coupons.specs.Cycle.{IsSound}
use Rattle.hll_coupons.proofs.Fillings.{filled_none, next_of, filled_more, filled_all}
use Rattle.hll_coupons.proofs.long_searches.fill_each.Goals as goal

pub loop-cycle-init : goal.loop-cycle-init
loop-cycle-init g c = filled_none c.args.bucket c.args.cycles.now

pub fill-requires-clause-sound : goal.fill-requires-clause-sound
fill-requires-clause-sound g c =
    next_of c.args.bucket c.loop-cycle.cycle-index c.args.cycles.now c.loop-cycle.cycles c.loop-cycle.invariant c.loop-cycle.auto.cycles c.loop-cycle-test.true c.cycle-item.result
    IsSound c.requires.sound

pub fill-requires-clause-within : goal.fill-requires-clause-within
fill-requires-clause-within g c =
    next_of c.args.bucket c.loop-cycle.cycle-index c.args.cycles.now c.loop-cycle.cycles c.loop-cycle.invariant c.loop-cycle.auto.cycles c.loop-cycle-test.true c.cycle-item.result
    (λ k. c.args.bucket < 2 ^ k.lg_size) c.requires.within

pub loop-cycle-preserved : goal.loop-cycle-preserved
loop-cycle-preserved g c =
    filled_more c.args.bucket c.loop-cycle.cycle-index c.args.cycles.now c.loop-cycle.cycles c.loop-cycle.invariant c.loop-cycle.auto.cycles c.loop-cycle-test.true c.cycle-item.result
    c.fill.new.self (record { sound = c.fill.ensures.sound; size = c.fill.ensures.size; fills = c.fill.ensures.fills })

pub returns : goal.returns
returns g c = filled_all c.args.bucket c.loop-cycle.cycle-index c.args.cycles.now c.loop-cycle.cycles c.loop-cycle.invariant c.loop-cycle.auto.cycles c.loop-cycle-test.false
