-- SPDX-License-Identifier: Apache-2.0
use Rattle.std.proofs.Common.{◌<◌, get_or, length, ap, sym, ◌∙◌, subst}
use Rattle.std.proofs.lemmas.Option.{IfSome_then}
use Rattle.hll_coupons.specs.Cycle.{EndsForAbsent}
use Rattle.hll_coupons.specs.LongSearches.{EndsByCycle}
use Rattle.hll_coupons.proofs.Fillings.{ends_by}
use Rattle.hll_coupons.proofs.long_searches.LongSearches.end_by_cycle.Goals as goal

pub returns-then-stride : goal.returns-then-stride
returns-then-stride g c =
    let is = c.deref-cycle-items.ensures.value in
    IfSome_then c.first_empty.result {P = EndsForAbsent c.cycle-item.result c.args.key} {Q = EndsByCycle c.args.self.now c.args.lg_size c.args.key} c.first_empty.ensures.found
    (λ bucket ends. ends_by c.args.lg_size c.args.key bucket c.loop-cycle.cycle-index c.args.self.now.cycles.items c.cycle-item.result
    (subst (λ cycles. c.loop-cycle.cycle-index < length cycles) is c.loop-cycle-test.true) (c.cycle-item.is ∙ ap (λ cycles. get_or cycles c.loop-cycle.cycle-index c.cycle-item.result) is)
    (sym c.stride.ensures ∙ c.if-stride.true ∙ c.stride_of-stride.ensures.stride) ends)
