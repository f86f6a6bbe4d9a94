-- SPDX-License-Identifier: Apache-2.0
use Rattle.std.proofs.Common.{ℕ, ◌≡◌, ◌*◌, ◌^◌, length}
use Rattle.std.proofs.lemmas.Option.{IfSome_then}
use Rattle.hll_coupons.specs.Blocks.{IsNext}
use Rattle.hll_coupons.specs.Cycle.{IsNextRound}
use Rattle.hll_coupons.proofs.Cycles.{round_later, round_again}
use Rattle.hll_coupons.proofs.cycle.next_round.Goals as goal

pub returns-in-Some-clause-found : goal.returns-in-Some-clause-found
returns-in-Some-clause-found c lg size = round_later lg c.args.from c.in-Some.bit c.args.blocks.now size c.in-Some.ensures.found

pub returns-in-None-clause-found : goal.returns-in-None-clause-found
returns-in-None-clause-found c =
    IfSome_then c.next_by_summary-in-None.result {P = IsNext c.args.blocks.now 0} {Q = λ bit. (lg : ℕ) → 64 * length c.args.blocks.now ≡ 2 ^ lg → IsNextRound lg c.args.blocks.now c.args.from bit}
    c.next_by_summary-in-None.ensures.found
    (λ bit n lg size. round_again lg c.args.from bit c.args.blocks.now size c.requires.within c.in-None.ensures.none n)
