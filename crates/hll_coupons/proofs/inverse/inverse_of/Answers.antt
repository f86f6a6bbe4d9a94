-- SPDX-License-Identifier: Apache-2.0
use Rattle.std.proofs.Common.{arith, ◌≡◌, ◌+◌, ◌*◌, ◌%◌, ◌^◌, ◌∙◌, ap, sym}
use Rattle.hll_coupons.proofs.Inverses.{doubled, fewer}
use Rattle.hll_coupons.proofs.inverse.inverse_of.Goals as goal

pub loop-init : goal.loop-init
loop-init c = record { right = ap (λ m. m % 2) (omega arith) ∙ c.requires.odd; small = omega arith }

pub loop-preserved : goal.loop-preserved
loop-preserved c = record {
  right = ap (λ m. c.args.odd * m % 2 ^ (2 ^ (c.loop.counter + 1))) c.step-inverse.ensures ∙ doubled c.args.odd c.loop.inverse c.loop.counter (omega arith) c.loop.invariant.right;
  small = omega arith;
}

pub returns-clause-inverse : goal.returns-clause-inverse
returns-clause-inverse c =
    let five : c.loop.counter ≡ 5 = omega arith in
    fewer (c.args.odd * c.loop.inverse) c.args.lg_size c.requires.small (ap (λ n. c.args.odd * c.loop.inverse % 2 ^ (2 ^ n)) (sym five) ∙ c.loop.invariant.right)
