-- SPDX-License-Identifier: Apache-2.0
use Rattle.std.proofs.Common.{◌≡◌, ◌*◌, ◌^◌, ℕ, List, length, ap, ◌∙◌, arith}
use Rattle.hll_state.specs.CouponRun.{raws}
use Rattle.hll_state.specs.Registers.{values}
use Rattle.hll_state.proofs.FewExceptions.{with_coupons}
use Rattle.hll_state.proofs.NibbleParts.{whole_blocks}
use Rattle.hll_state.proofs.Values.{four_each, length-values}
use Rattle.hll_state.proofs.registers.max_with_few_exceptions.Goals as goal

pub max_with_nibbles-requires-clause-size : goal.max_with_nibbles-requires-clause-size
max_with_nibbles-requires-clause-size c = omega (arith, c.requires.parts.size, c.requires.size, four_each c.args.few.now.lg_k c.requires.least)

pub max_with_nibbles-requires-clause-sixteens : goal.max_with_nibbles-requires-clause-sixteens
max_with_nibbles-requires-clause-sixteens c = whole_blocks (length c.args.elements.now) c.args.few.now.lg_k c.requires.size c.requires.many

pub max_with_nibbles-requires-clause-small : goal.max_with_nibbles-requires-clause-small
max_with_nibbles-requires-clause-small c = omega (arith, c.requires.parts.low)

pub returns : goal.returns
returns c =
    let V : List ℕ = values c.args.elements.now in
    let size : length V ≡ 2 ^ c.args.few.now.lg_k = length-values c.args.elements.now c.told-elements ∙ ap (λ n. 4 * n) c.requires.size ∙ four_each c.args.few.now.lg_k c.requires.least in
    with_coupons c.args.few.now.lg_k c.args.few.now.minimum c.args.few.now.nibbles.now (raws c.args.few.now.entries.now) c.requires.parts V (values c.max_with_nibbles.new.elements) (values c.raise_all.new.elements) size c.max_with_nibbles.ensures c.raise_all.ensures.joined
