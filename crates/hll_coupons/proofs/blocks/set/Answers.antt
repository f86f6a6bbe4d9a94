-- SPDX-License-Identifier: Apache-2.0
use Rattle.hll_coupons.proofs.Bits.{bit_of-set_same, bit_of-set_other}
use Rattle.hll_coupons.proofs.blocks.set.Goals as goal

pub returns-clause-same : goal.returns-clause-same
returns-clause-same c = bit_of-set_same c.args.blocks.now c.args.bit c.with.result 1 c.requires c.with.ensures.same

pub returns-clause-others : goal.returns-clause-others
returns-clause-others c j = bit_of-set_other c.args.blocks.now c.args.bit c.with.result j c.requires (λ i l o. c.with.ensures.others i o)
