-- SPDX-License-Identifier: Apache-2.0
use Rattle.std.proofs.Common.{arith}
use Rattle.hll_coupons.proofs.Bits.{next_in_summary, none_in_rest}
use Rattle.hll_coupons.proofs.blocks.next_by_summary.Goals as goal

pub returns-clause-found : goal.returns-clause-found
returns-clause-found c =
    next_in_summary c.args.blocks.now c.args.summary.now c.args.from c.in_ok-i.i c.lowest-2.result c.requires.summary
    (none_in_rest c.args.blocks.now c.args.from c.from_bit-rest.result c.from_bit-rest.ensures.high (omega arith))
    c.in_ok-i.ensures.found c.lowest-2.ensures.within c.lowest-2.ensures.set c.lowest-2.ensures.before
