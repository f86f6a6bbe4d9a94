-- SPDX-License-Identifier: Apache-2.0
use Rattle.hll_c.proofs.GrowingUnions.{empty_under}
use Rattle.hll_c.proofs.union.GrowingUnion.new.Goals as goal

pub invariant_of-result : goal.invariant_of-result
invariant_of-result c = empty_under c.args.lg_max_k c.new.result c.new-2.result.items c.requires c.new.ensures c.new-2.ensures.items
