-- SPDX-License-Identifier: Apache-2.0
use Rattle.std.proofs.Common.{arith}
use Rattle.hll_c.proofs.GrowingUnions.{grown}
use Rattle.hll_c.proofs.union.GrowingUnion.grow.Goals as goal

pub invariant_of-self : goal.invariant_of-self
invariant_of-self c =
    (grown c.self.inside.lg_max_k c.self.inside.header c.self.inside.elements.items c.resize.new.self.items c.max-len.result _ c.self.invariant (omega (arith, c.if-len.true, c.len.ensures)) c.in_ok-resize.ensures.items).0
