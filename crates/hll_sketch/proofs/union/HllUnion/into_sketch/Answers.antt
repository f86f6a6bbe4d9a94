-- SPDX-License-Identifier: Apache-2.0
use Rattle.std.proofs.Common.{◌≡◌, IfOk, subst}
use Rattle.hll_sketch.specs.Layout.{sketch_of}
use Rattle.hll_sketch.specs.Union.{UnionLayout, gadget_of}
use Rattle.hll_sketch.proofs.union.HllUnion.into_sketch.Goals as goal

pub returns-clause-ok : goal.returns-clause-ok
returns-clause-ok g c =
    subst (λ (u : UnionLayout). IfOk c.into_width.result (λ s. sketch_of s ≡ record (gadget_of u) { width = c.args.hll_type })) c.self.view_is c.into_width.ensures.ok
