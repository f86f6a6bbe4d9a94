-- SPDX-License-Identifier: Apache-2.0
use Rattle.std.proofs.Common.{◌≡◌, ◌∷◌, [], List, length, subst, arith}
use Rattle.std.specs.Prelude.{IfSome}
use Rattle.hll_sketch.specs.Layout.{SketchLayout}
use Rattle.hll_merge.proofs.StackLemmas.{only, some_is_not_none}
use Rattle.hll_merge.proofs.stack.Stack.into_only.Goals as goal

pub returns-then-len-eq1-clause-one : goal.returns-then-len-eq1-clause-one
returns-then-len-eq1-clause-one g c =
    let xs : List SketchLayout = c.self.inside.sketches.items in
    let one : length xs ≡ 1 = omega (arith, c.len.ensures, c.if-len-eq1.true) in
    subst (λ zs. IfSome c.pop.result (λ x. zs ≡ x ∷ [])) c.self.view_is (only xs c.pop.new.self.items c.pop.result c.pop.ensures.items one)

pub returns-then-len-eq1-clause-other : goal.returns-then-len-eq1-clause-other
returns-then-len-eq1-clause-other g c = some_is_not_none c.pop.result _ (c.pop.ensures.variant.1 (omega (arith, c.len.ensures, c.if-len-eq1.true)))
