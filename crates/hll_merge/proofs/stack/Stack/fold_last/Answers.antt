-- SPDX-License-Identifier: Apache-2.0
use Rattle.std.proofs.Common.{◌≡◌, ◌≤◌, ℕ, suc, ◌-◌, List, refl, sym, subst, length, arith}
use Rattle.std.specs.Option.{IsSome}
use Rattle.std.specs.Vec.{vec_len}
use Rattle.std.proofs.Math.ListN.{set}
use Rattle.hll_sketch.specs.Folding.{folded}
use Rattle.hll_sketch.specs.Layout.{SketchLayout}
use Rattle.hll_merge.specs.Stack.{ReplacesLast}
use Rattle.hll_merge.proofs.StackLemmas.{replaces_last}
use Rattle.hll_merge.proofs.stack.Stack.fold_last.Goals as goal

pub returns-clause-ok : goal.returns-clause-ok
returns-clause-ok g c =
    let xs : List SketchLayout = c.self.inside.sketches.items in
    let j : ℕ = vec_len c.self.inside.sketches - 1 in
    let len : length xs ≡ suc j = omega (arith, c.last_mut.ensures.variant.0 (subst IsSome (sym c.in-Some.is) refl)) in
    let made : SketchLayout = c.in_ok-last.field-0 in
    subst (λ ys. ReplacesLast ys (λ x y. (c.args.lg_k ≤ x.lg_k) × (y ≡ folded x c.args.lg_k)) (set xs j made)) c.self.view_is
    (replaces_last (λ x y. (c.args.lg_k ≤ x.lg_k) × (y ≡ folded x c.args.lg_k)) xs j c.in-Some.last.now made len c.in-Some.ensures.value
    (c.in_ok-last.ensures.lg_k.high, c.in_ok-last.ensures.ok))
