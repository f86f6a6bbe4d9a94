-- SPDX-License-Identifier: Apache-2.0
use Rattle.std.proofs.Common.{List, [], ◌∷◌, ◌++◌, All, map, sym, subst, ◌∙◌}
use Rattle.std.proofs.lemmas.List.Elements.{All-nil, All-cons, All-head, All-tail}
use Rattle.hll_sketch.specs.Canonical.{IsCanonicalCleared}
use Rattle.hll_sketch.specs.Joined.{IsMergeOf}
use Rattle.hll_sketch.specs.Layout.{sketch_of}
use Rattle.hll_sketch.specs.Value.{Sketch}
use Rattle.hll_sketch.proofs.Regrouping.{merge_of_merge}
use Rattle.hll_caller.proofs.union_of_shards.Goals as goal

All-parts : (P : Sketch → Type 0) (xs ys : List Sketch) → All P (xs ++ ys) → All P xs × All P ys
All-parts P [] ys h = (All-nil P, h)
All-parts P (x ∷ xs) ys h = let rest = All-parts P xs ys (All-tail P x (xs ++ ys) h) in (All-cons P x xs (All-head P x (xs ++ ys) h) rest.0, rest.1)

pub returns-clause-canonical : goal.returns-clause-canonical
returns-clause-canonical g c = λ canonical.
    let here : List Sketch = map sketch_of c.args.here.now in
    let there : List Sketch = map sketch_of c.args.there.now in
    let parts = All-parts IsCanonicalCleared here there canonical in
    let inner : IsMergeOf there c.in_ok-sender.sender = c.in_ok-sender.ensures.canonical parts.1 in
    let sent : IsCanonicalCleared (sketch_of c.in_ok-sent.sent) = subst IsCanonicalCleared (sym c.in_ok-sent.ensures.ok) inner.canonical in
    let outer = c.in_ok-update.ensures.canonical here (c.in_ok-union.ensures.canonical parts.0) sent in
    merge_of_merge c.update.new.self c.in_ok-sender.sender c.args.width here there
    (c.in_ok-update.ensures.bound ∙ c.in_ok-union.ensures.bound ∙ sym c.in_ok-sender.ensures.bound) inner
    (subst (λ x. IsMergeOf (here ++ x ∷ []) c.update.new.self) c.in_ok-sent.ensures.ok outer)
