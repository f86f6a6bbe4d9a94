-- SPDX-License-Identifier: Apache-2.0
use Rattle.std.proofs.Common.{◌≡◌, Option, Some, None, IfSome, IfNone, List, [], ◌∷◌, All, map, length, refl, ap, subst, sym, ◌∙◌, arith}
use Rattle.std.proofs.lemmas.List.Elements.{All-cons, All-nil}
use Rattle.hll_sketch.specs.Layout.{SketchLayout, sketch_of}
use Rattle.hll_sketch.specs.Merging.{merge, merge_all, empty_union}
use Rattle.hll_sketch.specs.Union.{gadget_of}
use Rattle.hll_sketch.specs.Value.{Sketch, IsLegal}
use Rattle.hll_sketch.proofs.Joined.{joined_list}
use Rattle.hll_sketch.proofs.Merges.{lg_k-merge_all}
use Rattle.hll_sketch.proofs.unions.union_of.Goals as goal

none_left : (xs : List SketchLayout) → length xs ≡ 0 → xs ≡ []
none_left [] none = refl
none_left (x ∷ xs) none = absurd (omega (arith, none))

some_is : {X : Type 0} (o : Option X) (x : X) (P : X → Type 0) → o ≡ Some x → IfSome o P → P x
some_is o x P is = subst (λ p. IfSome p P) is

none_is : {X : Type 0} (o : Option X) (P : Type 0) → o ≡ None → IfNone o P → P
none_is o P is = subst (λ p. IfNone p P) is

pub loop-first-preserved-in-Some-2 : goal.loop-first-preserved-in-Some-2
loop-first-preserved-in-Some-2 g c =
    let m = c.args.lg_max_k in
    let union = gadget_of c.loop-first.union in
    let made = gadget_of c.update_together.new.self in
    let rest = c.in-Some-2.rest.now in
    let merged = some_is _ _ _ c.in-Some-2.is c.in_ok-rest.ensures.merged in
    let legal = some_is _ _ _ c.in-Some-2.is c.in_ok-rest.ensures.legal in
    record {
      bound = c.update_together.ensures.bound ∙ c.loop-first.invariant.bound;
      merged = subst (λ k. merge_all k made (map sketch_of rest) ≡ merge_all k union (map sketch_of c.loop-first.left.now)) c.loop-first.invariant.bound merged
          ∙ c.loop-first.invariant.merged;
      legal = λ left. c.loop-first.invariant.legal (legal left);
    }

pub loop-first-preserved : goal.loop-first-preserved
loop-first-preserved g c =
    let m = c.args.lg_max_k in
    let union = gadget_of c.loop-first.union in
    let others = c.in-Some.others.now in
    let split = sym c.in-Some.ensures.cases.0 in
    let same : c.update_together.new.self ≡ c.loop-first.union = none_is _ _ c.in-None.is c.in_ok-rest.ensures.none in
    let bound : c.update_together.new.self.lg_max_k ≡ m = c.update_together.ensures.bound ∙ c.loop-first.invariant.bound in
    record {
      bound = c.update.ensures.bound ∙ bound;
      merged = ap (λ made. merge_all m made (map sketch_of others)) c.in_ok-update-in-None.ensures.ok
          ∙ (λ i. merge_all m (merge (bound i) (gadget_of (same i)) (sketch_of c.in-Some.first.now)) (map sketch_of others))
          ∙ ap (λ xs. merge_all m union (map sketch_of xs)) split
          ∙ c.loop-first.invariant.merged;
      legal = λ left. c.loop-first.invariant.legal (subst (All (λ x. IsLegal (sketch_of x))) split (All-cons (λ x. IsLegal (sketch_of x)) c.in-Some.first.now others c.value_is_legal.ensures left));
    }

pub returns-clause-merged : goal.returns-clause-merged
returns-clause-merged g c =
    ap (λ xs. merge_all c.args.lg_max_k (gadget_of c.loop-first.union) (map sketch_of xs)) (sym (none_left c.loop-first.left.now c.in_default.ensures.cases))
    ∙ c.loop-first.invariant.merged

pub returns-clause-lg_k : goal.returns-clause-lg_k
returns-clause-lg_k g c =
    ap (λ (x : Sketch). x.lg_k) (returns-clause-merged g c)
    ∙ lg_k-merge_all c.args.lg_max_k (empty_union c.args.lg_max_k) c.args.sketches.now

pub returns-clause-canonical : goal.returns-clause-canonical
returns-clause-canonical g c = λ canonical.
    joined_list c.args.lg_max_k c.loop-first.union c.args.sketches.now c.loop-first.invariant.bound (returns-clause-merged g c) c.in_ok-union.ensures.lg_k.high
    (c.loop-first.invariant.legal (subst (All (λ x. IsLegal (sketch_of x))) (sym (none_left c.loop-first.left.now c.in_default.ensures.cases)) (All-nil (λ x. IsLegal (sketch_of x))))) canonical
