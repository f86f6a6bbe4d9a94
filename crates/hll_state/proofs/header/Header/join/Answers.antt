-- SPDX-License-Identifier: Apache-2.0
use Rattle.std.proofs.Common.{◌≡◌, ℕ, List, true, false, sym, ap, ◌∙◌}
use Rattle.hll_sketch.specs.BorrowedImage.{sketch_of_borrowed}
use Rattle.hll_sketch.specs.Value.{Sketch, is_empty}
use Rattle.hll_state.specs.Counter.{sketch_in}
use Rattle.hll_state.specs.Joined.{raised, lg_ks_differ, widths_after}
use Rattle.hll_state.specs.Merged.{is_unused}
use Rattle.hll_state.specs.declared.header.Header.{Header}
use Rattle.hll_state.proofs.Emptiness.{unused_is_empty}
use Rattle.hll_state.proofs.Joining.{bounded_same, own_same, empty_same, not_refused, joined-empty, merged_joined}
use Rattle.hll_state.proofs.header.Header.join.Goals as goal
use Rattle.hll_state.proofs.header.Header.join.Goals.{then-bounded-via-then-bounded, then-bounded-via-else-bounded+then-self-lg_k}

pub returns-then-is_empty-clause-joined : goal.returns-then-is_empty-clause-joined
returns-then-is_empty-clause-joined g c =
    let h : Header = c.args.self.now in
    let body : List (List ℕ) = c.args.body.now in
    let x : Sketch = sketch_in h body in
    let y : Sketch = sketch_of_borrowed c.args.image.now in
    let none : is_empty y ≡ true = sym c.is_empty-is_empty.ensures ∙ c.if-is_empty.true in
    let joins = c.join_empty.ensures body in
    record {
      accepted = λ some. not_refused c.args.bounded x y (empty_same c.args.bounded x.lg_k y none);
      is = λ some. joins.is c.requires.within some ∙ ap (λ k. raised c.args.bounded k x) c.lg_k.ensures.lg_k ∙ sym (joined-empty c.args.bounded x y none);
      empty = λ some. unused_is_empty h body c.requires.within some;
      takes = λ len enough to_merge. joins.takes len enough;
      widths = joins.widths_are ∙ c.widths_after-widths.ensures.is ∙ ap (widths_after h.widths c.args.widths (is_unused h.held)) c.is_empty-is_empty.ensures;
    }

pub returns-then-bounded-clause-joined : goal.returns-then-bounded-clause-joined
returns-then-bounded-clause-joined g c =
    let h : Header = c.args.self.now in
    let y : Sketch = sketch_of_borrowed c.args.image.now in
    let some : is_empty y ≡ false = sym c.is_empty-is_empty.ensures ∙ c.if-is_empty.false in
    let same : lg_ks_differ c.args.bounded h.lg_k y ≡ false = elim c.then-bounded.branch [
      | then-bounded-via-then-bounded w ↦ bounded_same c.args.bounded h.lg_k y w.if-bounded.true
      | then-bounded-via-else-bounded+then-self-lg_k w ↦ own_same c.args.bounded h.lg_k y (w.if-self-lg_k.true ∙ w.lg_k-else-bounded.ensures.lg_k)
    ] in
    merged_joined c.args.bounded c.args.widths c.widths_after-widths.result y h c.args.body.now c.merge_with_room.new.self c.merge_with_room.new.body c.merge_with_room.result
    c.requires.within some same (c.widths_after-widths.ensures.is ∙ ap (widths_after h.widths c.args.widths (is_unused h.held)) c.is_empty-is_empty.ensures) c.merge_with_room.ensures.merged
