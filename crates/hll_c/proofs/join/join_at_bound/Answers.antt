-- SPDX-License-Identifier: Apache-2.0
use Rattle.std.proofs.Common.{◌≡◌, ◌-◌, ℕ, length, drop, refl, sym, ap, subst, ◌∙◌}
use Rattle.std.proofs.lemmas.List.{length-drop}
use Rattle.hll_sketch.specs.BorrowedImage.{sketch_of_borrowed}
use Rattle.hll_sketch.specs.Value.{Sketch}
use Rattle.hll_state.specs.Merged.{HasRoomToMerge}
use Rattle.hll_state.specs.declared.header.Header.{Header}
use Rattle.hll_state.proofs.States.{merge_fits}
use Rattle.hll_c.specs.States.{JoinsUnder, no_room_at_bound}
use Rattle.hll_c.proofs.AtBound.{joins_new, enough_for_new}
use Rattle.hll_c.proofs.Answers.{not_so}
use Rattle.hll_c.proofs.join.join_at_bound.Goals as goal

pub too_small-requires : goal.too_small-requires
too_small-requires c =
    let asked = c.len_to_merge.ensures in
    merge_fits _ _ c.len_to_merge.result (enough_for_new c.args.lg_max_k c.new-header.result (sketch_of_borrowed c.args.image.now) c.len_to_merge.result c.new-header.ensures c.requires.bound asked.asked asked.room asked.least asked.most)

pub returns-then-not-has_room_to_merge : goal.returns-then-not-has_room_to_merge
returns-then-not-has_room_to_merge c =
    let k : ℕ = c.args.lg_max_k in
    let y : Sketch = sketch_of_borrowed c.args.image.now in
    let s = c.args.state.now in
    let h : Header = c.new-header.result in
    let asked = c.len_to_merge.ensures in
    let lacks = not_so c.has_room_to_merge.result (HasRoomToMerge h y (length s - 10)) c.if-not-has_room_to_merge.true c.has_room_to_merge.ensures in
    subst (JoinsUnder k c.args.widths y s s c.args.size.now c.too_small.new.size) (sym c.too_small.ensures.code)
    (no_room_at_bound c.requires.decided c.len_to_merge.result (enough_for_new k h y c.len_to_merge.result c.new-header.ensures c.requires.bound asked.asked asked.room asked.least asked.most)
    (λ room. lacks (subst (λ (g : Header). HasRoomToMerge g y (length s - 10)) (sym c.new-header.ensures) room)) refl c.too_small.ensures.size)

pub returns : goal.returns
returns c =
    let k : ℕ = c.args.lg_max_k in
    let y : Sketch = sketch_of_borrowed c.args.image.now in
    let begun = c.make-begun.new.state in
    let room : HasRoomToMerge c.new-header.result y (length c.args.state.now - 10) = c.has_room_to_merge.ensures.0 c.if-not-has_room_to_merge.false in
    let long : length c.args.state.now - 10 ≡ length (drop 10 begun) = sym (length-drop 10 begun ∙ ap (λ n. n - 10) c.make-begun.auto.state) in
    let there : HasRoomToMerge c.make-begun.result y (length (drop 10 begun)) =
    subst (λ n. HasRoomToMerge c.make-begun.result y n) long (subst (λ (g : Header). HasRoomToMerge g y (length c.args.state.now - 10)) (c.new-header.ensures ∙ sym c.make-begun.ensures.header) room) in
    joins_new k c.args.widths y c.args.state.now begun c.join_begun.new.state c.args.size.now c.join_begun.new.size c.join_begun.result c.make-begun.result c.requires.decided c.requires.bound
    c.make-begun.ensures.made c.make-begun.ensures.has there c.join_begun.ensures
