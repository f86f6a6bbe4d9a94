-- SPDX-License-Identifier: Apache-2.0
use Rattle.std.proofs.Common.{◌≡◌, ◌-◌, ◌&&◌, ℕ, List, length, refl, sym, ap, subst, ◌∙◌}
use borrow.Rule.Slice.PartMut.{put_mid}
use Rattle.hll_sketch.specs.BorrowedImage.{sketch_of_borrowed}
use Rattle.hll_sketch.specs.Value.{Sketch, is_empty}
use Rattle.hll_state.specs.Memory.{HasHeader}
use Rattle.hll_state.specs.declared.header.Header.{Header}
use Rattle.hll_state.specs.declared.join.Joined.TheVariants.{Done, NoRoom, OtherLgK}
use Rattle.hll_state.proofs.States.{merge_fits, rest_same, open_written, same_header}
use Rattle.hll_c.proofs.States.{joined_within}
use Rattle.hll_c.specs.States.{JoinsSketch, joined, no_room_to_join, other_lg_k}
use Rattle.hll_c.proofs.join.join_begun.Goals as goal

pub too_small-requires : goal.too_small-requires
too_small-requires c = merge_fits _ _ c.in-NoRoom.len c.in-NoRoom.ensures.joined.enough

pub returns-in-Done : goal.returns-in-Done
returns-in-Done c =
    let s : List (List ℕ) = c.args.state.now in
    let y : Sketch = sketch_of_borrowed c.args.image.now in
    let final : List (List ℕ) = c.decide.new.state in
    joined (joined_within c.args.lg_max_k c.args.widths y s final c.join.new.body c.args.header c.join.new.self Done
    c.requires.has c.requires.bound (same_header c.close_if_changed.new.elements final c.join.new.self c.close_if_changed.ensures.header c.decide.ensures.header c.decide.auto.state)
    (c.decide.ensures.rest ∙ c.close_if_changed.ensures.rest) c.in-Done.ensures.joined)
    (c.decide.ensures.lg_k_open ∙ ap (λ b. b && is_empty y) (c.close_if_changed.ensures.lg_k_open ∙ open_written s c.join.new.body c.requires.has.there)) refl

pub returns-in-NoRoom : goal.returns-in-NoRoom
returns-in-NoRoom c =
    let y : Sketch = sketch_of_borrowed c.args.image.now in
    let len : ℕ = c.in-NoRoom.len in
    subst (JoinsSketch c.args.lg_max_k c.args.widths y c.args.state.now c.close.new.elements c.args.size.now c.too_small.new.size) (sym c.too_small.ensures.code)
    (no_room_to_join len (joined_within c.args.lg_max_k c.args.widths y c.args.state.now c.close.new.elements c.join.new.body c.args.header c.join.new.self (NoRoom len)
    c.requires.has c.requires.bound c.close.ensures.header c.close.ensures.rest c.in-NoRoom.ensures.joined)
    (c.close.ensures.lg_k_open ∙ open_written c.args.state.now c.join.new.body c.requires.has.there) c.too_small.ensures.size)

pub returns-in-OtherLgK : goal.returns-in-OtherLgK
returns-in-OtherLgK c =
    let s : List (List ℕ) = c.args.state.now in
    let y : Sketch = sketch_of_borrowed c.args.image.now in
    let final : List (List ℕ) = put_mid 10 (length s - 10) s c.join.new.body in
    let is = c.in-OtherLgK.ensures.joined in
    let same : final ≡ s = ap (put_mid 10 (length s - 10) s) is.unchanged ∙ rest_same s in
    other_lg_k (joined_within c.args.lg_max_k c.args.widths y s final c.join.new.body c.args.header c.join.new.self OtherLgK
    c.requires.has c.requires.bound (subst (λ (h : Header). HasHeader final h) (sym is.same) (subst (λ xs. HasHeader xs c.args.header) (sym same) c.requires.has)) refl is) same refl
