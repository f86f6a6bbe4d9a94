-- SPDX-License-Identifier: Apache-2.0
use Rattle.std.proofs.Common.{◌≡◌, ℕ, ◌-◌, List, length, drop, sym, ap, subst, ◌∙◌}
use Rattle.std.proofs.lemmas.List.{length-drop}
use borrow.Rule.Slice.PartMut.{mid_of}
use Rattle.hll_state.specs.Counter.{sketch_in}
use Rattle.hll_state.specs.Header.{IsWithin, HasRoom}
use Rattle.hll_state.specs.Memory.{HasHeader}
use Rattle.hll_state.specs.declared.header.Header.{Header}
use Rattle.hll_state.proofs.States.{one_header, opened, rest_borrowed, rest_written, means, kept, same_widths, grows, open_written}
use Rattle.hll_state.proofs.memory.begin_with.Goals as goal

pub returns-then-make_room-clause-ok : goal.returns-then-make_room-clause-ok
returns-then-make_room-clause-ok c =
    let e : List (List ℕ) = c.args.elements.now in
    let h : Header = c.args.header in
    let g : Header = c.make_room.new.self in
    let has : HasHeader e h = c.requires.header in
    let b : List (List ℕ) = c.make_room.new.body in
    let size : length (mid_of 10 (length e - 10) e) ≡ length e - 10 = ap length (rest_borrowed e) ∙ length-drop 10 e in
    record {
      there = has.there;
      within = subst (IsWithin g) size c.make_room.ensures.within;
      room = subst (HasRoom g c.args.count) size (c.make_room.ensures.room c.if-make_room.true);
      means = record {
        sketch = sketch_in h (drop 10 e);
        was = means e h has;
        is = sym (opened e b h g has c.make_room.ensures.same) ∙ ap (sketch_in g) (sym (rest_written e b has.there));
      };
      widths = λ x had. same_widths e h has x had ∙ sym c.make_room.ensures.widths;
      keeps = λ x had m len enough. c.make_room.ensures.keeps m len (subst (λ (y : Header). HasRoom y m len) (one_header e x h had has) enough);
      lg_k_open = open_written e b has.there;
    }

pub returns-clause-err : goal.returns-clause-err
returns-clause-err c =
    let e : List (List ℕ) = c.args.elements.now in
    let n : List (List ℕ) = c.close.new.elements in
    let h : Header = c.args.header in
    let g : Header = c.make_room.new.self in
    let has : HasHeader e h = c.requires.header in
    let b : List (List ℕ) = c.make_room.new.body in
    let size : length (mid_of 10 (length e - 10) e) ≡ length e - 10 = ap length (rest_borrowed e) ∙ length-drop 10 e in
    let rest : drop 10 n ≡ b = c.close.ensures.rest ∙ rest_written e b has.there in
    record {
      kept = kept e n h g has c.close.ensures.header (ap (sketch_in g) rest ∙ opened e b h g has c.make_room.ensures.same);
      grows = grows 0 e n h g has c.close.ensures.header (record { widths = c.make_room.ensures.widths; takes = c.make_room.ensures.keeps 0 });
      lg_k_open = c.close.ensures.lg_k_open ∙ open_written e b has.there;
      lacks = λ can. c.make_room.ensures.none c.if-make_room.false (subst (HasRoom h c.args.count) (sym size) (can h has));
      enough = record {
        header = g;
        has = c.close.ensures.header;
        header_fits = c.len_for.ensures.least;
        room = c.len_for.ensures.room;
        most = c.len_for.ensures.most;
        asked = c.len_for.ensures.asked;
        short = c.make_room.ensures.short c.if-make_room.false;
      };
    }
