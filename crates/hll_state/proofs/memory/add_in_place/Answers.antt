-- SPDX-License-Identifier: Apache-2.0
use Rattle.std.proofs.Common.{◌≡◌, ℕ, ◌-◌, List, [], ◌∷◌, length, drop, refl, sym, ap, ◌∙◌, arith}
use Rattle.std.proofs.lemmas.List.{length-drop}
use borrow.Rule.Slice.PartMut.{put_mid}
use Rattle.hll_sketch.specs.Laws.{add_in_turn}
use Rattle.hll_state.specs.Counter.{sketch_in}
use Rattle.hll_state.specs.Memory.{HasHeader}
use Rattle.hll_state.specs.declared.header.Header.{Header}
use Rattle.hll_state.proofs.States.{means, rest_borrowed, rest_written, written_header, grows}
use Rattle.hll_state.proofs.Rooms.{room_fewer}
use Rattle.hll_state.proofs.memory.add_in_place.Goals as goal

-- the header of the elements after the others were written
after : (e body : List (List ℕ)) (h : Header) → HasHeader e h → length body ≡ length (drop 10 e) → HasHeader (put_mid 10 (length e - 10) e body) h
after e body h has l = written_header e body h has (l ∙ length-drop 10 e)

pub returns-clause-added : goal.returns-clause-added
returns-clause-added c done =
    let e : List (List ℕ) = c.args.elements.now in
    let h : Header = c.args.header in
    let body : List (List ℕ) = c.push_in_place.new.body in
    let has : HasHeader e h = c.requires.header in
    let now : HasHeader (put_mid 10 (length e - 10) e body) h = after e body h has (c.push_in_place.auto.body ∙ ap length (rest_borrowed e)) in
    let is : sketch_in h (drop 10 (put_mid 10 (length e - 10) e body)) ≡ add_in_turn (sketch_in h (drop 10 e)) (c.args.raw ∷ []) =
    ap (sketch_in h) (rest_written e body has.there) ∙ c.push_in_place.ensures.added done ∙ ap (λ xs. add_in_turn (sketch_in h xs) (c.args.raw ∷ [])) (rest_borrowed e) in
    record { sketch = sketch_in h (drop 10 e); was = means e h has; is = record { state = record { header = h; has = now }; is = sym is } }

pub returns-clause-grows : goal.returns-clause-grows
returns-clause-grows c =
    let e : List (List ℕ) = c.args.elements.now in
    let h : Header = c.args.header in
    let body : List (List ℕ) = c.push_in_place.new.body in
    let has : HasHeader e h = c.requires.header in
    grows 1 e (put_mid 10 (length e - 10) e body) h h has (after e body h has (c.push_in_place.auto.body ∙ ap length (rest_borrowed e)))
    (record { widths = refl; takes = λ len. room_fewer h 0 1 len (omega arith) })
