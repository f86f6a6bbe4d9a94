-- SPDX-License-Identifier: Apache-2.0
use Rattle.std.proofs.Common.{◌≡◌, nat_eq, false, length, sym, ap, subst, ◌∙◌}
use Rattle.hll_sketch.specs.BorrowedImage.{sketch_of_borrowed}
use Rattle.hll_sketch.specs.Value.{Sketch, is_empty}
use Rattle.hll_state.specs.Counter.{sketch_in}
use Rattle.hll_state.specs.Header.{HasRoom}
use Rattle.hll_state.proofs.MergedImages.{merged_as, room_as, some_length}
use Rattle.hll_state.proofs.header.Header.merge_image.Goals as goal

pub merge_coupons-requires-clause-some : goal.merge_coupons-requires-clause-some
merge_coupons-requires-clause-some g c =
    let t = c.in-Coupons.coupons in
    let some : nat_eq (length t.elements.now) 0 ≡ false = ap (λ n. nat_eq n 0) (sym t.once) ∙ ap (λ b. is_empty (sketch_of_borrowed b)) (sym c.in-Coupons.is) ∙ c.requires.some in
    some_length (length t.elements.now) some

pub merge_sketch-requires-clause-some : goal.merge_sketch-requires-clause-some
merge_sketch-requires-clause-some g c = ap (λ b. is_empty (sketch_of_borrowed b)) (sym c.in-Table.is) ∙ c.requires.some

pub returns-in-Coupons-clause-merged : goal.returns-in-Coupons-clause-merged
returns-in-Coupons-clause-merged g c = λ some t.
    let s : Sketch = sketch_in c.args.self.now c.args.body.now in
    let is = ap sketch_of_borrowed (sym c.in-Coupons.is) in
    merged_as c.args.self.now.lg_k s _ _ (sketch_of_borrowed c.args.image.now) is c.requires.some (c.merge_coupons.ensures.merged some t)

pub returns-in-Coupons-clause-none : goal.returns-in-Coupons-clause-none
returns-in-Coupons-clause-none g c = λ no has.
    let is = ap sketch_of_borrowed (sym c.in-Coupons.is) in
    c.merge_coupons.ensures.none no (subst (λ n. HasRoom c.args.self.now n (length c.args.body.now)) c.in-Coupons.coupons.once
    (room_as c.args.self.now _ (sketch_of_borrowed c.args.image.now) (length c.args.body.now) is c.requires.some has))

pub returns-in-Table-clause-merged : goal.returns-in-Table-clause-merged
returns-in-Table-clause-merged g c = λ some t.
    let s : Sketch = sketch_in c.args.self.now c.args.body.now in
    let is = ap sketch_of_borrowed (sym c.in-Table.is) in
    merged_as c.args.self.now.lg_k s _ _ (sketch_of_borrowed c.args.image.now) is c.requires.some (c.merge_sketch.ensures.merged some t)

pub returns-in-Table-clause-none : goal.returns-in-Table-clause-none
returns-in-Table-clause-none g c = λ no has.
    let is = ap sketch_of_borrowed (sym c.in-Table.is) in
    c.merge_sketch.ensures.none no (room_as c.args.self.now _ (sketch_of_borrowed c.args.image.now) (length c.args.body.now) is c.requires.some has)

pub returns-in-Nibbles-clause-merged : goal.returns-in-Nibbles-clause-merged
returns-in-Nibbles-clause-merged g c = λ some t.
    let s : Sketch = sketch_in c.args.self.now c.args.body.now in
    let is = ap sketch_of_borrowed (sym c.in-Nibbles.is) in
    merged_as c.args.self.now.lg_k s _ _ (sketch_of_borrowed c.args.image.now) is c.requires.some (c.merge_registers.ensures.merged some t)

pub returns-in-Nibbles-clause-none : goal.returns-in-Nibbles-clause-none
returns-in-Nibbles-clause-none g c = λ no has.
    let is = ap sketch_of_borrowed (sym c.in-Nibbles.is) in
    c.merge_registers.ensures.none no (room_as c.args.self.now _ (sketch_of_borrowed c.args.image.now) (length c.args.body.now) is c.requires.some has)

pub returns-in-Groups-clause-merged : goal.returns-in-Groups-clause-merged
returns-in-Groups-clause-merged g c = λ some t.
    let s : Sketch = sketch_in c.args.self.now c.args.body.now in
    let is = ap sketch_of_borrowed (sym c.in-Groups.is) in
    merged_as c.args.self.now.lg_k s _ _ (sketch_of_borrowed c.args.image.now) is c.requires.some (c.merge_registers-in-Groups.ensures.merged some t)

pub returns-in-Groups-clause-none : goal.returns-in-Groups-clause-none
returns-in-Groups-clause-none g c = λ no has.
    let is = ap sketch_of_borrowed (sym c.in-Groups.is) in
    c.merge_registers-in-Groups.ensures.none no (room_as c.args.self.now _ (sketch_of_borrowed c.args.image.now) (length c.args.body.now) is c.requires.some has)

pub returns-in-Bytes-clause-merged : goal.returns-in-Bytes-clause-merged
returns-in-Bytes-clause-merged g c = λ some t.
    let s : Sketch = sketch_in c.args.self.now c.args.body.now in
    let is = ap sketch_of_borrowed (sym c.in-Bytes.is) in
    merged_as c.args.self.now.lg_k s _ _ (sketch_of_borrowed c.args.image.now) is c.requires.some (c.merge_bytes.ensures.merged some t)

pub returns-in-Bytes-clause-none : goal.returns-in-Bytes-clause-none
returns-in-Bytes-clause-none g c = λ no has.
    let is = ap sketch_of_borrowed (sym c.in-Bytes.is) in
    c.merge_bytes.ensures.none no (room_as c.args.self.now _ (sketch_of_borrowed c.args.image.now) (length c.args.body.now) is c.requires.some has)

pub returns-in-Coupons-clause-takes : goal.returns-in-Coupons-clause-takes
returns-in-Coupons-clause-takes g c = λ done len has.
    let is = ap sketch_of_borrowed (sym c.in-Coupons.is) in
    c.merge_coupons.ensures.takes done len (subst (λ n. HasRoom c.args.self.now n len) c.in-Coupons.coupons.once
    (room_as c.args.self.now _ (sketch_of_borrowed c.args.image.now) len is c.requires.some has))

pub returns-in-Table-clause-takes : goal.returns-in-Table-clause-takes
returns-in-Table-clause-takes g c = λ done len has.
    let is = ap sketch_of_borrowed (sym c.in-Table.is) in
    c.merge_sketch.ensures.takes done len (room_as c.args.self.now _ (sketch_of_borrowed c.args.image.now) len is c.requires.some has)

pub returns-in-Nibbles-clause-takes : goal.returns-in-Nibbles-clause-takes
returns-in-Nibbles-clause-takes g c = λ done len has.
    let is = ap sketch_of_borrowed (sym c.in-Nibbles.is) in
    c.merge_registers.ensures.takes done len (room_as c.args.self.now _ (sketch_of_borrowed c.args.image.now) len is c.requires.some has)

pub returns-in-Groups-clause-takes : goal.returns-in-Groups-clause-takes
returns-in-Groups-clause-takes g c = λ done len has.
    let is = ap sketch_of_borrowed (sym c.in-Groups.is) in
    c.merge_registers-in-Groups.ensures.takes done len (room_as c.args.self.now _ (sketch_of_borrowed c.args.image.now) len is c.requires.some has)

pub returns-in-Bytes-clause-takes : goal.returns-in-Bytes-clause-takes
returns-in-Bytes-clause-takes g c = λ done len has.
    let is = ap sketch_of_borrowed (sym c.in-Bytes.is) in
    c.merge_bytes.ensures.takes done len (room_as c.args.self.now _ (sketch_of_borrowed c.args.image.now) len is c.requires.some has)
