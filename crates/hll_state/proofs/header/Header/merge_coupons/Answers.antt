-- SPDX-License-Identifier: Apache-2.0
use Rattle.std.proofs.Common.{◌≡◌, ℕ, ◌+◌, nat_eq, false, ◌&&◌, List, length, refl, sym, ap, ◌∙◌, arith}
use Rattle.std.specs.FinSet.{len}
use Rattle.std.proofs.lemmas.Bool.{ne_eqb}
use Rattle.hll_coupons.specs.Pair.{set_of}
use Rattle.hll_sketch.specs.Laws.{add_in_turn}
use Rattle.hll_sketch.specs.Value.{Sketch, is_empty}
use Rattle.hll_sketch.proofs.Emptiness.{listed-none}
use Rattle.hll_sketch.proofs.Merges.{coupons_merged, other_empty, other_size}
use Rattle.hll_state.specs.Counter.{sketch_in}
use Rattle.hll_state.specs.CouponRun.{raws}
use Rattle.hll_state.specs.Merged.{table_of}
use Rattle.hll_state.proofs.Raws.{length-raws}
use Rattle.hll_state.proofs.Rooms.{room_fewer}
use Rattle.hll_state.proofs.header.Header.merge_coupons.Goals as goal
use Rattle.hll_state.proofs.header.Header.merge_coupons.Goals.{else-self-lg_k-via-then-self-lg_k+else-is_empty, else-self-lg_k-via-else-self-lg_k}

pub returns-clause-merged : goal.returns-clause-merged
returns-clause-merged c = λ not_zero _.
    let g : Sketch = sketch_in c.args.self.now c.args.body.now in
    let x : Sketch = table_of c.args.lg_k c.args.lg_size c.args.coupons.now in
    let order : List ℕ = raws c.args.coupons.now in
    let some : is_empty x ≡ false = ne_eqb (len (set_of order)) 0 (λ none. omega (arith, ap length (listed-none order none), length-raws c.args.coupons.now, c.requires.some)) in
    let none : (is_empty g && nat_eq g.lg_k c.args.lg_k) ≡ false = elim c.else-self-lg_k.branch [
      | else-self-lg_k-via-then-self-lg_k+else-is_empty w ↦
          other_empty (is_empty g) g.lg_k c.args.lg_k (sym (w.is_empty.ensures.empty c.args.body.now c.requires.within not_zero) ∙ w.if-is_empty.false)
      | else-self-lg_k-via-else-self-lg_k w ↦ other_size (is_empty g) g.lg_k c.args.lg_k w.if-self-lg_k.false
    ] in
    coupons_merged g x (sketch_in c.push_all.new.self c.push_all.new.body) order c.args.lg_size none refl some
    (c.push_all.ensures.added ∙ ap (λ y. add_in_turn y order) c.make_room.ensures.same)

pub returns-then-is_empty-clause-none : goal.returns-then-is_empty-clause-none
returns-then-is_empty-clause-none c = λ no has. c.take_coupons.ensures.none no (c.is_empty.ensures.room c.if-is_empty.true (length c.args.coupons.now) (length c.args.body.now) has)

pub returns-then-is_empty-clause-takes : goal.returns-then-is_empty-clause-takes
returns-then-is_empty-clause-takes c = λ done len has. c.take_coupons.ensures.takes done len (c.is_empty.ensures.room c.if-is_empty.true (length c.args.coupons.now) len has)

pub returns-clause-takes : goal.returns-clause-takes
returns-clause-takes c = λ done len has.
    let n : ℕ = length c.args.coupons.now in
    c.push_all.ensures.room 0 len (room_fewer c.make_room.new.self (0 + n) n len (omega arith) (c.make_room.ensures.keeps n len has))
