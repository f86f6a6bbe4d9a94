-- SPDX-License-Identifier: Apache-2.0
use Rattle.std.proofs.Common.{◌≡◌, ℕ, ◌+◌, nat_eq, false, ◌&&◌, List, length, refl, sym, ap, ◌∙◌, arith}
use Rattle.std.specs.FinSet.{len}
use Rattle.std.proofs.lemmas.Bool.{ne_eqb}
use Rattle.hll_coupons.specs.Pair.{set_of}
use Rattle.hll_coupons.specs.Table.{coupons_in}
use Rattle.hll_sketch.specs.Laws.{add_in_turn}
use Rattle.hll_sketch.specs.Value.{Sketch, is_empty}
use Rattle.hll_sketch.proofs.Emptiness.{listed-none}
use Rattle.hll_sketch.proofs.Merges.{coupons_merged, other_empty, other_size}
use Rattle.hll_state.specs.Counter.{sketch_in}
use Rattle.hll_state.specs.Merged.{sketch_of_table}
use Rattle.hll_state.proofs.Rooms.{room_fewer}
use Rattle.hll_state.proofs.header.Header.merge_table.Goals as goal
use Rattle.hll_state.proofs.header.Header.merge_table.Goals.{else-self-lg_k-via-then-self-lg_k+else-is_empty, else-self-lg_k-via-else-self-lg_k}

pub returns-clause-merged : goal.returns-clause-merged
returns-clause-merged g c = λ not_zero _.
    let s : Sketch = sketch_in c.args.self.now c.args.body.now in
    let x : Sketch = sketch_of_table c.args.lg_k c.args.table.now in
    let order : List ℕ = coupons_in c.args.table.now.buckets in
    let some : is_empty x ≡ false = ne_eqb (len (set_of order)) 0 (λ none. omega (arith, ap length (listed-none order none), c.requires.some)) in
    let none : (is_empty s && nat_eq s.lg_k c.args.lg_k) ≡ false = elim c.else-self-lg_k.branch [
      | else-self-lg_k-via-then-self-lg_k+else-is_empty w ↦
          other_empty (is_empty s) s.lg_k c.args.lg_k (sym (w.is_empty.ensures.empty c.args.body.now c.requires.within not_zero) ∙ w.if-is_empty.false)
      | else-self-lg_k-via-else-self-lg_k w ↦ other_size (is_empty s) s.lg_k c.args.lg_k w.if-self-lg_k.false
    ] in
    coupons_merged s x (sketch_in c.push_table.new.self c.push_table.new.body) order c.args.table.now.lg_size none refl some
    (c.push_table.ensures.added ∙ ap (λ y. add_in_turn y order) c.make_room.ensures.same)

pub returns-then-is_empty-clause-none : goal.returns-then-is_empty-clause-none
returns-then-is_empty-clause-none g c = λ no has. c.take_table.ensures.none no (c.is_empty.ensures.room c.if-is_empty.true (length (coupons_in c.args.table.now.buckets)) (length c.args.body.now) has)

pub returns-then-is_empty-clause-takes : goal.returns-then-is_empty-clause-takes
returns-then-is_empty-clause-takes g c = λ done len has. c.take_table.ensures.takes done len (c.is_empty.ensures.room c.if-is_empty.true (length (coupons_in c.args.table.now.buckets)) len has)

pub returns-clause-takes : goal.returns-clause-takes
returns-clause-takes g c = λ done len has.
    let n : ℕ = length (coupons_in c.args.table.now.buckets) in
    c.push_table.ensures.room 0 len (room_fewer c.make_room.new.self (0 + n) n len (omega arith) (c.make_room.ensures.keeps n len has))
