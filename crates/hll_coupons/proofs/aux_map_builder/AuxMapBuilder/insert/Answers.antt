-- SPDX-License-Identifier: Apache-2.0
use Rattle.std.proofs.Common.{◌≡◌, ◌∙◌, ap, sym, subst, refl, eqb, Some, length}
use Rattle.std.specs.Prelude.{IfSome}
use Rattle.std.proofs.lemmas.Bool.{cond-true, cond-false, eq-eqb, ne_eqb}
use Rattle.std.proofs.lemmas.List.{with_items_is}
use Rattle.hll_coupons.specs.AuxMap.{ExceptionMap, MarksValues, value_in}
use Rattle.hll_coupons.specs.LongSearches.{AreFor}
use Rattle.hll_coupons.specs.Blocks.{bit_of}
use Rattle.hll_coupons.proofs.Marks.{marks_more}
use Rattle.hll_coupons.proofs.aux_map_builder.AuxMapBuilder.insert.Goals as goal
use Rattle.hll_coupons.proofs.aux_map_builder.AuxMapBuilder.insert.Goals.{in-Some, in_default}

pub invariant_of-self-2 : goal.invariant_of-self-2
invariant_of-self-2 g c = elim c.match-self.branch [
  | in-Some w ↦
      let old : ExceptionMap = c.self.inside.map in
      let new : ExceptionMap = c.insert_by.new.self in
      let values = c.in_ok-insert_by.ensures.values in
      let was : MarksValues old w.in-Some.blocks.items = subst (λ o. IfSome o (λ blocks. MarksValues old blocks.items)) w.in-Some.is c.self.invariant.1 in
      let is : w.deref_mut.result.now ≡ w.in-Some.blocks.items = w.deref_mut.ensures.value in
      let marks : MarksValues new w.set.new.blocks = marks_more old new w.in-Some.blocks.items w.set.new.blocks c.args.slot c.args.value was c.in_ok-insert_by.ensures.lg_k
      (w.set.auto.blocks ∙ ap length is) w.set.ensures.same (λ j other. w.set.ensures.others j other ∙ ap (λ ws. bit_of ws j) is)
      (values c.args.slot ∙ cond-true (eqb c.args.slot c.args.slot) (Some c.args.value) (value_in old c.args.slot) (eq-eqb c.args.slot c.args.slot refl))
      (λ j other. values j ∙ cond-false (eqb j c.args.slot) (Some c.args.value) (value_in old j) (ne_eqb j c.args.slot other)) in
      subst (λ b. AreFor b.map.table.lg_size b.map.table.buckets b.searches × IfSome b.marks (λ blocks. MarksValues b.map blocks.items)) (sym w.self-inside-is)
      (c.insert_by.ensures.cycles, subst (MarksValues new) (sym (with_items_is w.in-Some.blocks w.set.new.blocks (w.set.auto.blocks ∙ w.deref_mut.ensures.len))) marks)
  | in_default w ↦
      subst (λ b. AreFor b.map.table.lg_size b.map.table.buckets b.searches × IfSome b.marks (λ blocks. MarksValues b.map blocks.items)) (sym w.self-inside-is)
      (c.insert_by.ensures.cycles, subst (λ o. IfSome o (λ blocks. MarksValues c.insert_by.new.self blocks.items)) (sym w.in_default.is) tt)
]
