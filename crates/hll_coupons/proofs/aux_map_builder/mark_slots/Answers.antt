-- SPDX-License-Identifier: Apache-2.0
use Rattle.std.proofs.Common.{◌∙◌, arith, sym, subst}
use Rattle.std.proofs.lemmas.List.{append-nil}
use Rattle.hll_coupons.specs.AuxMap.{entries_in}
use Rattle.hll_coupons.proofs.Marks.{MarkedSoFar, marked_none, marked_more, marked_whole}
use Rattle.hll_coupons.proofs.Pairs.{IsEntryOf, entries_are}
use Rattle.hll_coupons.proofs.Putting.{last_of_all}
use Rattle.hll_coupons.proofs.Yielded.{given}
use Rattle.hll_coupons.proofs.aux_map_builder.mark_slots.Goals as goal

pub loop-slot-init : goal.loop-slot-init
loop-slot-init g c = marked_none c.args.map.now c.args.blocks.now c.requires.room c.requires.none

pub set-requires : goal.set-requires
set-requires g c =
    let parts = given _ _ _ _ _ (c.into_iter-slot-iterator.ensures.into_iter_gives ∙ c.iter-slot-items.ensures) c.loop-slot.yielded_by c.in-Some.ensures.steps in
    let entry : IsEntryOf c.args.map.now (c.in-Some.slot, c.in-Some.field-0-1) = last_of_all (IsEntryOf c.args.map.now) (entries_in c.args.map.now) _ _ _ parts (entries_are c.args.map.now c.requires.map) in
    omega (arith, entry.slot, c.loop-slot.invariant.room)

pub loop-slot-preserved : goal.loop-slot-preserved
loop-slot-preserved g c =
    let parts = given _ _ _ _ _ (c.into_iter-slot-iterator.ensures.into_iter_gives ∙ c.iter-slot-items.ensures) c.loop-slot.yielded_by c.in-Some.ensures.steps in
    let entry : IsEntryOf c.args.map.now (c.in-Some.slot, c.in-Some.field-0-1) = last_of_all (IsEntryOf c.args.map.now) (entries_in c.args.map.now) _ _ _ parts (entries_are c.args.map.now c.requires.map) in
    marked_more c.args.map.now c.loop-slot.blocks c.set.new.blocks c.loop-slot.yielded c.in-Some.slot c.in-Some.field-0-1 c.loop-slot.invariant entry c.set.auto.blocks c.set.ensures.same c.set.ensures.others

pub returns : goal.returns
returns g c =
    let whole = given _ _ _ _ _ (c.into_iter-slot-iterator.ensures.into_iter_gives ∙ c.iter-slot-items.ensures) c.loop-slot.yielded_by c.in-None.ensures.steps.0 ∙ append-nil c.loop-slot.yielded in
    marked_whole c.args.map.now c.loop-slot.blocks c.requires.map (subst (MarkedSoFar c.args.map.now c.loop-slot.blocks) (sym whole) c.loop-slot.invariant)
