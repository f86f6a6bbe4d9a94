-- SPDX-License-Identifier: Apache-2.0
use Rattle.std.proofs.Common.{◌-◌, ◌∷◌, ◌++◌, [], ◌∙◌, sym, subst, arith}
use Rattle.std.specs.Prelude.{slice_set}
use Rattle.std.proofs.lemmas.List.{append-nil}
use Rattle.hll_coupons.specs.AuxMap.{entries_in}
use Rattle.hll_coupons.proofs.Pairs.{IsEntryOf, entries_are}
use Rattle.hll_coupons.proofs.Putting.{last_of_all}
use Rattle.hll_coupons.proofs.Yielded.{given}
use Rattle.hll_registers.proofs.RaisedEntries.{RaisedSoFar, raised_none, raised_less, raised_more, raised_whole}
use Rattle.hll_registers.proofs.exception_maxima.max_with_entries.Goals as goal

pub loop-slot-init : goal.loop-slot-init
loop-slot-init g c = raised_none c.args.map.now c.args.first c.args.values.now

pub loop-slot-preserved-then-slot-first : goal.loop-slot-preserved-then-slot-first
loop-slot-preserved-then-slot-first g c =
    raised_less c.args.map.now c.args.first c.args.values.now c.loop-slot.values c.loop-slot.yielded c.in-Some.slot c.in-Some.value c.loop-slot.invariant (λ from to. omega (arith, from, c.if-slot-first.true))

pub loop-slot-preserved-then-index-values : goal.loop-slot-preserved-then-index-values
loop-slot-preserved-then-index-values g c =
    let parts = given _ _ _ _ _ (c.into_iter-slot-iterator.ensures.into_iter_gives ∙ c.iter-slot-items.ensures) c.loop-slot.yielded_by c.in-Some.ensures.steps in
    let entry : IsEntryOf c.args.map.now (c.in-Some.slot, c.in-Some.value) = last_of_all (IsEntryOf c.args.map.now) (entries_in c.args.map.now) _ _ _ parts (entries_are c.args.map.now c.requires.map) in
    subst (λ n. RaisedSoFar c.args.map.now c.args.first c.args.values.now (slice_set c.loop-slot.values (c.in-Some.slot - c.args.first) n) (c.loop-slot.yielded ++ (c.in-Some.slot, c.in-Some.value) ∷ [])) (sym c.max.ensures)
    (raised_more c.args.map.now c.args.first c.args.values.now c.loop-slot.values c.loop-slot.yielded c.in-Some.slot c.in-Some.value c.loop-slot.invariant entry c.if-slot-first.false c.if-index-values.true)

pub loop-slot-preserved : goal.loop-slot-preserved
loop-slot-preserved g c =
    raised_less c.args.map.now c.args.first c.args.values.now c.loop-slot.values c.loop-slot.yielded c.in-Some.slot c.in-Some.value c.loop-slot.invariant (λ from to. omega (arith, from, to, c.if-index-values.false))

pub returns-clause-raised : goal.returns-clause-raised
returns-clause-raised g c =
    let whole = given _ _ _ _ _ (c.into_iter-slot-iterator.ensures.into_iter_gives ∙ c.iter-slot-items.ensures) c.loop-slot.yielded_by c.in-None.ensures.steps.0 ∙ append-nil c.loop-slot.yielded in
    raised_whole c.args.map.now c.args.first c.args.values.now c.loop-slot.values c.requires.map (subst (RaisedSoFar c.args.map.now c.args.first c.args.values.now c.loop-slot.values) (sym whole) c.loop-slot.invariant)
