-- SPDX-License-Identifier: Apache-2.0
use Rattle.std.proofs.Common.{arith, All, ◌∙◌, sym, subst}
use Rattle.std.proofs.lemmas.List.{append-nil}
use Rattle.hll_coupons.specs.AuxMap.{entries_in}
use Rattle.hll_coupons.proofs.Pairs.{IsEntryOf, entries_are}
use Rattle.hll_coupons.proofs.Putting.{last_of_all}
use Rattle.hll_coupons.proofs.Yielded.{given}
use Rattle.hll_registers.proofs.FourBits.{FallenSoFar, fallen_none, fallen_more, fallen_less, fallen_whole}
use Rattle.hll_registers.proofs.exception_map.put_fallen_entries.Goals as goal

pub loop-slot-init : goal.loop-slot-init
loop-slot-init g c = record { fallen = fallen_none c.args.map.now c.args.minimum c.args.bytes.now; fits = λ h. h }

pub overflow_sub-value : goal.overflow_sub-value
overflow_sub-value g c =
    let parts = given _ _ _ _ _ (c.into_iter-slot-iterator.ensures.into_iter_gives ∙ c.iter-slot-items.ensures) c.loop-slot.yielded_by c.in-Some.ensures.steps in
    let entry : IsEntryOf c.args.map.now (c.in-Some.slot, c.in-Some.value) = last_of_all (IsEntryOf c.args.map.now) (entries_in c.args.map.now) _ _ _ parts (entries_are c.args.map.now c.requires.map) in
    c.requires.above c.in-Some.slot c.in-Some.value entry.value

pub put_nibble-requires-clause-within : goal.put_nibble-requires-clause-within
put_nibble-requires-clause-within g c =
    let parts = given _ _ _ _ _ (c.into_iter-slot-iterator.ensures.into_iter_gives ∙ c.iter-slot-items.ensures) c.loop-slot.yielded_by c.in-Some.ensures.steps in
    let entry : IsEntryOf c.args.map.now (c.in-Some.slot, c.in-Some.value) = last_of_all (IsEntryOf c.args.map.now) (entries_in c.args.map.now) _ _ _ parts (entries_are c.args.map.now c.requires.map) in
    omega (arith, entry.slot, c.requires.size, c.loop-slot.auto.bytes)

pub loop-slot-preserved-then-value-minimum : goal.loop-slot-preserved-then-value-minimum
loop-slot-preserved-then-value-minimum g c =
    let parts = given _ _ _ _ _ (c.into_iter-slot-iterator.ensures.into_iter_gives ∙ c.iter-slot-items.ensures) c.loop-slot.yielded_by c.in-Some.ensures.steps in
    let all = subst (All (IsEntryOf c.args.map.now)) parts (entries_are c.args.map.now c.requires.map) in
    record {
      fallen = fallen_more c.args.map.now c.args.minimum c.args.bytes.now c.loop-slot.bytes c.put_nibble.new.bytes c.loop-slot.yielded c.next.new.self c.in-Some.slot c.in-Some.value c.loop-slot.invariant.fallen all c.if-value-minimum.true c.put_nibble.ensures.nibbles;
      fits = λ h. c.put_nibble.ensures.fits (c.loop-slot.invariant.fits h);
    }

pub loop-slot-preserved : goal.loop-slot-preserved
loop-slot-preserved g c = record {
  fallen = fallen_less c.args.map.now c.args.minimum c.args.bytes.now c.loop-slot.bytes c.loop-slot.yielded c.in-Some.slot c.in-Some.value c.loop-slot.invariant.fallen c.if-value-minimum.false;
  fits = c.loop-slot.invariant.fits;
}

pub returns-clause-nibbles : goal.returns-clause-nibbles
returns-clause-nibbles g c s =
    let whole = given _ _ _ _ _ (c.into_iter-slot-iterator.ensures.into_iter_gives ∙ c.iter-slot-items.ensures) c.loop-slot.yielded_by c.in-None.ensures.steps.0 ∙ append-nil c.loop-slot.yielded in
    fallen_whole c.args.map.now c.args.minimum c.args.bytes.now c.loop-slot.bytes c.requires.map (subst (FallenSoFar c.args.map.now c.args.minimum c.args.bytes.now c.loop-slot.bytes) (sym whole) c.loop-slot.invariant.fallen) s
