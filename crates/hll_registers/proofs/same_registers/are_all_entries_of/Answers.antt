-- SPDX-License-Identifier: Apache-2.0
use Rattle.std.proofs.Common.{◌≡◌, ◌∷◌, [], ◌<◌, ◌^◌, All, Some, ◌∙◌, sym, subst}
use Rattle.std.proofs.lemmas.List.{append-nil}
use Rattle.std.proofs.lemmas.List.Elements.{All-append}
use Rattle.hll_coupons.specs.AuxMap.{entries_in, value_in}
use Rattle.hll_coupons.proofs.Pairs.{IsEntryOf, entries_are, of_value}
use Rattle.hll_coupons.proofs.Putting.{last_of_all}
use Rattle.hll_coupons.proofs.Yielded.{given}
use Rattle.hll_registers.proofs.FourBits.{All-one}
use Rattle.hll_registers.proofs.SameRegisters.{same_value, other_value}
use Rattle.hll_registers.proofs.same_registers.are_all_entries_of.Goals as goal

pub get_bounded-requires : goal.get_bounded-requires
get_bounded-requires g c =
    let parts = given _ _ _ _ _ (c.into_iter-slot-iterator.ensures.into_iter_gives ∙ c.iter-slot-items.ensures) c.loop-slot.yielded_by c.in-Some.ensures.steps in
    let entry : IsEntryOf c.args.entries.now (c.in-Some.slot, c.in-Some.value) = last_of_all (IsEntryOf c.args.entries.now) (entries_in c.args.entries.now) _ _ _ parts (entries_are c.args.entries.now c.requires.entries) in
    subst (λ k. c.in-Some.slot < 2 ^ k) (sym c.requires.lg_k) entry.slot

pub returns-then-ne-clause-some : goal.returns-then-ne-clause-some
returns-then-ne-clause-some g c e =
    let parts = given _ _ _ _ _ (c.into_iter-slot-iterator.ensures.into_iter_gives ∙ c.iter-slot-items.ensures) c.loop-slot.yielded_by c.in-Some.ensures.steps in
    let entry : IsEntryOf c.args.entries.now (c.in-Some.slot, c.in-Some.value) = last_of_all (IsEntryOf c.args.entries.now) (entries_in c.args.entries.now) _ _ _ parts (entries_are c.args.entries.now c.requires.entries) in (
      c.in-Some.slot,
      c.in-Some.value,
      subst (λ k. c.in-Some.slot < 2 ^ k) (sym c.requires.lg_k) entry.slot,
      entry.value,
      λ a. other_value _ c.in-Some.value c.ne.result c.ne.ensures c.if-ne.true (c.in_ok-get_bounded.ensures.value ∙ a),
    )

pub loop-slot-preserved : goal.loop-slot-preserved
loop-slot-preserved g c =
    All-append (λ p. value_in c.args.map.now p.0 ≡ Some p.1) c.loop-slot.yielded (_ ∷ []) c.loop-slot.invariant
    (All-one (λ p. value_in c.args.map.now p.0 ≡ Some p.1) _ (sym c.in_ok-get_bounded.ensures.value ∙ same_value _ c.in-Some.value c.ne.result c.ne.ensures c.if-ne.false))

pub returns-clause-all : goal.returns-clause-all
returns-clause-all g c e s v is =
    let whole = given _ _ _ _ _ (c.into_iter-slot-iterator.ensures.into_iter_gives ∙ c.iter-slot-items.ensures) c.loop-slot.yielded_by c.in-None.ensures.steps.0 ∙ append-nil c.loop-slot.yielded in
    of_value c.args.entries.now c.requires.entries (λ p. value_in c.args.map.now p.0 ≡ Some p.1) (subst (All (λ p. value_in c.args.map.now p.0 ≡ Some p.1)) (sym whole) c.loop-slot.invariant) s v is
