-- SPDX-License-Identifier: Apache-2.0
use Rattle.std.proofs.Common.{arith, ◌∷◌, [], All, Some, ◌∙◌, sym, subst}
use Rattle.std.proofs.lemmas.List.{append-nil}
use Rattle.std.proofs.lemmas.List.Elements.{All-append}
use Rattle.hll_coupons.specs.AuxMap.{entries_in}
use Rattle.hll_coupons.proofs.Pairs.{IsEntryOf, entries_are, of_value}
use Rattle.hll_coupons.proofs.Putting.{last_of_all}
use Rattle.hll_coupons.proofs.Yielded.{given}
use Rattle.hll_kernels.specs.Packed.{nibble_at}
use Rattle.hll_registers.specs.Payload.{Agrees}
use Rattle.hll_registers.proofs.FourBits.{All-one}
use Rattle.hll_registers.proofs.agreement.are_marked.Goals as goal
use Rattle.hll_registers.proofs.agreement.are_marked.Goals.{then-value-minimum-via-then-value-minimum, then-value-minimum-via-else-value-minimum+then-nibble_of-ne-MARK}

pub loop-slot-init : goal.loop-slot-init
loop-slot-init g c i d l = absurd (omega (arith, l))

pub nibble_of-requires : goal.nibble_of-requires
nibble_of-requires g c =
    let parts = given _ _ _ _ _ (c.into_iter-slot-iterator.ensures.into_iter_gives ∙ c.iter-slot-items.ensures) c.loop-slot.yielded_by c.in-Some.ensures.steps in
    let entry : IsEntryOf c.args.map.now (c.in-Some.slot, c.in-Some.value) = last_of_all (IsEntryOf c.args.map.now) (entries_in c.args.map.now) _ _ _ parts (entries_are c.args.map.now c.requires.map) in
    omega (arith, entry.slot, c.requires.size)

pub returns-then-value-minimum-clause-some : goal.returns-then-value-minimum-clause-some
returns-then-value-minimum-clause-some g c e =
    let parts = given _ _ _ _ _ (c.into_iter-slot-iterator.ensures.into_iter_gives ∙ c.iter-slot-items.ensures) c.loop-slot.yielded_by c.in-Some.ensures.steps in
    let entry : IsEntryOf c.args.map.now (c.in-Some.slot, c.in-Some.value) = last_of_all (IsEntryOf c.args.map.now) (entries_in c.args.map.now) _ _ _ parts (entries_are c.args.map.now c.requires.map) in (
      c.in-Some.slot,
      c.in-Some.value,
      entry.slot,
      entry.value,
      λ a. elim c.then-value-minimum.branch [
        | then-value-minimum-via-then-value-minimum w ↦ omega (arith, a.1, w.if-value-minimum.true)
        | then-value-minimum-via-else-value-minimum+then-nibble_of-ne-MARK w ↦ w.if-nibble_of-ne-MARK.true (w.nibble_of.ensures.nibble ∙ a.0)
      ],
    )

pub loop-slot-preserved : goal.loop-slot-preserved
loop-slot-preserved g c =
    All-append (λ p. Agrees c.args.minimum (nibble_at c.args.nibbles.now p.0) (Some p.1)) c.loop-slot.yielded (_ ∷ []) c.loop-slot.invariant
    (All-one (λ p. Agrees c.args.minimum (nibble_at c.args.nibbles.now p.0) (Some p.1)) _ (sym c.nibble_of.ensures.nibble ∙ c.if-nibble_of-ne-MARK.false, c.if-value-minimum.false))

pub returns-clause-all : goal.returns-clause-all
returns-clause-all g c e s v is =
    let whole = given _ _ _ _ _ (c.into_iter-slot-iterator.ensures.into_iter_gives ∙ c.iter-slot-items.ensures) c.loop-slot.yielded_by c.in-None.ensures.steps.0 ∙ append-nil c.loop-slot.yielded in
    of_value c.args.map.now c.requires.map (λ p. Agrees c.args.minimum (nibble_at c.args.nibbles.now p.0) (Some p.1)) (subst (All (λ p. Agrees c.args.minimum (nibble_at c.args.nibbles.now p.0) (Some p.1))) (sym whole) c.loop-slot.invariant) s v is
