-- SPDX-License-Identifier: Apache-2.0
use Rattle.std.proofs.Common.{arith, ◌+◌, ◌≤◌, ◌∷◌, [], All, ◌∙◌, sym, subst}
use Rattle.std.proofs.lemmas.List.{append-nil}
use Rattle.std.proofs.lemmas.List.Elements.{All-append}
use Rattle.hll_coupons.specs.AuxMap.{entries_in}
use Rattle.hll_coupons.proofs.Pairs.{IsEntryOf, entries_are, of_value}
use Rattle.hll_coupons.proofs.Putting.{last_of_all}
use Rattle.hll_coupons.proofs.Yielded.{given}
use Rattle.hll_registers.proofs.FourBits.{All-one}
use Rattle.hll_registers.proofs.exception_map.are_all_above.Goals as goal

pub loop-value-init : goal.loop-value-init
loop-value-init g c i d l = absurd (omega (arith, l))

pub returns-then-value-minimum-clause-some : goal.returns-then-value-minimum-clause-some
returns-then-value-minimum-clause-some g c e =
    let parts = given _ _ _ _ _ (c.into_iter-value-iterator.ensures.into_iter_gives ∙ c.iter-value-items.ensures) c.loop-value.yielded_by c.in-Some.ensures.steps in
    let entry : IsEntryOf c.args.map.now (c.in-Some.field-0-0, c.in-Some.value) = last_of_all (IsEntryOf c.args.map.now) (entries_in c.args.map.now) _ _ _ parts (entries_are c.args.map.now c.requires.map) in
    (c.in-Some.field-0-0, c.in-Some.value, entry.value, c.if-value-minimum.true)

pub loop-value-preserved : goal.loop-value-preserved
loop-value-preserved g c = All-append (λ p. c.args.minimum + 15 ≤ p.1) c.loop-value.yielded (_ ∷ []) c.loop-value.invariant (All-one (λ p. c.args.minimum + 15 ≤ p.1) _ c.if-value-minimum.false)

pub returns-clause-all : goal.returns-clause-all
returns-clause-all g c e s v is =
    let whole = given _ _ _ _ _ (c.into_iter-value-iterator.ensures.into_iter_gives ∙ c.iter-value-items.ensures) c.loop-value.yielded_by c.in-None.ensures.steps.0 ∙ append-nil c.loop-value.yielded in
    of_value c.args.map.now c.requires.map (λ p. c.args.minimum + 15 ≤ p.1) (subst (All (λ p. c.args.minimum + 15 ≤ p.1)) (sym whole) c.loop-value.invariant) s v is
