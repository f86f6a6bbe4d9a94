-- SPDX-License-Identifier: Apache-2.0
use Rattle.std.proofs.Common.{◌≡◌, ◌*◌, ◌+◌, ◌-◌, ℕ, List, [], ◌∷◌, ◌++◌, length, sym, ap, subst, ◌∙◌, arith, inl, inr}
use Rattle.std.specs.Prelude.{max, slice_index, slice_set, unwrap_or}
use Rattle.std.proofs.lemmas.Bool.{cases_lt}
use Rattle.std.proofs.lemmas.List.{append-nil}
use Rattle.hll_coupons.specs.AuxMap.{entries_in, value_in}
use Rattle.hll_coupons.proofs.Pairs.{IsEntryOf, entries_are}
use Rattle.hll_coupons.proofs.Putting.{last_of_all}
use Rattle.hll_coupons.proofs.Yielded.{given}
use Rattle.hll_registers.proofs.RaisedEntries.{RaisedSoFar, raised_none, raised_less, raised_more, raised_whole}
use Rattle.hll_state.specs.Registers.{values}
use Rattle.hll_state.proofs.Values.{length-values}
use Rattle.hll_state.proofs.registers.raise_entries.Goals as goal

pub loop-slot-init : goal.loop-slot-init
loop-slot-init c t map is = raised_none t 0 (values c.args.elements.now)

pub loop-slot-preserved : goal.loop-slot-preserved
loop-slot-preserved c t map is =
    let V : List ℕ = values c.args.elements.now in
    let now : List ℕ = values c.loop-slot.elements in
    let slot : ℕ = c.in-Some.slot in
    let value : ℕ = c.in-Some.value in
    let parts = given _ _ _ _ _ is c.loop-slot.yielded_by c.in-Some.ensures.steps in
    let entry : IsEntryOf t (slot, value) = last_of_all (IsEntryOf t) (entries_in t) _ _ _ parts (entries_are t map) in
    let so = c.loop-slot.invariant t map is in
    let size : length now ≡ 4 * length c.loop-slot.elements = omega (arith, so.size, length-values c.args.elements.now c.told-elements, c.loop-slot.auto.elements) in
    let whole : slot - 0 ≡ slot = omega arith in
    elim (cases_lt slot (4 * length c.loop-slot.elements)) [
      | inl inside ↦
          subst (λ W. RaisedSoFar t 0 V W (c.loop-slot.yielded ++ (slot, value) ∷ []))
          (sym (c.raise_slot.ensures.inside inside ∙ (λ i. slice_set now (sym whole i) (max (slice_index now (sym whole i)) value))))
          (raised_more t 0 V now c.loop-slot.yielded slot value so entry (omega arith) (omega (arith, inside, size)))
      | inr outside ↦
          subst (λ W. RaisedSoFar t 0 V W (c.loop-slot.yielded ++ (slot, value) ∷ []))
          (sym (ap values (c.raise_slot.ensures.outside outside)))
          (raised_less t 0 V now c.loop-slot.yielded slot value so (λ from to. omega (arith, to, outside, size)))
    ]

pub returns : goal.returns
returns c = record {
  raised = λ t map is s l.
      let given_is : c.into_iter-slot-iterator.result ≡ entries_in t = c.into_iter-slot-iterator.ensures.into_iter_gives ∙ is in
      let whole = given _ _ _ _ _ given_is c.loop-slot.yielded_by c.in-None.ensures.steps.0 ∙ append-nil c.loop-slot.yielded in
      let zero_plus : 0 + s ≡ s = omega arith in
      raised_whole t 0 (values c.args.elements.now) (values c.loop-slot.elements) map
      (subst (RaisedSoFar t 0 (values c.args.elements.now) (values c.loop-slot.elements)) (sym whole) (c.loop-slot.invariant t map given_is))
      s (omega (arith, l, length-values c.args.elements.now c.told-elements))
      ∙ ap (λ n. max (slice_index (values c.args.elements.now) s) (unwrap_or (value_in t n) 0)) zero_plus;
  len = λ t map is. (c.loop-slot.invariant t map (c.into_iter-slot-iterator.ensures.into_iter_gives ∙ is)).size;
}
