-- SPDX-License-Identifier: Apache-2.0
use Rattle.std.proofs.Common.{ℕ, List, [], ◌∷◌, refl, sym, subst, ◌∙◌}
use Rattle.std.proofs.lemmas.Bool.{true≢false}
use Rattle.hll_state.specs.Memory.{IsState}
use Rattle.hll_c.specs.States.{TakesValues, AddsToState, added, no_room, not_added}
use Rattle.hll_c.proofs.state.add_raw.Goals as goal
use Rattle.hll_c.proofs.state.add_raw.Goals.{in_default-via-in-Some+else-not-is_open, in_default-via-in_default}

-- coupons are added in a range of arguments if they are whatever the arguments are
in_range : (InRange : Type 0) (cs : List ℕ) (old new : List (List ℕ)) (size_old size_new code : ℕ) → InRange → AddsToState (Unit {0}) cs old new size_old size_new code → AddsToState InRange cs old new size_old size_new code
in_range InRange cs old new size_old size_new code range (added u of sizes) = added range of sizes
in_range InRange cs old new size_old size_new code range (no_room u of lacks enough) = no_room range of lacks enough
in_range InRange cs old new size_old size_new code range (not_added none same sizes) = not_added (λ both. none (tt, both.1)) same sizes

pub returns-in_default-clause-added : goal.returns-in_default-clause-added
returns-in_default-clause-added c =
    let none : TakesValues c.args.state.now × IsState c.args.state.now → ⊥ = elim c.in_default.branch [
      | in_default-via-in-Some+else-not-is_open w ↦ λ both. true≢false (sym w.if-not-is_open.false ∙ w.is_open.ensures ∙ both.0)
      | in_default-via-in_default w ↦ λ both. w.in_default.ensures.none both.1
    ] in
    subst (AddsToState (TakesValues c.args.state.now) (c.args.raw ∷ []) c.args.state.now c.args.state.now c.args.size.now c.args.size.now) (sym c.number.ensures) (not_added none refl refl)

pub returns-in-Some-clause-added : goal.returns-in-Some-clause-added
returns-in-Some-clause-added c =
    in_range (TakesValues c.args.state.now) (c.args.raw ∷ []) c.args.state.now c.add_with.new.state c.args.size.now c.add_with.new.size c.add_with.result (sym c.is_open.ensures ∙ c.if-not-is_open.true) c.add_with.ensures.added
