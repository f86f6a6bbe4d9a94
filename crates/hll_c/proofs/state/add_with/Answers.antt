-- SPDX-License-Identifier: Apache-2.0
use Rattle.std.proofs.Common.{ℕ, List, [], ◌∷◌, refl, sym, subst, ◌∙◌, arith}
use Rattle.hll_sketch.specs.Laws.{add_in_turn}
use Rattle.hll_state.specs.Header.{IsWithin}
use Rattle.hll_state.specs.Memory.{GrowsBy}
use Rattle.hll_state.proofs.States.{open_written, ready_within, ready_room, written_size, written_within, closed, closed_grows, grows_more, enough_fits}
use Rattle.hll_c.specs.States.{AddsToState, added, no_room}
use Rattle.hll_c.proofs.state.add_with.Goals as goal

pub returns-then-add_in_place-clause-added : goal.returns-then-add_in_place-clause-added
returns-then-add_in_place-clause-added c = added tt (c.add_in_place.ensures.added c.if-add_in_place.true) refl

pub too_small-requires : goal.too_small-requires
too_small-requires c = enough_fits c.begin_with.new.elements 1 c.in-Err.len c.in-Err.ensures.err.enough

pub push_higher-requires-clause-within : goal.push_higher-requires-clause-within
push_higher-requires-clause-within c = ready_within 1 c.add_in_place.new.elements c.begin_with.new.elements c.in-Ok.header c.in-Ok.ensures.ok c.begin_with.auto.elements

pub push_higher-requires-clause-room : goal.push_higher-requires-clause-room
push_higher-requires-clause-room c = ready_room 1 c.add_in_place.new.elements c.begin_with.new.elements c.in-Ok.header c.in-Ok.ensures.ok c.begin_with.auto.elements

pub close-requires-clause-there : goal.close-requires-clause-there
close-requires-clause-there c =
    omega (arith, written_size 1 c.add_in_place.new.elements c.begin_with.new.elements c.in-Ok.header c.in-Ok.ensures.ok c.begin_with.auto.elements c.push_higher.new.body c.push_higher.auto.body, c.in-Ok.ensures.ok.there)

pub close-requires-clause-within : goal.close-requires-clause-within
close-requires-clause-within c =
    subst (IsWithin c.push_higher.new.self)
    (written_within 1 c.add_in_place.new.elements c.begin_with.new.elements c.in-Ok.header c.in-Ok.ensures.ok c.begin_with.auto.elements c.push_higher.new.body c.push_higher.auto.body) c.push_higher.ensures.within

pub returns-in-Err-clause-added : goal.returns-in-Err-clause-added
returns-in-Err-clause-added c =
    let lacks = c.in-Err.ensures.err in
    subst (AddsToState (Unit {0}) (c.args.raw ∷ []) c.args.state.now c.begin_with.new.elements c.args.size.now c.too_small.new.size) (sym c.too_small.ensures.code)
    (subst (λ (e : List (List ℕ)). AddsToState (Unit {0}) (c.args.raw ∷ []) e c.begin_with.new.elements c.args.size.now c.too_small.new.size 14) (c.add_in_place.ensures.none c.if-add_in_place.false)
    (no_room tt lacks.kept lacks.lacks (record { len = c.in-Err.len; bytes_are = c.too_small.ensures.size; enough = lacks.enough })))

pub returns-in-Ok-clause-added : goal.returns-in-Ok-clause-added
returns-in-Ok-clause-added c =
    subst (λ (e : List (List ℕ)). AddsToState (Unit {0}) (c.args.raw ∷ []) e c.close.new.elements c.args.size.now c.args.size.now 0) (c.add_in_place.ensures.none c.if-add_in_place.false)
    (added tt
    (closed 1 c.add_in_place.new.elements c.begin_with.new.elements c.in-Ok.header c.in-Ok.ensures.ok c.begin_with.auto.elements (λ x. add_in_turn x (c.args.raw ∷ []))
    c.push_higher.new.self c.push_higher.new.body c.close.new.elements c.push_higher.ensures.added c.close.ensures.header c.close.ensures.rest)
    refl)

pub returns-in-Err-clause-grows : goal.returns-in-Err-clause-grows
returns-in-Err-clause-grows c = subst (λ (e : List (List ℕ)). GrowsBy 1 e c.begin_with.new.elements) (c.add_in_place.ensures.none c.if-add_in_place.false) (grows_more 1 c.add_in_place.new.elements c.begin_with.new.elements c.in-Err.ensures.err.grows)

pub returns-in-Ok-clause-grows : goal.returns-in-Ok-clause-grows
returns-in-Ok-clause-grows c =
    subst (λ (e : List (List ℕ)). GrowsBy 1 e c.close.new.elements) (c.add_in_place.ensures.none c.if-add_in_place.false)
    (closed_grows 1 c.add_in_place.new.elements c.begin_with.new.elements c.in-Ok.header c.in-Ok.ensures.ok c.begin_with.auto.elements c.push_higher.new.self c.close.new.elements c.close.ensures.header
    c.push_higher.ensures.widths (c.push_higher.ensures.room 0))

pub returns-in-Err-clause-lg_k_open : goal.returns-in-Err-clause-lg_k_open
returns-in-Err-clause-lg_k_open c = c.in-Err.ensures.err.lg_k_open ∙ c.add_in_place.ensures.lg_k_open

pub returns-in-Ok-clause-lg_k_open : goal.returns-in-Ok-clause-lg_k_open
returns-in-Ok-clause-lg_k_open c =
    c.close.ensures.lg_k_open ∙ open_written c.begin_with.new.elements c.push_higher.new.body (omega (arith, c.begin_with.auto.elements, c.in-Ok.ensures.ok.there)) ∙ c.in-Ok.ensures.ok.lg_k_open
    ∙ c.add_in_place.ensures.lg_k_open
