-- SPDX-License-Identifier: Apache-2.0
use Rattle.std.proofs.lemmas.Bool.{true≢false}
use Rattle.std.proofs.Common.{ap, ◌∙◌, ◌≡◌, ℕ, List, length, refl, sym, subst, arith}
use Rattle.hll_sketch.specs.Laws.{add_in_turn}
use Rattle.hll_state.specs.Header.{IsWithin}
use Rattle.hll_state.specs.Memory.{is_open, IsReady, LacksRoom, GrowsBy}
use Rattle.hll_state.specs.declared.header.Header.{Header}
use Rattle.hll_state.proofs.States.{open_written, ready_within, ready_room, written_size, written_within, closed, closed_grows, enough_fits, grows_own, grows_more}
use Rattle.hll_c.specs.States.{TakesValues, AddsToState, added, no_room, not_added}
use Rattle.hll_c.proofs.Answers.{not_so}
use Rattle.hll_c.proofs.state.add.Goals as goal

-- the number of coupons is that of the list
ready_for : {m n : ℕ} {old new : List (List ℕ)} {h : Header} → m ≡ n → IsReady m old new h → IsReady n old new h
ready_for {old = old} {new = new} {h = h} is ready = subst (λ i. IsReady i old new h) is ready

lacks_for : {m n len : ℕ} {old new : List (List ℕ)} → m ≡ n → LacksRoom m old new len → LacksRoom n old new len
lacks_for {len = len} {old = old} {new = new} is lacks = subst (λ i. LacksRoom i old new len) is lacks

pub returns-then-is_open-clause-added : goal.returns-then-is_open-clause-added
returns-then-is_open-clause-added g c =
    subst (AddsToState (g.C.Coupons.are c.args.coupons.now × TakesValues c.args.state.now) (g.C.Coupons.raw_coupons c.args.coupons.now) c.args.state.now c.args.state.now c.args.size.now c.args.size.now) (sym c.number.ensures)
    (not_added (λ are. true≢false (sym c.if-is_open.true ∙ c.is_open.ensures ∙ are.0.1)) refl refl)

pub returns-then-not-are_valid-clause-added : goal.returns-then-not-are_valid-clause-added
returns-then-not-are_valid-clause-added g c =
    let Are = g.C.Coupons.are c.args.coupons.now in
    subst (AddsToState (Are × TakesValues c.args.state.now) (g.C.Coupons.raw_coupons c.args.coupons.now) c.args.state.now c.args.state.now c.args.size.now c.args.size.now) (sym c.number-then-not-are_valid.ensures)
    (not_added (λ are. not_so c.are_valid.result Are c.if-not-are_valid.true c.are_valid.ensures are.0.0) refl refl)

pub count-requires : goal.count-requires
count-requires g c = c.are_valid.ensures.0 c.if-not-are_valid.false

pub too_small-requires : goal.too_small-requires
too_small-requires g c = enough_fits c.begin.new.elements c.count.result c.in-NoRoom.len c.in-NoRoom.ensures.enough

pub push_each-requires-clause-are : goal.push_each-requires-clause-are
push_each-requires-clause-are g c = c.are_valid.ensures.0 c.if-not-are_valid.false

pub push_each-requires-clause-within : goal.push_each-requires-clause-within
push_each-requires-clause-within g c = ready_within c.count.result c.args.state.now c.begin.new.elements c.in-Room.header c.in-Room.ensures c.begin.auto.elements

pub push_each-requires-clause-room : goal.push_each-requires-clause-room
push_each-requires-clause-room g c =
    ready_room (length (g.C.Coupons.raw_coupons c.args.coupons.now)) c.args.state.now c.begin.new.elements c.in-Room.header (ready_for c.count.ensures c.in-Room.ensures) c.begin.auto.elements

pub close-requires-clause-there : goal.close-requires-clause-there
close-requires-clause-there g c =
    omega (arith, written_size c.count.result c.args.state.now c.begin.new.elements c.in-Room.header c.in-Room.ensures c.begin.auto.elements c.push_each.new.body c.push_each.auto.body, c.in-Room.ensures.there)

pub close-requires-clause-within : goal.close-requires-clause-within
close-requires-clause-within g c =
    subst (IsWithin c.push_each.new.header)
    (written_within c.count.result c.args.state.now c.begin.new.elements c.in-Room.header c.in-Room.ensures c.begin.auto.elements c.push_each.new.body c.push_each.auto.body)
    c.push_each.ensures.within

pub returns-in-NoState-clause-added : goal.returns-in-NoState-clause-added
returns-in-NoState-clause-added g c =
    subst (AddsToState (g.C.Coupons.are c.args.coupons.now × TakesValues c.args.state.now) (g.C.Coupons.raw_coupons c.args.coupons.now) c.args.state.now c.begin.new.elements c.args.size.now c.args.size.now) (sym c.number-in-NoState.ensures)
    (not_added (λ are. c.in-NoState.ensures.none are.1) c.in-NoState.ensures.same refl)

pub returns-in-NoRoom-clause-added : goal.returns-in-NoRoom-clause-added
returns-in-NoRoom-clause-added g c =
    let lacks = lacks_for {n = length (g.C.Coupons.raw_coupons c.args.coupons.now)} c.count.ensures c.in-NoRoom.ensures in
    subst (AddsToState (g.C.Coupons.are c.args.coupons.now × TakesValues c.args.state.now) (g.C.Coupons.raw_coupons c.args.coupons.now) c.args.state.now c.begin.new.elements c.args.size.now c.too_small.new.size) (sym c.too_small.ensures.code)
    (no_room (c.are_valid.ensures.0 c.if-not-are_valid.false, sym c.is_open.ensures ∙ c.if-is_open.false) lacks.kept lacks.lacks
    (record { len = c.in-NoRoom.len; bytes_are = c.too_small.ensures.size; enough = lacks.enough }))

pub returns-in-Room-clause-added : goal.returns-in-Room-clause-added
returns-in-Room-clause-added g c =
    let cs : List ℕ = g.C.Coupons.raw_coupons c.args.coupons.now in
    added (c.are_valid.ensures.0 c.if-not-are_valid.false, sym c.is_open.ensures ∙ c.if-is_open.false)
    (closed c.count.result c.args.state.now c.begin.new.elements c.in-Room.header c.in-Room.ensures c.begin.auto.elements (λ x. add_in_turn x cs)
    c.push_each.new.header c.push_each.new.body c.close.new.elements c.push_each.ensures.added c.close.ensures.header c.close.ensures.rest)
    refl

pub returns-then-is_open-clause-grows : goal.returns-then-is_open-clause-grows
returns-then-is_open-clause-grows g c = grows_own (length (g.C.Coupons.raw_coupons c.args.coupons.now)) c.args.state.now

pub returns-then-not-are_valid-clause-grows : goal.returns-then-not-are_valid-clause-grows
returns-then-not-are_valid-clause-grows g c = grows_own (length (g.C.Coupons.raw_coupons c.args.coupons.now)) c.args.state.now

pub returns-in-NoState-clause-grows : goal.returns-in-NoState-clause-grows
returns-in-NoState-clause-grows g c =
    let n : ℕ = length (g.C.Coupons.raw_coupons c.args.coupons.now) in
    subst (GrowsBy n c.args.state.now) (sym c.in-NoState.ensures.same) (grows_own n c.args.state.now)

pub returns-in-NoRoom-clause-grows : goal.returns-in-NoRoom-clause-grows
returns-in-NoRoom-clause-grows g c = grows_more (length (g.C.Coupons.raw_coupons c.args.coupons.now)) c.args.state.now c.begin.new.elements c.in-NoRoom.ensures.grows

pub returns-in-Room-clause-grows : goal.returns-in-Room-clause-grows
returns-in-Room-clause-grows g c =
    let n : ℕ = length (g.C.Coupons.raw_coupons c.args.coupons.now) in
    closed_grows n c.args.state.now c.begin.new.elements c.in-Room.header (ready_for c.count.ensures c.in-Room.ensures) c.begin.auto.elements c.push_each.new.header c.close.new.elements c.close.ensures.header
    c.push_each.ensures.grows.widths c.push_each.ensures.grows.takes

pub returns-in-NoState-clause-lg_k_open : goal.returns-in-NoState-clause-lg_k_open
returns-in-NoState-clause-lg_k_open g c = ap is_open c.in-NoState.ensures.same

pub returns-in-NoRoom-clause-lg_k_open : goal.returns-in-NoRoom-clause-lg_k_open
returns-in-NoRoom-clause-lg_k_open g c = c.in-NoRoom.ensures.lg_k_open

pub returns-in-Room-clause-lg_k_open : goal.returns-in-Room-clause-lg_k_open
returns-in-Room-clause-lg_k_open g c =
    c.close.ensures.lg_k_open ∙ open_written c.begin.new.elements c.push_each.new.body (omega (arith, c.begin.auto.elements, c.in-Room.ensures.there)) ∙ c.in-Room.ensures.lg_k_open
