-- SPDX-License-Identifier: Apache-2.0
use Rattle.std.proofs.Common.{◌≡◌, ◌+◌, ◌≤◌, true, not, length, None, sym, ap, ◌∙◌, arith}
use Rattle.std.specs.FinSet.{len}
use Rattle.std.specs.Option.{is_some}
use Rattle.std.proofs.lemmas.Bool.{true≢false}
use Rattle.hll_coupons.specs.Fold.{fold_to}
use Rattle.hll_coupons.specs.Pair.{Pairs}
use Rattle.hll_registers.specs.State.{cleared_state}
use Rattle.hll_sketch.specs.Stage.{stage}
use Rattle.hll_sketch.specs.Value.{registers}
use Rattle.hll_state.specs.CouponRun.{members}
use Rattle.hll_state.specs.Header.{elements_for}
use Rattle.hll_state.proofs.Rooms.{elements_mono, promotes_within, some_below, none_of}
use Rattle.hll_state.proofs.Settled.{used_count}
use Rattle.hll_state.proofs.Tables.{needed_in_registers}
use Rattle.hll_state.proofs.header.CouponTable.resolved.Goals as goal
use Rattle.hll_state.proofs.header.CouponTable.resolved.Goals.{else-self-via-then-self+else-is_none, else-self-via-else-self}

pub promote-requires-clause-room : goal.promote-requires-clause-room
promote-requires-clause-room c =
    let within = c.requires.within in
    let none : stage c.args.lg_k c.args.self.lg_size c.settle.new.self.used ≡ None = sym c.stage.ensures ∙ none_of c.stage.result c.if-is_none.ensures in
    omega (arith, promotes_within c.args.lg_k c.args.self.lg_size c.settle.new.self.used c.args.self.run.used (length c.args.body.now) within.size c.settle.ensures.fewer within.used within.there none, c.settle.auto.coupons)

pub returns-then-is_none-clause-within : goal.returns-then-is_none-clause-within
returns-then-is_none-clause-within c =
    let within = c.requires.within in
    let none : stage c.args.lg_k c.args.self.lg_size c.settle.new.self.used ≡ None = sym c.stage.ensures ∙ none_of c.stage.result c.if-is_none.ensures in
    omega (arith, promotes_within c.args.lg_k c.args.self.lg_size c.settle.new.self.used c.args.self.run.used (length c.args.body.now) within.size c.settle.ensures.fewer within.used within.there none)

pub returns-then-is_none-clause-room : goal.returns-then-is_none-clause-room
returns-then-is_none-clause-room c = λ n room enough.
    let within = c.requires.within in
    let there : elements_for c.args.lg_k c.args.self.run.used ≤ room = omega (arith, enough, elements_mono c.args.lg_k c.args.self.run.used (c.args.self.run.used + n) (omega arith)) in
    let none : stage c.args.lg_k c.args.self.lg_size c.settle.new.self.used ≡ None = sym c.stage.ensures ∙ none_of c.stage.result c.if-is_none.ensures in
    omega (arith, promotes_within c.args.lg_k c.args.self.lg_size c.settle.new.self.used c.args.self.run.used room within.size c.settle.ensures.fewer within.used there none)

pub returns-then-is_none-clause-same : goal.returns-then-is_none-clause-same
returns-then-is_none-clause-same c =
    let S : Pairs = members c.args.self.run c.args.body.now in
    let none : stage c.args.lg_k c.args.self.lg_size c.settle.new.self.used ≡ None = sym c.stage.ensures ∙ none_of c.stage.result c.if-is_none.ensures in
    let count : c.settle.new.self.used ≡ len S = used_count c.settle.new.self.used c.settle.new.coupons S c.settle.ensures.run.used c.settle.ensures.ascending in
    ap (λ R. registers R cleared_state) (c.promote.ensures.folded ∙ ap (λ T. fold_to T c.args.lg_k) c.settle.ensures.members)
    ∙ sym (needed_in_registers c.args.lg_k c.args.self S c.if-self.true (ap (stage c.args.lg_k c.args.self.lg_size) (sym count) ∙ none))

pub returns-clause-left : goal.returns-clause-left
returns-clause-left c = elim c.else-self.branch [
  | else-self-via-then-self+else-is_none w ↦ λ added.
      let some : is_some w.stage.result ≡ true = w.is_none.ensures ∙ ap not w.if-is_none.false in
      some_below c.args.lg_k c.args.self.lg_size c.settle.new.self.used (ap is_some (sym w.stage.ensures) ∙ some)
  | else-self-via-else-self w ↦ λ added. absurd (true≢false (sym added ∙ w.if-self.false))
]
