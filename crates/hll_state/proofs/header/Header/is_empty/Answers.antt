-- SPDX-License-Identifier: Apache-2.0
use Rattle.std.proofs.Common.{◌≡◌, ◌+◌, ◌≤◌, length, nat_eq, sym, ap, subst, ◌∙◌, arith}
use Rattle.std.specs.FinSet.{len}
use Rattle.std.proofs.lemmas.Bool.{eqb-true, true≢false}
use Rattle.hll_sketch.specs.Value.{in_registers, pairs_in}
use Rattle.hll_state.specs.Counter.{content_of}
use Rattle.hll_state.specs.Header.{elements_for, IsHeldWithin, HasRoomFor}
use Rattle.hll_state.proofs.Emptiness.{none_in_use, same_without}
use Rattle.hll_state.proofs.header.Header.is_empty.Goals as goal

pub returns-in-Coupons-clause-empty : goal.returns-in-Coupons-clause-empty
returns-in-Coupons-clause-empty c = λ body within some.
    let h = c.args.self.now in
    none_in_use h.lg_k c.in-Coupons.coupons body (subst (λ held. IsHeldWithin h.lg_k held (length body)) c.in-Coupons.is within.held)
    (λ t. ap (λ held. nat_eq (len (pairs_in (content_of h.lg_k held body))) 0) (sym c.in-Coupons.is) ∙ some (ap (λ held. in_registers (content_of h.lg_k held body)) c.in-Coupons.is ∙ t))
    ∙ ap (λ held. nat_eq (len (pairs_in (content_of h.lg_k held body))) 0) (sym c.in-Coupons.is)

pub returns-in-Registers-clause-empty : goal.returns-in-Registers-clause-empty
returns-in-Registers-clause-empty c = λ body within some. sym (some (ap (λ held. in_registers (content_of c.args.self.now.lg_k held body)) c.in-Registers.is))

pub returns-in-Coupons-clause-room : goal.returns-in-Coupons-clause-room
returns-in-Coupons-clause-room c = λ none n room has.
    let h = c.args.self.now in
    let sum : c.in-Coupons.coupons.run.used + n ≡ n = omega (arith, eqb-true c.in-Coupons.coupons.run.used 0 none) in
    subst (λ m. elements_for h.lg_k m ≤ room) sum (subst (λ held. HasRoomFor h.lg_k held n room) c.in-Coupons.is has)

pub returns-in-Registers-clause-room : goal.returns-in-Registers-clause-room
returns-in-Registers-clause-room c = λ none n room has. absurd (true≢false (sym none))

pub returns-in-Coupons-clause-none : goal.returns-in-Coupons-clause-none
returns-in-Coupons-clause-none c = λ none old new. same_without c.args.self.now c.in-Coupons.coupons old new c.in-Coupons.is (eqb-true c.in-Coupons.coupons.run.used 0 none)

pub returns-in-Registers-clause-none : goal.returns-in-Registers-clause-none
returns-in-Registers-clause-none c = λ none old new. absurd (true≢false (sym none))
