-- SPDX-License-Identifier: Apache-2.0
use Rattle.std.proofs.Common.{◌-◌, ◌^◌, ◌≤◌, length, take, drop, sym, ap, subst, ◌∙◌, arith}
use Rattle.std.proofs.Math.Pow.{pow_mono}
use Rattle.std.proofs.lemmas.List.{length-take-le, take-append-le}
use Rattle.hll_coupons.specs.Fold.{fold_to, pairs}
use Rattle.hll_sketch.specs.Value.{pairs_in}
use Rattle.hll_state.specs.Counter.{content_of, IsHeldResolved}
use Rattle.hll_state.specs.Header.{IsHeldWithin}
use Rattle.hll_state.specs.Merged.{used_in}
use Rattle.hll_state.specs.Registers.{values}
use Rattle.hll_state.proofs.Emptiness.{pairs_of-resolved}
use Rattle.hll_state.proofs.header.Header.make_registers.Goals as goal

pub returns-then-body-two_to-clause-none : goal.returns-then-body-two_to-clause-none
returns-then-body-two_to-clause-none c _ enough = omega (arith, c.if-body-two_to.true, c.two_to.ensures, ap used_in c.in-Coupons.is, enough)

pub returns-else-body-two_to-clause-made : goal.returns-else-body-two_to-clause-made
returns-else-body-two_to-clause-made c _ =
    let h = c.args.self.now in
    let body = c.args.body.now in
    c.promote.ensures.folded
    ∙ ap (λ P. fold_to P c.args.lg_k) (sym (pairs_of-resolved h.lg_k c.in-Coupons.coupons body (subst (λ held. IsHeldWithin h.lg_k held (length body)) c.in-Coupons.is c.requires.within.held)
    (subst (λ held. IsHeldResolved h.lg_k held body) c.in-Coupons.is c.requires.resolved) h.held c.in-Coupons.is))

pub returns-in-Registers-clause-made : goal.returns-in-Registers-clause-made
returns-in-Registers-clause-made c _ =
    let h = c.args.self.now in
    let body = c.args.body.now in
    let new = c.fold.new.elements in
    let n = c.two_to-in-Registers.result in
    let there : 2 ^ (h.lg_k - 2) ≤ length body = subst (λ held. IsHeldWithin h.lg_k held (length body)) c.in-Registers.is c.requires.within.held in
    let less : 2 ^ (c.args.lg_k - 2) ≤ 2 ^ (h.lg_k - 2) = pow_mono {i = c.args.lg_k - 2} {j = h.lg_k - 2} (omega (arith, c.requires.most)) in
    let long : 2 ^ (c.args.lg_k - 2) ≤ length new = omega (arith, c.fold.auto.elements, length-take-le n body (omega (arith, there, c.two_to-in-Registers.ensures)), c.two_to-in-Registers.ensures, less) in
    ap values (take-append-le (2 ^ (c.args.lg_k - 2)) new (drop n body) long) ∙ c.fold.ensures
    ∙ ap (λ m. fold_to (pairs (values (take m body))) c.args.lg_k) c.two_to-in-Registers.ensures
    ∙ ap (λ held. fold_to (pairs_in (content_of h.lg_k held body)) c.args.lg_k) (sym c.in-Registers.is)

pub returns-in-Registers-clause-room : goal.returns-in-Registers-clause-room
returns-in-Registers-clause-room c _ =
    let h = c.args.self.now in
    let body = c.args.body.now in
    let there : 2 ^ (h.lg_k - 2) ≤ length body = subst (λ held. IsHeldWithin h.lg_k held (length body)) c.in-Registers.is c.requires.within.held in
    let less : 2 ^ (c.args.lg_k - 2) ≤ 2 ^ (h.lg_k - 2) = pow_mono {i = c.args.lg_k - 2} {j = h.lg_k - 2} (omega (arith, c.requires.most)) in
    omega (arith, there, less)
