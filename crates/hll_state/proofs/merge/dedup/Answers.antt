-- SPDX-License-Identifier: Apache-2.0
use Rattle.std.proofs.Common.{◌≡◌, ℕ, List, ◌+◌, ◌<◌, length, set, not, nat_eq, rules, arith, sym, ap, subst, ◌∙◌}
use mir.Val.{bool_byte}
use Rattle.hll_state.specs.CouponRun.{raws}
use Rattle.hll_state.proofs.Raws.{length-raws}
use Rattle.hll_state.proofs.Distinct.{Once, once_first, once_more, once_all}
use Rattle.hll_state.proofs.merge.dedup.Goals as goal

pub loop-i-init : goal.loop-i-init
loop-i-init c =
    let some : 0 < length c.args.coupons.now = search rules in
    once_first (raws c.args.coupons.now) (omega (arith, length-raws c.args.coupons.now, some))

pub loop-i-preserved : goal.loop-i-preserved
loop-i-preserved c =
    let all : List ℕ = raws c.args.coupons.now in
    let now : List ℕ = raws c.loop-i.coupons in
    let last : ℕ = c.loop-i.last in
    let d : ℕ = c.from-last.result in
    let same : length now ≡ length all = omega (arith, length-raws c.args.coupons.now, length-raws c.loop-i.coupons, c.loop-i.auto.coupons) in
    let more = once_more all now last c.loop-i.i c.requires same c.loop-i.invariant (omega (arith, c.loop-i-test.true, length-raws c.args.coupons.now)) d
    (c.from-last.ensures ∙ (λ j. bool_byte (not (nat_eq (c.get.ensures j) (c.get-raw.ensures j))))) in
    subst (λ ys. Once all ys (last + d) (c.loop-i.i + 1)) (sym (c.set.ensures ∙ ap (set now (last + d)) c.get-raw.ensures)) more

pub returns-clause-ascending : goal.returns-clause-ascending
returns-clause-ascending c =
    once_all (raws c.args.coupons.now) (raws c.loop-i.coupons) c.loop-i.last c.loop-i.i c.loop-i.invariant (omega (arith, length-raws c.args.coupons.now, c.loop-i-test.false))
