-- SPDX-License-Identifier: Apache-2.0
use Rattle.std.proofs.Common.{◌≤◌, ℕ, List, length, take, drop, subst, sym, refl, arith}
use Rattle.std.specs.Int.{w32, from_le_bytes}
use Rattle.std.specs.List.Sorted.{IsStrictlyIncreasing}
use Rattle.std.proofs.lemmas.List.{take-map}
use Rattle.hll_coupons.specs.Coupons.{IsAscending}
use Rattle.hll_coupons.specs.Pair.{set_of}
use Rattle.hll_state.specs.CouponRun.{raws}
use Rattle.hll_state.proofs.Raws.{take-raws_append}
use Rattle.hll_state.proofs.settle.settle.Goals as goal

pub returns-then-not-ascends-clause-ascending : goal.returns-then-not-ascends-clause-ascending
returns-then-not-ascends-clause-ascending c =
    let used : ℕ = c.args.used in
    let coupons : List (List ℕ) = c.args.coupons.now in
    let n : ℕ = c.sort_all.result in
    let new : List (List ℕ) = c.sort_all.new.coupons in
    let within : n ≤ length new = omega (arith, c.sort_all.ensures.within, c.sort_all.auto.coupons) in
    subst (λ ys. IsAscending ys (set_of (take used (raws coupons)))) (sym (take-raws_append n new (drop used coupons) within))
    (subst (λ ys. IsAscending (take n (raws new)) (set_of ys)) (sym (take-map (from_le_bytes w32) used coupons)) c.sort_all.ensures.ascending)

pub returns-then-run-used-clause-ascending : goal.returns-then-run-used-clause-ascending
returns-then-run-used-clause-ascending c =
    let coupons : List (List ℕ) = c.args.coupons.now in
    let up : IsStrictlyIncreasing (take c.args.run (raws coupons)) = subst IsStrictlyIncreasing (sym (take-map (from_le_bytes w32) c.args.run coupons)) (c.ascends.ensures.0 c.if-not-ascends.false) in
    record { increasing = subst (λ n. IsStrictlyIncreasing (take n (raws coupons))) c.if-run-used.true up; members = refl }

pub settle_tail-requires-clause-ascends : goal.settle_tail-requires-clause-ascends
settle_tail-requires-clause-ascends c =
    subst IsStrictlyIncreasing (sym (take-map (from_le_bytes w32) c.args.run c.args.coupons.now)) (c.ascends.ensures.0 c.if-not-ascends.false)
