-- SPDX-License-Identifier: Apache-2.0
use Rattle.std.proofs.Common.{◌≡◌, ℕ, ◌+◌, ◌-◌, ◌*◌, ◌%◌, ◌^◌, ◌≤◌, ◌∙◌, arith}
use Rattle.std.proofs.Math.Nat.{mul-le-mul_right}
use Rattle.std.proofs.Math.Pow.{pow_mono}
use Rattle.std.proofs.lemmas.Nat.{pow-add, shl_whole}
use Rattle.hll_estimate.proofs.Sums.{rho_none, rho_next, rho_ends, one_more}
use Rattle.hll_estimate.proofs.series.rho.Goals as goal

pub loop-j-preserved : goal.loop-j-preserved
loop-j-preserved c =
    let j : ℕ = c.loop-j.j in
    let y : ℕ = c.loop-j.power in
    let shifted : (y * 2 ^ j) % 2 ^ 128 ≡ y * 2 ^ j = shl_whole y 96 j 128 c.loop-j.invariant.0 (omega arith) in
    let twice : 2 ^ (j + 1) ≡ 2 * 2 ^ j = pow-add 2 j 1 ∙ (let e : 2 ^ j * 2 ^ 1 ≡ 2 * 2 ^ j = omega arith in e) in
    let below : y * 2 ^ j ≤ 2 ^ 96 * 2 ^ j = mul-le-mul_right (2 ^ j) (omega (arith, c.loop-j.invariant.0)) in
    let sum = one_more c.loop-j.sum (2 ^ j) y _ _ _ c.loop-j.invariant.1 (rho_next c.args.terms j y c.loop-j-test.true) in
    rw (shifted, twice, c.square-power.ensures.value) (rw c.square-power.ensures.value at c.square-power.ensures.small, sum, omega (arith, below, c.loop-j.invariant.2))

pub returns-clause-value : goal.returns-clause-value
returns-clause-value c =
    let none = rho_none c.args.terms c.loop-j.j c.loop-j.power c.loop-j-test.false in
    let whole = rw none at c.loop-j.invariant.1 in
    (let e : c.loop-j.sum ≡ c.loop-j.sum + 2 ^ c.loop-j.j * 0 = omega arith in e) ∙ whole

pub returns-clause-small : goal.returns-clause-small
returns-clause-small c =
    let p : 2 ^ c.loop-j.j ≤ 2 ^ 28 = pow_mono (let most : c.loop-j.j ≤ 28 = omega (arith, c.requires.terms, c.loop-j.auto.j-end) in most) in
    omega (arith, c.loop-j.invariant.2, p)

pub returns-then-power-eq0-clause-value : goal.returns-then-power-eq0-clause-value
returns-then-power-eq0-clause-value c =
    rho_ends (c.args.terms - c.loop-j.j) c.loop-j.sum (2 ^ c.loop-j.j) c.loop-j.power _ c.if-power-eq0.true c.loop-j.invariant.1

pub returns-then-power-eq0-clause-small : goal.returns-then-power-eq0-clause-small
returns-then-power-eq0-clause-small c =
    let p : 2 ^ c.loop-j.j ≤ 2 ^ 28 = pow_mono (let most : c.loop-j.j ≤ 28 = omega (arith, c.requires.terms, c.loop-j-test.true) in most) in
    omega (arith, c.loop-j.invariant.2, p)
