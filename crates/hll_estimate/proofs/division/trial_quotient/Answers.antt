-- SPDX-License-Identifier: Apache-2.0
use Rattle.std.proofs.Common.{◌≡◌, ◌*◌, ◌%◌, ◌<◌, ◌≤◌, ◌^◌, ℕ, ◌-◌, arith}
use Rattle.std.proofs.Math.Nat.{mod-eq_of_lt}
use Rattle.hll_estimate.proofs.LongDivision.{high_fits, digit_up, digit_down, at_most}
use Rattle.hll_estimate.proofs.division.trial_quotient.Goals as goal

pub overflow_cast-high-2 : goal.overflow_cast-high-2
overflow_cast-high-2 c =
    record { fits = high_fits c.args.dividend c.args.dividend c.saturating_sub-dropped.result 64 64 c.ranges.dividend.fits (omega arith) (omega arith) c.saturating_sub-dropped.ensures }

pub overflow_cast-divisor_high-2 : goal.overflow_cast-divisor_high-2
overflow_cast-divisor_high-2 c =
    let small = high_fits c.args.divisor (c.args.divisor - 1) c.saturating_sub-divisor_dropped.result 96 32 c.ranges.divisor.fits (omega arith) (omega arith) c.saturating_sub-divisor_dropped.ensures in
    record { fits = omega (arith, small) }

pub overflow_add-divisor_high : goal.overflow_add-divisor_high
overflow_add-divisor_high c =
    let small = high_fits c.args.divisor (c.args.divisor - 1) c.saturating_sub-divisor_dropped.result 96 32 c.ranges.divisor.fits (omega arith) (omega arith) c.saturating_sub-divisor_dropped.ensures in
    record { fits = omega (arith, small) }

-- no bit is lost when the digit is shifted up
whole : (s d n : ℕ) → 0 < d → s * d ≤ n → n < 2 ^ 128 → s % 2 ^ 128 ≡ s
whole s d n some le small = let most = at_most s d n some le in let lt : s < 2 ^ 128 = omega (arith, most, small) in mod-eq_of_lt lt

pub returns-then-divisor_dropped-dropped : goal.returns-then-divisor_dropped-dropped
returns-then-divisor_dropped-dropped c =
    let most = digit_up c.args.dividend c.args.divisor c.saturating_sub-dropped.result c.saturating_sub-divisor_dropped.result c.requires c.if-divisor_dropped-dropped.true in
    let w = whole _ c.args.divisor c.args.dividend c.requires most c.ranges.dividend.fits in
    rw (c.from-digit.ensures, w) most

pub returns-else-divisor_dropped-dropped : goal.returns-else-divisor_dropped-dropped
returns-else-divisor_dropped-dropped c =
    rw c.from-digit.ensures (digit_down c.args.dividend c.args.divisor c.saturating_sub-dropped.result c.saturating_sub-divisor_dropped.result c.requires c.if-divisor_dropped-dropped.false)
