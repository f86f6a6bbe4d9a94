-- SPDX-License-Identifier: Apache-2.0
use Rattle.std.proofs.Common.{◌≡◌, ℕ, ◌+◌, ◌-◌, ◌*◌, ◌%◌, ◌^◌, ◌<◌, ◌≤◌, subst, arith}
use Rattle.hll_estimate.proofs.LongDivision.{shift_of, aligned, part_fits, IsLeft, taken, not_taken, quotient_fits, next_quotient_fits, quotient_is, remainder_is}
use Rattle.hll_estimate.proofs.division.divide_by_bits.Goals as goal
use Rattle.hll_estimate.proofs.division.divide_by_bits.Goals.{then-part-remainder, else-part-remainder}

-- the steps to go
to_go : (n d s i q r : ℕ) → i < s + 1 → IsLeft n d (s + 1 - i) q r → IsLeft n d (s - i + 1) q r
to_go n d s i q r lt a = let e : s + 1 - i ≡ s - i + 1 = omega arith in subst (λ j. IsLeft n d j q r) e a

one_less : (n d s i q r : ℕ) → IsLeft n d (s - i) q r → IsLeft n d (s + 1 - (i + 1)) q r
one_less n d s i q r a = let e : s - i ≡ s + 1 - (i + 1) = omega arith in subst (λ j. IsLeft n d j q r) e a

at_end : (n d s i q r : ℕ) → s + 1 ≤ i → IsLeft n d (s + 1 - i) q r → IsLeft n d 0 q r
at_end n d s i q r le a = let e : s + 1 - i ≡ 0 = omega arith in subst (λ j. IsLeft n d j q r) e a

-- the part as it is computed
part : (n d i : ℕ) → 0 < d → d ≤ n → n < 2 ^ 128 → (d * 2 ^ (shift_of n d - i)) % 2 ^ 128 ≡ d * 2 ^ (shift_of n d - i)
part n d i some le small = part_fits n d (shift_of n d - i) (aligned n d some le small) (omega arith)

pub overflow_sub-shift : goal.overflow_sub-shift
overflow_sub-shift c = (aligned c.args.dividend c.args.divisor c.requires c.if-dividend-divisor.false c.ranges.dividend.fits).order

pub loop-step-init : goal.loop-step-init
loop-step-init c =
    let a = aligned c.args.dividend c.args.divisor c.requires c.if-dividend-divisor.false c.ranges.dividend.fits in
    let s : ℕ = shift_of c.args.dividend c.args.divisor in
    let e : s + 1 ≡ s + 1 - 0 = omega arith in
    subst (λ j. IsLeft c.args.dividend c.args.divisor j 0 c.args.dividend) e (a.above, omega arith)

pub overflow_mul-quotient : goal.overflow_mul-quotient
overflow_mul-quotient c =
    let s : ℕ = shift_of c.args.dividend c.args.divisor in
    let a = to_go c.args.dividend c.args.divisor s c.loop-step.step c.loop-step.quotient c.loop-step.remainder c.loop-step-test.true c.loop-step.invariant in
    let le = quotient_fits c.args.dividend c.args.divisor (s - c.loop-step.step) c.loop-step.quotient c.loop-step.remainder c.requires a in
    record { fits = omega (arith, le, c.ranges.dividend.fits) }

pub overflow_add-quotient : goal.overflow_add-quotient
overflow_add-quotient c =
    let s : ℕ = shift_of c.args.dividend c.args.divisor in
    let p = part c.args.dividend c.args.divisor c.loop-step.step c.requires c.if-dividend-divisor.false c.ranges.dividend.fits in
    let a = to_go c.args.dividend c.args.divisor s c.loop-step.step c.loop-step.quotient c.loop-step.remainder c.loop-step-test.true c.loop-step.invariant in
    let le = next_quotient_fits c.args.dividend c.args.divisor (s - c.loop-step.step) c.loop-step.quotient c.loop-step.remainder c.requires a (rw p at c.if-part-remainder.true) in
    record { fits = omega (arith, le, c.ranges.dividend.fits) }

pub loop-step-preserved : goal.loop-step-preserved
loop-step-preserved c =
    let s : ℕ = shift_of c.args.dividend c.args.divisor in
    let p = part c.args.dividend c.args.divisor c.loop-step.step c.requires c.if-dividend-divisor.false c.ranges.dividend.fits in
    let a = to_go c.args.dividend c.args.divisor s c.loop-step.step c.loop-step.quotient c.loop-step.remainder c.loop-step-test.true c.loop-step.invariant in
    elim c.if-part-remainder.branch [
      | then-part-remainder w ↦
          let b = taken c.args.dividend c.args.divisor (s - c.loop-step.step) c.loop-step.quotient c.loop-step.remainder a (rw p at w.if-part-remainder.true) in
          rw (w.quotient-is, w.remainder-is, p) (one_less c.args.dividend c.args.divisor s c.loop-step.step _ _ b)
      | else-part-remainder w ↦
          let b = not_taken c.args.dividend c.args.divisor (s - c.loop-step.step) c.loop-step.quotient c.loop-step.remainder a (rw p at w.if-part-remainder.false) in
          rw (w.quotient-is, w.remainder-is) (one_less c.args.dividend c.args.divisor s c.loop-step.step _ _ b)
    ]

pub returns-clause-quotient : goal.returns-clause-quotient
returns-clause-quotient c =
    let s : ℕ = shift_of c.args.dividend c.args.divisor in
    quotient_is c.args.dividend c.args.divisor c.loop-step.quotient c.loop-step.remainder (at_end c.args.dividend c.args.divisor s c.loop-step.step _ _ c.loop-step-test.false c.loop-step.invariant)

pub returns-clause-remainder : goal.returns-clause-remainder
returns-clause-remainder c =
    let s : ℕ = shift_of c.args.dividend c.args.divisor in
    remainder_is c.args.dividend c.args.divisor c.loop-step.quotient c.loop-step.remainder (at_end c.args.dividend c.args.divisor s c.loop-step.step _ _ c.loop-step-test.false c.loop-step.invariant)
