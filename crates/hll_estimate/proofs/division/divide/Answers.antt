-- SPDX-License-Identifier: Apache-2.0
use Rattle.std.proofs.Common.{◌≡◌, ◌*◌, ◌/◌, ◌%◌, ◌<◌, ◌≤◌, ℕ, ◌+◌, ◌-◌, arith}
use Rattle.std.proofs.lemmas.Nat.{div-add-mod', mod_below}
use Rattle.hll_estimate.proofs.LongDivision.{at_most, quotient_of, remainder_of}
use Rattle.hll_estimate.proofs.division.divide.Goals as goal

-- one more part of the quotient
one_more : (n d q r p : ℕ) → q * d + r ≡ n → p * d ≤ r → (q + p) * d + (r - p * d) ≡ n
one_more n d q r p e le = omega (arith, e, le)

-- the rest of the quotient
last : (n d q r p s : ℕ) → 0 < d → q * d + r ≡ n → p ≡ r / d → s ≡ r % d → ((q + p) * d + s ≡ n) × (s < d)
last n d q r p s some e ep es = let parts : r / d * d + r % d ≡ r = div-add-mod' r d in rw (ep, es) (omega (arith, e, parts), mod_below r d some)

pub loop-init : goal.loop-init
loop-init c = omega arith

pub overflow_add-quotient : goal.overflow_add-quotient
overflow_add-quotient c =
    let e = one_more c.args.dividend c.args.divisor c.loop.quotient c.loop.remainder c.trial_quotient-part.result c.loop.invariant c.trial_quotient-part.ensures in
    let most = at_most (c.loop.quotient + c.trial_quotient-part.result) c.args.divisor c.args.dividend c.requires (omega (arith, e)) in
    record { fits = omega (arith, most, c.ranges.dividend.fits) }

pub loop-preserved : goal.loop-preserved
loop-preserved c = one_more c.args.dividend c.args.divisor c.loop.quotient c.loop.remainder c.trial_quotient-part.result c.loop.invariant c.trial_quotient-part.ensures

pub overflow_add-result : goal.overflow_add-result
overflow_add-result c =
    let e = last c.args.dividend c.args.divisor c.loop.quotient c.loop.remainder _ _ c.requires c.loop.invariant c.divide_by_bits-last.ensures.quotient c.divide_by_bits-last.ensures.remainder in
    let most = at_most (c.loop.quotient + c.divide_by_bits-last.result.0) c.args.divisor c.args.dividend c.requires (omega (arith, e.0)) in
    record { fits = omega (arith, most, c.ranges.dividend.fits) }

pub returns-clause-quotient : goal.returns-clause-quotient
returns-clause-quotient c =
    let e = last c.args.dividend c.args.divisor c.loop.quotient c.loop.remainder _ _ c.requires c.loop.invariant c.divide_by_bits-last.ensures.quotient c.divide_by_bits-last.ensures.remainder in
    quotient_of c.args.dividend c.args.divisor _ _ e.0 e.1

pub returns-clause-remainder : goal.returns-clause-remainder
returns-clause-remainder c =
    let e = last c.args.dividend c.args.divisor c.loop.quotient c.loop.remainder _ _ c.requires c.loop.invariant c.divide_by_bits-last.ensures.quotient c.divide_by_bits-last.ensures.remainder in
    remainder_of c.args.dividend c.args.divisor _ _ e.0 e.1
