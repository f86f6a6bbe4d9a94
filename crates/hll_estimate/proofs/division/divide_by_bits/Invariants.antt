-- SPDX-License-Identifier: Apache-2.0
use Rattle.std.proofs.Common.{◌-◌}
use Rattle.hll_estimate.proofs.LongDivision.{IsLeft}
use Rattle.hll_estimate.proofs.division.divide_by_bits.Given as goal

abbrev pub invariant-loop-step : goal.invariant-loop-step
invariant-loop-step l = IsLeft l.dividend l.divisor (l.step-end - l.step) l.quotient l.remainder
