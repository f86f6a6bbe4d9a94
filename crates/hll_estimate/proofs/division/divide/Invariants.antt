-- SPDX-License-Identifier: Apache-2.0
use Rattle.std.proofs.Common.{◌≡◌, ◌+◌, ◌*◌}
use Rattle.hll_estimate.proofs.division.divide.Given as goal

-- the quotient so far, and the remainder
abbrev pub invariant-loop : goal.invariant-loop
invariant-loop l = l.quotient * l.divisor + l.remainder ≡ l.dividend
