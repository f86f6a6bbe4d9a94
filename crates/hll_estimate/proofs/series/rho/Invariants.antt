-- SPDX-License-Identifier: Apache-2.0
use Rattle.std.proofs.Common.{◌≡◌, ◌+◌, ◌-◌, ◌*◌, ◌^◌, ◌<◌, ◌≤◌}
use Rattle.hll_estimate.specs.FixedPoint.{rho_of}
use Rattle.hll_estimate.proofs.series.rho.Given as goal

-- the sum so far and the contribution of the terms left are the whole sum
abbrev pub invariant-loop-j : goal.invariant-loop-j
invariant-loop-j l = (l.power < 2 ^ 96) × (l.sum + 2 ^ l.j * rho_of (l.terms - l.j) l.power ≡ rho_of l.fn.terms l.fn.part) × (l.sum + 2 ^ 96 ≤ 2 ^ 96 * 2 ^ l.j)
