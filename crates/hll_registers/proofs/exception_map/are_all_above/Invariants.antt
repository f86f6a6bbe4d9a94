-- SPDX-License-Identifier: Apache-2.0
use Rattle.std.proofs.Common.{◌+◌, ◌≤◌, All}
use Rattle.hll_registers.proofs.exception_map.are_all_above.Given as goal

-- each exception so far is at least 15 above the minimum
abbrev pub invariant-loop-value : goal.invariant-loop-value
invariant-loop-value g l = All (λ p. l.minimum + 15 ≤ p.1) l.yielded
