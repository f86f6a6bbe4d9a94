-- SPDX-License-Identifier: Apache-2.0
use Rattle.std.proofs.Common.{◌≡◌, ℕ, ◌+◌, ◌<◌, ◌≤◌, length, get_or}
use Rattle.std.specs.Prelude.{max}
use Rattle.hll_registers.proofs.registers.Registers.max_into.Given as goal

-- the values so far are the maximum, and the others are unchanged
abbrev pub invariant-loop-index : goal.invariant-loop-index
invariant-loop-index g l = record {
  size : length l.values ≡ length l.initial.values;
  done : (k : ℕ) → k < l.index → get_or l.values k 0 ≡ max (get_or l.initial.values k 0) (get_or (g.Self.Registers.stored l.self).registers (l.first + k) 0);
  left : (k : ℕ) → l.index ≤ k → get_or l.values k 0 ≡ get_or l.initial.values k 0;
}
