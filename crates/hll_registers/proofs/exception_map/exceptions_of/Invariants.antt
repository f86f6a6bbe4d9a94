-- SPDX-License-Identifier: Apache-2.0
use Rattle.std.proofs.Common.{◌≡◌, ◌*◌, ◌<◌, ◌≤◌, ℕ, None, slice_index}
use Rattle.hll_registers.specs.FourBits.{exception_in, exception_of, IsMapFor}
use Rattle.hll_registers.proofs.exception_map.exceptions_of.Given as goal

-- the exceptions of the blocks so far
abbrev pub invariant-loop-index : goal.invariant-loop-index
invariant-loop-index g l = record {
  map : IsMapFor l.lg_k l.map;
  done : (s : ℕ) → s < 64 * l.index → exception_in l.map s ≡ exception_of l.minimum (slice_index l.values s);
  left : (s : ℕ) → 64 * l.index ≤ s → exception_in l.map s ≡ None;
}
