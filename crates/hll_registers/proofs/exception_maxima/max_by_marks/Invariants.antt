-- SPDX-License-Identifier: Apache-2.0
use Rattle.std.proofs.Common.{◌≡◌, ◌+◌, ◌*◌, ◌<◌, ◌≤◌, ℕ, length, slice_index}
use Rattle.std.specs.Prelude.{max, unwrap_or}
use Rattle.hll_coupons.specs.AuxMap.{value_in}
use Rattle.hll_registers.proofs.exception_maxima.max_by_marks.Given as goal

-- the values of the blocks so far are the maximum, and the others are unchanged
abbrev pub invariant-loop-index : goal.invariant-loop-index
invariant-loop-index g l = record {
  size : length l.values ≡ length l.initial.values;
  done : (s : ℕ) → s < 64 * l.index → s < length l.initial.values → slice_index l.values s ≡ max (slice_index l.initial.values s) (unwrap_or (value_in l.map (l.first + s)) 0);
  left : (s : ℕ) → 64 * l.index ≤ s → slice_index l.values s ≡ slice_index l.initial.values s;
}
