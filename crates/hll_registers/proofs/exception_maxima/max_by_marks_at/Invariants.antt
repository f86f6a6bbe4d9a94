-- SPDX-License-Identifier: Apache-2.0
use Rattle.std.proofs.Common.{◌≡◌, ◌+◌, ◌<◌, ◌≤◌, ℕ, length, slice_index}
use Rattle.std.specs.Prelude.{max, unwrap_or}
use Rattle.hll_coupons.specs.AuxMap.{value_in}
use Rattle.hll_registers.proofs.exception_maxima.max_by_marks_at.Given as goal

-- the values so far are the maximum, and the others are unchanged
abbrev pub invariant-loop-slot : goal.invariant-loop-slot
invariant-loop-slot g l = record {
  size : length l.values ≡ length l.initial.values;
  done : (s : ℕ) → l.at ≤ s → s < l.slot → slice_index l.values s ≡ max (slice_index l.initial.values s) (unwrap_or (value_in l.map (l.first + s)) 0);
  before : (s : ℕ) → s < l.at → slice_index l.values s ≡ slice_index l.initial.values s;
  left : (s : ℕ) → l.slot ≤ s → slice_index l.values s ≡ slice_index l.initial.values s;
}
