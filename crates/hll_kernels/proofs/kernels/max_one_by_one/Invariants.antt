-- SPDX-License-Identifier: Apache-2.0
use Rattle.std.proofs.Common.{◌≡◌, ℕ, ◌<◌, ◌≤◌, length, get_or}
use Rattle.std.specs.Prelude.{max}
use Rattle.hll_kernels.proofs.kernels.max_one_by_one.Given as goal

-- the bytes so far are the maximum of both, and the others are unchanged
abbrev pub invariant-loop-place : goal.invariant-loop-place
invariant-loop-place l = record {
  size : length l.dst ≡ length l.initial.dst;
  done : (k : ℕ) → k < l.place → get_or l.dst k 0 ≡ max (get_or l.initial.dst k 0) (get_or l.src k 0);
  left : (k : ℕ) → l.place ≤ k → get_or l.dst k 0 ≡ get_or l.initial.dst k 0;
}
