-- SPDX-License-Identifier: Apache-2.0
use Rattle.std.proofs.Common.{◌≡◌, ℕ, ◌*◌, ◌<◌, ◌≤◌, get_or, length}
use Rattle.std.specs.Prelude.{◌==◌, if◌then◌else◌}
use Rattle.hll_coupons.specs.Blocks.{bit_of}
use Rattle.hll_coupons.proofs.cycle.summarize.Given as goal

-- the bits so far are right, and those after them are not set
abbrev pub invariant-loop-i : goal.invariant-loop-i
invariant-loop-i l = record {
  room : length l.blocks ≤ 64 * length l.summary;
  bits : (i : ℕ) → i < l.i → bit_of l.summary i ≡ (if get_or l.blocks i 0 == 0 then 0 else 1);
  none : (i : ℕ) → l.i ≤ i → bit_of l.summary i ≡ 0;
}
