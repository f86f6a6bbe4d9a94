-- SPDX-License-Identifier: Apache-2.0
use Rattle.std.proofs.Common.{◌≡◌, ℕ, ◌*◌, ◌^◌, ◌<◌, ◌≤◌, get_or, length}
use Rattle.std.specs.Prelude.{◌==◌, if◌then◌else◌}
use Rattle.hll_coupons.specs.Blocks.{bit_of}
use Rattle.hll_coupons.specs.Cycle.{bucket_after}
use Rattle.hll_coupons.proofs.cycle.mark_empty.Given as goal

-- the bits so far are right, and those after them are not set
abbrev pub invariant-loop-steps : goal.invariant-loop-steps
invariant-loop-steps l = record {
  bucket : l.bucket ≡ bucket_after l.fn.lg_size l.fn.stride l.steps;
  size : 64 * length l.blocks ≡ 2 ^ l.fn.lg_size;
  bits : (i : ℕ) → i < l.steps → bit_of l.blocks i ≡ (if get_or l.fn.buckets (bucket_after l.fn.lg_size l.fn.stride i) 0 == 0 then 1 else 0);
  none : (i : ℕ) → l.steps ≤ i → bit_of l.blocks i ≡ 0;
}
