-- SPDX-License-Identifier: Apache-2.0
use Rattle.std.proofs.Common.{◌≡◌, ℕ, ◌*◌, ◌<◌, ◌≤◌}
use Rattle.hll_coupons.specs.Blocks.{bit_of}
use Rattle.hll_coupons.proofs.blocks.next.Given as goal

-- no bit is set in the blocks so far
abbrev pub invariant-loop-i : goal.invariant-loop-i
invariant-loop-i l = (j : ℕ) → l.from ≤ j → j < 64 * l.i → bit_of l.blocks j ≡ 0
