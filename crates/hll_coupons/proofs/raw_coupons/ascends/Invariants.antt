-- SPDX-License-Identifier: Apache-2.0
use Rattle.std.proofs.Common.{ℕ, ◌+◌, ◌<◌, ◌≤◌, ◌↔◌, length, get_or, map}
use Rattle.std.specs.Int.{w32, from_le_bytes}
use Rattle.std.specs.Prelude.{IsTrue}
use Rattle.hll_coupons.proofs.raw_coupons.ascends.Given as goal

-- whether the coupons before the i-th one ascend
abbrev pub invariant-loop-i : goal.invariant-loop-i
invariant-loop-i l = (l.i ≤ length l.coupons + 1)
    × (IsTrue l.ascends ↔ ((k : ℕ) → k + 1 < l.i → get_or (map (from_le_bytes w32) l.coupons) k 0 < get_or (map (from_le_bytes w32) l.coupons) (k + 1) 0))
