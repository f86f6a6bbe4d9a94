-- SPDX-License-Identifier: Apache-2.0
use Rattle.std.proofs.Common.{◌≡◌, ℕ, ◌+◌, ◌*◌, ◌≤◌, length}
use Rattle.hll_base.specs.Join.{join}
use Rattle.hll_coupons.specs.Coupons.{raw_coupons}
use Rattle.hll_coupons.specs.Fold.{fold_to}
use Rattle.hll_coupons.specs.Pair.{set_of}
use Rattle.hll_sketch.proofs.raw_coupons.RawCoupons.max_into.Given as goal

-- adding the raw coupons that are left to the registers so far gives what adding all gives to the registers before
abbrev pub invariant-loop : goal.invariant-loop
invariant-loop l = (left : ℕ) × (left + l.counter ≡ l.fn.self.count) × (4 * left ≤ length l.cursor)
    × (join l.registers (fold_to (set_of (raw_coupons left l.cursor)) l.fn.lg_k) ≡ join l.fn.registers (fold_to (set_of (raw_coupons l.fn.self.count l.fn.self.bytes.now)) l.fn.lg_k))
