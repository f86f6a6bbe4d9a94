-- SPDX-License-Identifier: Apache-2.0
use Rattle.std.proofs.Common.{◌≡◌, drop}
use Rattle.hll_base.specs.Join.{join}
use Rattle.hll_coupons.specs.Fold.{fold_to}
use Rattle.hll_coupons.specs.Pair.{set_of}
use Rattle.hll_c.proofs.byte_registers.max_each.Given as goal

-- adding the coupons that are left to the registers now gives what adding all gives to the registers before
abbrev pub invariant-loop-number : goal.invariant-loop-number
invariant-loop-number g l =
    join l.registers (fold_to (set_of (drop l.number (g.C.Coupons.raw_coupons l.coupons))) l.fn.lg_k) ≡ join l.fn.registers (fold_to (set_of (g.C.Coupons.raw_coupons l.coupons)) l.fn.lg_k)
