-- SPDX-License-Identifier: Apache-2.0
use Rattle.std.proofs.Common.{◌≡◌}
use Rattle.hll_base.specs.Join.{join}
use Rattle.hll_coupons.specs.Fold.{fold_to}
use Rattle.hll_coupons.specs.Pair.{set_of}
use Rattle.hll_sketch.proofs.max_registers.max_table.Given as goal

-- the coupons so far were added
abbrev pub invariant-loop-coupon : goal.invariant-loop-coupon
invariant-loop-coupon g l = l.registers ≡ join l.initial.registers (fold_to (set_of l.yielded) l.fn.lg_k)
