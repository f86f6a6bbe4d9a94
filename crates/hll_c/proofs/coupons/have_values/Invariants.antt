-- SPDX-License-Identifier: Apache-2.0
use Rattle.std.proofs.Common.{◌↔◌, drop}
use Rattle.hll_c.specs.ByteRegisters.{HaveValues}
use Rattle.hll_c.proofs.coupons.have_values.Given as goal

-- the coupons that are left have values exactly if all coupons have
abbrev pub invariant-loop-raw : goal.invariant-loop-raw
invariant-loop-raw l = HaveValues (drop l.raw-index l.raw_coupons) ↔ HaveValues l.raw_coupons
