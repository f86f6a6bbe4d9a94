-- SPDX-License-Identifier: Apache-2.0
use Rattle.std.proofs.Common.{refl, sym, subst}
use Rattle.hll_c.specs.ByteRegisters.{AddsCoupons, added_coupons, no_coupons_to_add}
use Rattle.hll_c.proofs.Answers.{not_so}
use Rattle.hll_c.proofs.byte_registers.add.Goals as goal

pub returns-in_default : goal.returns-in_default
returns-in_default g c =
    subst (AddsCoupons (g.C.Coupons.are c.args.coupons.now) (g.C.Coupons.raw_coupons c.args.coupons.now) c.args.registers.now c.args.registers.now) (sym c.number.ensures)
    (no_coupons_to_add (λ both. c.in_default.ensures.err.1 both.0) refl)

pub returns-then-not-are_valid : goal.returns-then-not-are_valid
returns-then-not-are_valid g c =
    let Are = g.C.Coupons.are c.args.coupons.now in
    subst (AddsCoupons Are (g.C.Coupons.raw_coupons c.args.coupons.now) c.args.registers.now c.args.registers.now) (sym c.number-then-not-are_valid.ensures)
    (no_coupons_to_add (λ both. not_so c.are_valid.result Are c.if-not-are_valid.true c.are_valid.ensures both.1) refl)

pub returns : goal.returns
returns g c = added_coupons c.in-Ok.ensures.ok (c.are_valid.ensures.0 c.if-not-are_valid.false) c.max_each.ensures
