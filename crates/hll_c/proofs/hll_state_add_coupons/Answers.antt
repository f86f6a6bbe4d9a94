-- SPDX-License-Identifier: Apache-2.0
use Rattle.std.proofs.Common.{◌^◌, ◌<◌, arith}
use Rattle.std.proofs.lemmas.List.Elements.{All-from_get_or}
use Rattle.hll_c.specs.ByteRegisters.{HaveValues}
use Rattle.hll_c.specs.States.{TakesValues}
use Rattle.hll_c.proofs.Whole.{leaves_added, pairs_of_coupons}
use Rattle.hll_c.proofs.hll_state_add_coupons.Goals as goal

pub returns-clause-left : goal.returns-clause-left
returns-clause-left c =
    leaves_added (HaveValues c.args.coupons.now × TakesValues c.args.state.now) c.args.coupons.now c.args.state.now c.add.new.state c.args.size.now c.add.new.size c.add.result
    (λ are. pairs_of_coupons c.args.coupons.now (All-from_get_or (λ raw. raw < 2 ^ 32) c.args.coupons.now 0 (λ i within. omega (arith, c.type_inv.coupons i))) are.0) c.add.ensures.added
