-- SPDX-License-Identifier: Apache-2.0
use Rattle.std.proofs.Common.{◌≤◌, ◌^◌, arith}
use Rattle.std.proofs.Math.Pow.{pow_mono}
use Rattle.hll_kernels.proofs.Grouping.{units-le}
use Rattle.hll_kernels.proofs.WeightParts.{units-parts}
use Rattle.hll_registers.specs.Store.{Stored}
use Rattle.hll_registers.proofs.registers.units_of.Goals as goal

pub returns-clause-units : goal.returns-clause-units
returns-clause-units g c =
    let x : Stored = g.R.Registers.stored c.args.src.now in
    omega (arith, units-parts x.registers c.lg_k-lg_k.ensures.legal.registers.small, c.units.ensures, c.weight_sums.ensures.low, c.weight_sums.ensures.high)

pub returns-clause-bound : goal.returns-clause-bound
returns-clause-bound g c =
    let x : Stored = g.R.Registers.stored c.args.src.now in
    let few : 2 ^ x.lg_k ≤ 2 ^ 21 = pow_mono c.lg_k-lg_k.ensures.legal.high in
    omega (arith, returns-clause-units g c, units-le x.registers, few, c.lg_k-lg_k.ensures.legal.registers.size)
