-- SPDX-License-Identifier: Apache-2.0
use Rattle.std.proofs.Common.{subst}
use Rattle.hll_kernels.specs.WeightSums.{AreSumsOf}
use Rattle.hll_registers.specs.Store.{Stored}
use Rattle.hll_registers.proofs.Reading.{take-raised_zeros, small-raised_zeros}
use Rattle.hll_registers.proofs.registers.Registers.weight_sums_at.Goals as goal

pub weight_sums-requires-clause-small : goal.weight_sums-requires-clause-small
weight_sums-requires-clause-small g c =
    let x : Stored = g.Self.Registers.stored c.args.self.now in
    small-raised_zeros x.lg_k 16384 c.args.first c.args.size x.registers _ _ c.requires.legal.registers c.requires.within c.requires.few c.max_into.ensures

pub returns : goal.returns
returns g c =
    let x : Stored = g.Self.Registers.stored c.args.self.now in
    subst (AreSumsOf c.weight_sums.result) (take-raised_zeros x.lg_k 16384 c.args.first c.args.size x.registers _ _ c.requires.legal.registers c.requires.within c.requires.few c.max_into.ensures)
    c.weight_sums.ensures
