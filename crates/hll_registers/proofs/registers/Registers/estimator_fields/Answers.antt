-- SPDX-License-Identifier: Apache-2.0
use Rattle.hll_kernels.proofs.WeightParts.{AreSumsOf-small}
use Rattle.hll_registers.specs.Store.{Stored}
use Rattle.hll_registers.proofs.registers.Registers.estimator_fields.Goals as goal

pub of_sums-requires : goal.of_sums-requires
of_sums-requires g c =
    let x : Stored = g.Self.Registers.stored c.args.self.now in
    let small = AreSumsOf-small _ x.registers x.lg_k c.weight_sums.ensures c.lg_k-lg_k.ensures.legal.registers.size c.lg_k-lg_k.ensures.legal.high in
    record { low = small.0; high = small.1 }
