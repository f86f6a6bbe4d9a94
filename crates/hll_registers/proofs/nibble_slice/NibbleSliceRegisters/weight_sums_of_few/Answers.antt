-- SPDX-License-Identifier: Apache-2.0
use Rattle.std.proofs.Common.{take, drop, subst}
use Rattle.hll_kernels.specs.WeightSums.{AreSumsOf}
use Rattle.hll_registers.specs.Store.{Stored}
use Rattle.hll_registers.proofs.nibble_slice.NibbleSliceRegisters.weight_sums_of_few.Goals as goal

pub returns : goal.returns
returns g c = subst (λ (l : Stored). AreSumsOf c.sums_of_few.result (take c.args.size (drop c.args.first l.registers))) c.self.view_is c.sums_of_few.ensures
