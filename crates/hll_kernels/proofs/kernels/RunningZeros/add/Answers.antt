-- SPDX-License-Identifier: Apache-2.0
use Rattle.std.proofs.Common.{refl}
use Rattle.hll_kernels.proofs.ZeroCounts.{counts_fit, AreRunningZeros-append}
use Rattle.hll_kernels.proofs.kernels.RunningZeros.add.Goals as goal

pub overflow_add-self : goal.overflow_add-self
overflow_add-self c = counts_fit c.args.self.now c.requires.0 c.args.values c.zero_lanes.result c.requires.1 c.zero_lanes.ensures.small c.requires.2

pub returns : goal.returns
returns c R are = AreRunningZeros-append c.args.self.now R c.args.values c.zero_lanes.result are c.zero_lanes.ensures.small _ refl c.fits-values.0 c.zero_lanes.ensures.count c.zero_lanes.ensures.lanes
