-- SPDX-License-Identifier: Apache-2.0
use Rattle.std.proofs.Common.{arith}
use Rattle.hll_estimate.proofs.Numbers.{power_small}
use Rattle.hll_estimate.proofs.estimate.registers_of.Goals as goal

pub returns-clause-small : goal.returns-clause-small
returns-clause-small c = omega (arith, power_small c.args.lg_k c.requires)
