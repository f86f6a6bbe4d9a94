-- SPDX-License-Identifier: Apache-2.0
use Rattle.std.proofs.Common.{arith}
use Rattle.std.proofs.Math.Pow.{pow_mono}
use Rattle.hll_c.proofs.estimate.estimate_of_registers.Goals as goal

pub units-requires-clause-few : goal.units-requires-clause-few
units-requires-clause-few c = omega (arith, c.requires.registers.size, pow_mono {i = c.args.lg_k} {j = 21} c.requires.lg_k.high)
