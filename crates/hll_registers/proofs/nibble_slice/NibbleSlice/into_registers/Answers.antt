-- SPDX-License-Identifier: Apache-2.0
use Rattle.std.proofs.Common.{arith}
use Rattle.std.proofs.Math.Pow.{pow_mono}
use Rattle.hll_registers.proofs.nibble_slice.NibbleSlice.into_registers.Goals as goal

pub zeros_or_count-zeros-requires-clause-few : goal.zeros_or_count-zeros-requires-clause-few
zeros_or_count-zeros-requires-clause-few g c = omega (arith, c.self.invariant.2, pow_mono {i = c.self.inside.lg_k} {j = 21} c.self.invariant.1)
