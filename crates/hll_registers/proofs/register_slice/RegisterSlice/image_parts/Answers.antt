-- SPDX-License-Identifier: Apache-2.0
use Rattle.std.proofs.Common.{◌≤◌, ◌^◌, arith}
use Rattle.std.proofs.Math.Nat.{pow-le-pow_right}
use Rattle.hll_registers.proofs.register_slice.RegisterSlice.image_parts.Goals as goal

pub of_bytes-requires-clause-few : goal.of_bytes-requires-clause-few
of_bytes-requires-clause-few c =
    let bound : 2 ^ c.self.inside.lg_k ≤ 2 ^ 21 = pow-le-pow_right {n = 2} (omega arith) c.self.invariant.0.high in
    omega (arith, c.self.invariant.0.registers.size, bound)
