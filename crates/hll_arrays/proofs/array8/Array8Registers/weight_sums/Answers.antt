-- SPDX-License-Identifier: Apache-2.0
use Rattle.std.proofs.Common.{◌≤◌, ◌^◌, length, ap, arith}
use Rattle.std.proofs.Math.Nat.{pow-le-pow_right}
use Rattle.hll_arrays.proofs.array8.Array8Registers.weight_sums.Goals as goal

pub weight_sums-requires-clause-few : goal.weight_sums-requires-clause-few
weight_sums-requires-clause-few g c =
    let bound : 2 ^ c.self.inside.lg_config_k ≤ 2 ^ 21 = pow-le-pow_right {n = 2} (omega arith) c.self.invariant.1 in
    omega (arith, ap length c.deref.ensures.value, c.self.invariant.2.size, bound)
