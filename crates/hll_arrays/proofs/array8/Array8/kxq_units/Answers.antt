-- SPDX-License-Identifier: Apache-2.0
use Rattle.std.proofs.Common.{◌≤◌, ◌^◌, length, ap, arith}
use Rattle.std.proofs.Math.Nat.{pow-le-pow_right}
use Rattle.hll_arrays.proofs.array8.Array8.kxq_units.Goals as goal

pub units-requires-clause-few : goal.units-requires-clause-few
units-requires-clause-few g c =
    let bound : 2 ^ c.self.inside.lg_config_k ≤ 2 ^ 21 = pow-le-pow_right {n = 2} (omega arith) c.self.invariant.1 in
    omega (arith, ap length c.deref.ensures.value, c.self.invariant.2.size, bound)
