-- SPDX-License-Identifier: Apache-2.0
use Rattle.std.proofs.Common.{◌≤◌, ◌^◌, lit≤, arith, inl, inr}
use Rattle.std.proofs.Math.Nat.{pow-le-pow_right}
use Rattle.std.proofs.lemmas.Bool.{cases_lt}
use Rattle.hll_coupons.proofs.batch.lg_size_above.Goals as goal

pub returns-in_default-clause-small : goal.returns-in_default-clause-small
returns-in_default-clause-small c = elim (cases_lt c.ilog2.result 26) [
  | inl less ↦ omega (arith, less)
  | inr more ↦
      let most : 2 ^ 26 ≤ 2 ^ c.ilog2.result = pow-le-pow_right (lit≤ tt) more in
      absurd (omega (arith, most, c.ilog2.ensures.power_le, c.requires))
]
