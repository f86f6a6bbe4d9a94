-- SPDX-License-Identifier: Apache-2.0
use Rattle.std.proofs.Common.{◌≡◌, ℕ, ◌≤◌, ◌<◌, ◌^◌, length, refl, ap, arith}
use Rattle.std.proofs.Math.Nat.{pow-le-pow_right}
use Rattle.hll_registers.specs.Store.{Stored}
use Rattle.hll_registers.proofs.register_slice.RegisterSlice.raised_parts.Goals as goal

-- there are at most 2^21 registers
few : (n k : ℕ) → n ≡ 2 ^ k → k ≤ 21 → n ≤ 2 ^ 21
few n k size most =
    let bound : 2 ^ k ≤ 2 ^ 21 = pow-le-pow_right {n = 2} (omega arith) most in
    omega (arith, size, bound)

pub weight_sums-requires-clause-few : goal.weight_sums-requires-clause-few
weight_sums-requires-clause-few c = few (length c.self.inside.values.now) c.self.inside.lg_k c.self.invariant.0.registers.size c.self.invariant.0.high

pub replaced-sums-requires : goal.replaced-sums-requires
replaced-sums-requires c =
    let R = c.self.inside.values.now in
    let inside : c.args.slot < length R = omega (arith, c.requires.slot, c.self.invariant.0.registers.size, ap (λ (l : Stored). 2 ^ l.lg_k) c.self.view_is) in (
      R,
      c.args.slot,
      c.weight_sums.ensures,
      inside,
      refl,
      few (length R) c.self.inside.lg_k c.self.invariant.0.registers.size c.self.invariant.0.high,
      c.requires.most,
      c.self.invariant.0.registers.small c.args.slot 0 inside,
    )

pub replacing_byte-requires-clause-few : goal.replacing_byte-requires-clause-few
replacing_byte-requires-clause-few c = few (length c.self.inside.values.now) c.self.inside.lg_k c.self.invariant.0.registers.size c.self.invariant.0.high
