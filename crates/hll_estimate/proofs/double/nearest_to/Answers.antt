-- SPDX-License-Identifier: Apache-2.0
use Rattle.std.proofs.Common.{◌≡◌, ℕ, ◌-◌, ◌*◌, ◌%◌, ◌^◌, ◌<◌, ◌≤◌, arith}
use Rattle.std.specs.Int.Count.{count_leading_zeros}
use Rattle.std.proofs.Math.Nat.{mod-eq_of_lt}
use Rattle.hll_estimate.proofs.Doubles.{HasBits, has_bits, shifted_up, nearest_exact, nearest_zero}
use Rattle.hll_estimate.proofs.double.nearest_to.Goals as goal

bits : (n : ℕ) → (n ≡ 0 → ⊥) → n < 2 ^ 128 → HasBits n (128 - count_leading_zeros 128 n)
bits n some small = has_bits n (omega arith) small

-- no bit is lost when n is shifted up
whole : (n b : ℕ) → HasBits n b → b ≤ 53 → (n * 2 ^ (53 - b)) % 2 ^ 128 ≡ n * 2 ^ (53 - b)
whole n b h le = let s = shifted_up n b h le in let e : n * 2 ^ (53 - b) < 2 ^ 128 = omega (arith, s.1) in mod-eq_of_lt e

pub returns-then-n-eq0 : goal.returns-then-n-eq0
returns-then-n-eq0 c = nearest_zero c.args.n c.if-n-eq0.true

pub overflow_cast-n : goal.overflow_cast-n
overflow_cast-n c =
    let h = bits c.args.n c.if-n-eq0.false c.ranges.n.fits in
    rw (whole c.args.n _ h c.if-bits-le53.true) (record { fits = omega (arith, (shifted_up c.args.n _ h c.if-bits-le53.true).1) })

pub bits_of-requires-clause-low : goal.bits_of-requires-clause-low
bits_of-requires-clause-low c =
    let h = bits c.args.n c.if-n-eq0.false c.ranges.n.fits in
    rw (whole c.args.n _ h c.if-bits-le53.true) ((shifted_up c.args.n _ h c.if-bits-le53.true).0)

pub bits_of-requires-clause-high : goal.bits_of-requires-clause-high
bits_of-requires-clause-high c =
    let h = bits c.args.n c.if-n-eq0.false c.ranges.n.fits in
    rw (whole c.args.n _ h c.if-bits-le53.true) ((shifted_up c.args.n _ h c.if-bits-le53.true).1)

pub returns-then-bits-le53 : goal.returns-then-bits-le53
returns-then-bits-le53 c =
    let h = bits c.args.n c.if-n-eq0.false c.ranges.n.fits in
    nearest_exact _ c.args.n _ h c.if-bits-le53.true (rw (whole c.args.n _ h c.if-bits-le53.true) at c.bits_of.ensures.value)

pub rounded-requires-clause-low : goal.rounded-requires-clause-low
rounded-requires-clause-low c = (bits c.args.n c.if-n-eq0.false c.ranges.n.fits).low

pub rounded-requires-clause-high : goal.rounded-requires-clause-high
rounded-requires-clause-high c = (bits c.args.n c.if-n-eq0.false c.ranges.n.fits).high
