-- SPDX-License-Identifier: Apache-2.0
use Rattle.std.proofs.Common.{◌≡◌, ℕ, ◌+◌, ◌-◌, ◌*◌, ◌/◌, ◌%◌, ◌^◌, ◌<◌, ◌≤◌, ◌==◌, false, refl, sym, arith}
use Rattle.std.proofs.Math.Nat.{mod-eq_of_lt}
use Rattle.std.proofs.lemmas.Bool.{eqb-true}
use Rattle.std.proofs.lemmas.Bool.Decides.{nat_tests}
use Rattle.std.proofs.lemmas.Nat.{one_shl, div-add-mod'}
use Rattle.hll_estimate.proofs.Doubles.{HasBits, shifted_down, nearest_up, nearest_down}
use Rattle.hll_estimate.proofs.double.rounded.Goals as goal

bits : (n b : ℕ) → 53 < b → b ≤ 128 → 2 ^ (b - 1) ≤ n → n < 2 ^ b → HasBits n b
bits n b more most low high = record { some = omega arith; most = most; low = low; high = high }

pub overflow_cast-kept-2 : goal.overflow_cast-kept-2
overflow_cast-kept-2 c =
    let h = bits c.args.n c.args.bits c.requires.more c.requires.most c.requires.low c.requires.high in
    record { fits = omega (arith, (shifted_down c.args.n c.args.bits h c.requires.more).1) }

pub bits_of-below-requires-clause-low : goal.bits_of-below-requires-clause-low
bits_of-below-requires-clause-low c = (shifted_down c.args.n c.args.bits (bits c.args.n c.args.bits c.requires.more c.requires.most c.requires.low c.requires.high) c.requires.more).0

pub bits_of-below-requires-clause-high : goal.bits_of-below-requires-clause-high
bits_of-below-requires-clause-high c = (shifted_down c.args.n c.args.bits (bits c.args.n c.args.bits c.requires.more c.requires.most c.requires.low c.requires.high) c.requires.more).1

-- the part that is dropped, and half a unit, as they are computed
rest : (n b k : ℕ) → n < 2 ^ 128 → k ≡ n / 2 ^ (b - 53) → n - (k * 2 ^ (b - 53)) % 2 ^ 128 ≡ n % 2 ^ (b - 53)
rest n b k small is =
    let parts : n / 2 ^ (b - 53) * 2 ^ (b - 53) + n % 2 ^ (b - 53) ≡ n = div-add-mod' n (2 ^ (b - 53)) in
    let fits : (n / 2 ^ (b - 53) * 2 ^ (b - 53)) % 2 ^ 128 ≡ n / 2 ^ (b - 53) * 2 ^ (b - 53) = mod-eq_of_lt (let e : n / 2 ^ (b - 53) * 2 ^ (b - 53) < 2 ^ 128 = omega (arith, parts, small) in e) in
    rw (is, fits) (omega (arith, parts))

half : (b : ℕ) → b ≤ 128 → (1 * 2 ^ (b - 53 - 1)) % 2 ^ 128 ≡ 2 ^ (b - 53 - 1)
half b most = one_shl (b - 53 - 1) 128 (omega arith)

is_even : (k : ℕ) → (k % 2 == 1) ≡ false → k % 2 ≡ 0
is_even k e = grind (arith, nat_tests)

pub returns-then-rounds_up : goal.returns-then-rounds_up
returns-then-rounds_up c =
    let n : ℕ = c.args.n in
    let b : ℕ = c.args.bits in
    let h = bits n b c.requires.more c.requires.most c.requires.low c.requires.high in
    let r = rest n b c.from.result c.ranges.n.fits c.from.ensures in
    let f = half b c.requires.most in
    nearest_up _ n b h c.requires.more c.bits_of-below.ensures.value (rw (r, f) at (c.if-rounds_up.ensures.up refl))
    (λ e. let t = rw (r, f) at c.if-rounds_up.ensures.tie in eqb-true (n / 2 ^ (b - 53) % 2) 1 (sym (t e)))

pub returns-else-rounds_up : goal.returns-else-rounds_up
returns-else-rounds_up c =
    let n : ℕ = c.args.n in
    let b : ℕ = c.args.bits in
    let h = bits n b c.requires.more c.requires.most c.requires.low c.requires.high in
    let r = rest n b c.from.result c.ranges.n.fits c.from.ensures in
    let f = half b c.requires.most in
    nearest_down _ n b h c.requires.more c.bits_of-below.ensures.value (rw (r, f) at (c.if-rounds_up.ensures.down refl))
    (λ e. let t = rw (r, f) at c.if-rounds_up.ensures.tie in is_even (n / 2 ^ (b - 53)) (sym (t e)))
