-- SPDX-License-Identifier: Apache-2.0
use Rattle.std.proofs.Common.{◌≡◌, ◌<◌, ◌≤◌, ◌*◌, ◌-◌, ◌^◌, ◌∙◌, length, refl, arith, ap}
use Rattle.std.proofs.Math.Pow.{pow_mono}
use Rattle.std.proofs.lemmas.Nat.{pow_pos}
use Rattle.hll_registers.proofs.Packing.{minimum_le}
use Rattle.hll_registers.specs.FourBits.{IsPacked, unboxed}
use Rattle.hll_kernels.specs.Packed.{zero_nibbles}
use Rattle.hll_registers.proofs.FourBits.{packed_here, unpacked_is}
use Rattle.hll_kernels.proofs.FourBitLanes.{length-nibble_bytes_above}
use Rattle.hll_registers.proofs.FourBitStores.{packed_values, twice}
use Rattle.hll_registers.proofs.nibble_registers.NibbleRegisters.from_values.Goals as goal

pub packed_nibbles-requires : goal.packed_nibbles-requires
packed_nibbles-requires g c = omega (arith, c.requires.registers.size, twice c.args.lg_k c.requires.least)

pub count_zero_nibbles-requires : goal.count_zero_nibbles-requires
count_zero_nibbles-requires g c =
    let half : length c.args.values.now ≡ 2 * 2 ^ (c.args.lg_k - 1) = c.requires.registers.size ∙ twice c.args.lg_k c.requires.least in
    let few : 2 ^ c.args.lg_k ≤ 2 ^ 21 = pow_mono c.requires.most in
    omega (arith, ap length c.deref.ensures.value, ap length c.in_ok-nibbles.ensures, length-nibble_bytes_above c.least_of-minimum.result (2 ^ (c.args.lg_k - 1)) c.args.values.now half, few, c.requires.registers.size, half)

pub exceptions_of-requires-clause-minimum : goal.exceptions_of-requires-clause-minimum
exceptions_of-requires-clause-minimum g c =
    let some : 0 < length c.args.values.now = omega (arith, c.requires.registers.size, pow_pos c.args.lg_k) in
    omega (arith, c.least_of-minimum.ensures, minimum_le c.args.values.now 0 some, c.requires.registers.small 0 0 some)

pub invariant_of-result : goal.invariant_of-result
invariant_of-result g c =
    let packed : IsPacked c.args.lg_k c.least_of-minimum.result c.count_zero_nibbles.result c.in_ok-nibbles.nibbles.items (unboxed c.in_ok-exceptions.exceptions) c.args.values.now =
    packed_values c.args.lg_k c.args.values.now c.requires.least c.requires.registers _ _ _ _ c.least_of-minimum.ensures c.in_ok-nibbles.ensures (c.count_zero_nibbles.ensures ∙ ap zero_nibbles c.deref.ensures.value)
    c.in_ok-exceptions.ensures.map c.in_ok-exceptions.ensures.exceptions in
    (c.requires.least, c.requires.most, packed_here _ _ _ _ _ _ c.requires.most packed)

pub returns-clause-ok : goal.returns-clause-ok
returns-clause-ok g c =
    let packed : IsPacked c.args.lg_k c.least_of-minimum.result c.count_zero_nibbles.result c.in_ok-nibbles.nibbles.items (unboxed c.in_ok-exceptions.exceptions) c.args.values.now =
    packed_values c.args.lg_k c.args.values.now c.requires.least c.requires.registers _ _ _ _ c.least_of-minimum.ensures c.in_ok-nibbles.ensures (c.count_zero_nibbles.ensures ∙ ap zero_nibbles c.deref.ensures.value)
    c.in_ok-exceptions.ensures.map c.in_ok-exceptions.ensures.exceptions in
    (refl, unpacked_is _ _ _ _ _ _ c.requires.most packed)
