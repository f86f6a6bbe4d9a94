-- SPDX-License-Identifier: Apache-2.0
use Rattle.std.proofs.Common.{subst, arith}
use Rattle.std.proofs.Math.Pow.{pow_mono}
use Rattle.hll_base.specs.declared.hll_type.HllType.TheVariants.{Hll4}
use Rattle.hll_registers.specs.FourBits.{unboxed, unpacked}
use Rattle.hll_registers.specs.Payload.{WritesRegisters}
use Rattle.hll_registers.specs.Store.{Stored}
use Rattle.hll_registers.proofs.FourBitReading.{settled, AgreeAbove}
use Rattle.hll_registers.proofs.ImageParts.{nibbles_written}
use Rattle.hll_registers.proofs.nibble_slice.NibbleSlice.image_parts.Goals as goal

pub zeros_or_count-low_count-requires-clause-few : goal.zeros_or_count-low_count-requires-clause-few
zeros_or_count-low_count-requires-clause-few g c = omega (arith, c.self.invariant.2, pow_mono {i = c.self.inside.lg_k} {j = 21} c.self.invariant.1)

pub of_nibbles-requires-clause-few : goal.of_nibbles-requires-clause-few
of_nibbles-requires-clause-few g c = omega (arith, c.self.invariant.2, pow_mono {i = c.self.inside.lg_k} {j = 21} c.self.invariant.1)

pub of_nibbles-requires-clause-exceptions : goal.of_nibbles-requires-clause-exceptions
of_nibbles-requires-clause-exceptions g c = c.in_ok-exceptions.ensures.few

pub returns : goal.returns
returns g c =
    let x = c.self.inside in
    let e = unboxed x.exceptions in
    let n = c.zeros_or_count-low_count.result in
    let parts : AgreeAbove x.lg_k x.minimum x.nibbles.now e = record { size = c.self.invariant.2; fits = c.self.invariant.3; map_for = c.self.invariant.4; agree = c.self.invariant.5 } in
    subst (λ (l : Stored). WritesRegisters c.of_nibbles.result l.lg_k Hll4 l.registers c.args.state) c.self.view_is
    (nibbles_written x.lg_k x.minimum n x.nibbles.now c.in_ok-exceptions.exceptions.now c.of_nibbles.result e (unpacked x.lg_k x.minimum x.nibbles.now e) c.args.state c.self.invariant.1
    (settled parts n c.zeros_or_count-low_count.ensures (omega (arith, c.if-low_count-eq0.false))) c.in_ok-exceptions.ensures.order c.of_nibbles.ensures)
