-- SPDX-License-Identifier: Apache-2.0
use Rattle.std.proofs.Common.{◌∙◌, ap, sym, arith}
use Rattle.std.proofs.Math.Pow.{pow_mono}
use Rattle.hll_kernels.specs.Packed.{zeros}
use Rattle.hll_registers.specs.FourBits.{unboxed}
use Rattle.hll_registers.specs.Store.{Stored}
use Rattle.hll_registers.proofs.FourBitReading.{AgreeAbove, zeros_at, zeros_none}
use Rattle.hll_registers.proofs.nibble_slice.NibbleSlice.num_zeros.Goals as goal

pub returns-then-self-gt0 : goal.returns-then-self-gt0
returns-then-self-gt0 g c =
    let x = c.self.inside in
    let parts : AgreeAbove x.lg_k x.minimum x.nibbles.now (unboxed x.exceptions) = record { size = c.self.invariant.2; fits = c.self.invariant.3; map_for = c.self.invariant.4; agree = c.self.invariant.5 } in
    sym (zeros_none parts c.if-self-gt0.true) ∙ ap (λ (l : Stored). zeros l.registers) c.self.view_is

pub zeros_or_count-requires-clause-few : goal.zeros_or_count-requires-clause-few
zeros_or_count-requires-clause-few g c = omega (arith, c.self.invariant.2, pow_mono {i = c.self.inside.lg_k} {j = 21} c.self.invariant.1)

pub returns : goal.returns
returns g c =
    let x = c.self.inside in
    let parts : AgreeAbove x.lg_k x.minimum x.nibbles.now (unboxed x.exceptions) = record { size = c.self.invariant.2; fits = c.self.invariant.3; map_for = c.self.invariant.4; agree = c.self.invariant.5 } in
    c.zeros_or_count.ensures ∙ zeros_at parts (omega (arith, c.if-self-gt0.false)) ∙ ap (λ (l : Stored). zeros l.registers) c.self.view_is
