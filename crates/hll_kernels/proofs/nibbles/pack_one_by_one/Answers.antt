-- SPDX-License-Identifier: Apache-2.0
use Rattle.std.proofs.Common.{◌≡◌, ◌<◌, ◌*◌, ◌/◌, length, take, sym, ap, ◌∙◌, arith}
use Rattle.std.specs.Simd.Lanes.{put_chunk}
use Rattle.std.proofs.lemmas.List.{length-take-le, take_all}
use Rattle.hll_kernels.specs.Packed.{nibble_bytes_above}
use Rattle.hll_kernels.proofs.Blocks.{take_block}
use Rattle.hll_kernels.proofs.FourBitLanes.{length-nibble_bytes_above, nibble_bytes_above-append}
use Rattle.hll_kernels.proofs.Parts.{put_none, put_one, put_step, put_all}
use Rattle.hll_kernels.proofs.nibbles.pack_one_by_one.Goals as goal

pub loop-place-init : goal.loop-place-init
loop-place-init c = sym (put_none 0 c.args.bytes.now)

pub loop-place-preserved : goal.loop-place-preserved
loop-place-preserved c =
    let G = c.args.bytes.now in
    let S = c.args.registers.now in
    let m = c.args.minimum in
    let p = c.loop-place.place in
    let inside : p < length S / 2 = omega (arith, c.loop-place-test.true, c.as_chunks.ensures.front_len) in
    let taken : length (take (p * 2) S) ≡ 2 * p = omega (arith, length-take-le (p * 2) S (omega arith)) in
    put_one p c.loop-place.bytes c.packed_pair.result (omega (arith, c.loop-place.auto.bytes, c.requires, inside))
    ∙ ap (put_chunk p c.loop-place.bytes) c.packed_pair.ensures
    ∙ put_step p G c.loop-place.bytes (nibble_bytes_above m (take (p * 2) S)) (nibble_bytes_above m _) c.loop-place.invariant
    (sym (length-nibble_bytes_above m p (take (p * 2) S) taken)) (omega (arith, c.requires, inside))
    ∙ ap (put_chunk 0 G) (sym (ap (nibble_bytes_above m) (take_block 2 (length S / 2) S c.as_chunks.result.0.now p _ c.as_chunks.ensures.front inside) ∙ nibble_bytes_above-append m p (take (p * 2) S) _ taken))

pub returns : goal.returns
returns c =
    let S = c.args.registers.now in
    let m = c.args.minimum in
    let p = c.loop-place.place in
    let e : p ≡ length S / 2 = omega (arith, c.loop-place-test.false, c.loop-place.auto.place-end, c.as_chunks.ensures.front_len) in
    let whole : take (p * 2) S ≡ S = take_all (p * 2) S (omega (arith, e, c.requires)) in
    put_all c.args.bytes.now c.loop-place.bytes (nibble_bytes_above m (take (p * 2) S)) c.loop-place.invariant
    (omega (arith, length-nibble_bytes_above m p (take (p * 2) S) (omega (arith, ap length whole, e, c.requires)), e, c.requires))
    ∙ ap (nibble_bytes_above m) whole
