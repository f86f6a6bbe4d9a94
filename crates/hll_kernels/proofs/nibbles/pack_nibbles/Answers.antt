-- SPDX-License-Identifier: Apache-2.0
use Rattle.std.proofs.Common.{◌≡◌, ◌<◌, ◌-◌, ◌*◌, ◌/◌, ◌++◌, length, take, drop, sym, ap, ◌∙◌, arith}
use Rattle.std.specs.Simd.Lanes.{put_chunk}
use Rattle.std.proofs.lemmas.List.{length-take-le, take-append-drop}
use borrow.Rule.Slice.PartMut.{put_mid}
use Rattle.hll_kernels.specs.Packed.{nibble_bytes_above}
use Rattle.hll_kernels.proofs.Blocks.{take_block}
use Rattle.hll_kernels.proofs.FourBitLanes.{length-nibble_bytes_above, nibble_bytes_above-append}
use Rattle.hll_kernels.proofs.Parts.{put_none, put_step, put_end}
use Rattle.hll_kernels.proofs.nibbles.pack_nibbles.Goals as goal

pub loop-place-init : goal.loop-place-init
loop-place-init c = sym (put_none 0 c.args.bytes.now)

pub loop-place-preserved : goal.loop-place-preserved
loop-place-preserved c =
    let G = c.args.bytes.now in
    let S = c.args.registers.now in
    let m = c.args.minimum in
    let p = c.loop-place.place in
    let inside : p < length S / 32 = omega (arith, c.loop-place-test.true, c.as_chunks.ensures.front_len) in
    let taken : length (take (p * 32) S) ≡ 2 * (16 * p) = omega (arith, length-take-le (p * 32) S (omega arith)) in
    c.put_16.ensures ∙ ap (put_chunk (16 * p) c.loop-place.bytes) c.packed_lanes.ensures
    ∙ put_step (16 * p) G c.loop-place.bytes (nibble_bytes_above m (take (p * 32) S)) (nibble_bytes_above m _) c.loop-place.invariant
    (sym (length-nibble_bytes_above m (16 * p) (take (p * 32) S) taken)) (omega (arith, c.requires, inside))
    ∙ ap (put_chunk 0 G) (sym (ap (nibble_bytes_above m) (take_block 32 (length S / 32) S c.as_chunks.result.0.now p _ c.as_chunks.ensures.front inside) ∙ nibble_bytes_above-append m (16 * p) (take (p * 32) S) _ taken))

pub returns : goal.returns
returns c =
    let S = c.args.registers.now in
    let m = c.args.minimum in
    let V = c.loop-place.bytes in
    let W = c.pack_one_by_one.new.bytes in
    let p = c.loop-place.place in
    let rest = c.as_chunks.result.1.now in
    let n : p ≡ length c.as_chunks.result.0.now = omega (arith, c.loop-place-test.false, c.loop-place.auto.place-end) in
    let e : p ≡ length S / 32 = n ∙ c.as_chunks.ensures.front_len in
    let cut : rest ≡ drop (p * 32) S = c.as_chunks.ensures.back ∙ ap (λ m. drop (m * 32) S) (sym e) in
    let taken : length (take (p * 32) S) ≡ 2 * (16 * p) = omega (arith, length-take-le (p * 32) S (omega (arith, e))) in
    ap (λ b. put_mid (16 * b) (length V - 16 * b) V W) (sym n)
    ∙ put_end (16 * p) (length V - 16 * p) c.args.bytes.now V W (nibble_bytes_above m (take (p * 32) S)) c.loop-place.invariant
    (sym (length-nibble_bytes_above m (16 * p) (take (p * 32) S) taken)) (omega (arith, e, c.requires, c.loop-place.auto.bytes))
    ∙ ap (λ Q. nibble_bytes_above m (take (p * 32) S) ++ Q) c.pack_one_by_one.ensures
    ∙ sym (nibble_bytes_above-append m (16 * p) (take (p * 32) S) rest taken)
    ∙ ap (nibble_bytes_above m) (ap (λ Q. take (p * 32) S ++ Q) cut ∙ take-append-drop (p * 32) S)
