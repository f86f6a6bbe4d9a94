-- SPDX-License-Identifier: Apache-2.0
use Rattle.std.proofs.Common.{◌≡◌, ◌<◌, ◌-◌, ◌*◌, ◌/◌, ◌++◌, length, take, drop, sym, ap, ◌∙◌, arith}
use Rattle.std.proofs.lemmas.List.{length-take-le, length-drop, take-append-drop}
use borrow.Rule.Slice.PartMut.{mid_of, put_mid}
use Rattle.hll_base.specs.Join.{join}
use Rattle.hll_kernels.specs.Lanes.{max_at, nibble_values}
use Rattle.hll_kernels.proofs.Blocks.{take_block}
use Rattle.hll_kernels.proofs.FourBitLanes.{length-nibble_values, nibble_values-append}
use Rattle.hll_kernels.proofs.Parts.{max_none, max_step, max_end}
use Rattle.hll_kernels.proofs.nibbles.max_with_nibbles.Goals as goal

pub loop-place-init : goal.loop-place-init
loop-place-init c = sym (max_none 0 c.args.values.now)

pub loop-place-preserved : goal.loop-place-preserved
loop-place-preserved c =
    let R = c.args.values.now in
    let B = c.args.bytes.now in
    let m = c.args.minimum in
    let p = c.loop-place.place in
    let inside : p < length B / 32 = omega (arith, c.loop-place-test.true, c.as_chunks.ensures.front_len) in
    c.max_with_block.ensures
    ∙ max_step (64 * p) R c.loop-place.values (nibble_values m (take (p * 32) B)) (nibble_values m _) c.loop-place.invariant
    (omega (arith, length-nibble_values m (take (p * 32) B), length-take-le (p * 32) B (omega arith))) (omega (arith, c.requires.size))
    ∙ ap (max_at 0 R) (sym (ap (nibble_values m) (take_block 32 (length B / 32) B c.as_chunks.result.0.now p _ c.as_chunks.ensures.front inside) ∙ nibble_values-append m (take (p * 32) B) _))

pub returns : goal.returns
returns c =
    let R = c.args.values.now in
    let B = c.args.bytes.now in
    let m = c.args.minimum in
    let V = c.loop-place.values in
    let W = c.max_one_by_one.new.values in
    let p = c.loop-place.place in
    let rest = c.as_chunks.result.1.now in
    let n : p ≡ length c.as_chunks.result.0.now = omega (arith, c.loop-place-test.false, c.loop-place.auto.place-end) in
    let e : p ≡ length B / 32 = n ∙ c.as_chunks.ensures.front_len in
    let cut : rest ≡ drop (p * 32) B = c.as_chunks.ensures.back ∙ ap (λ m. drop (m * 32) B) (sym e) in
    let same : length V ≡ length R = c.loop-place.auto.values in
    ap (λ b. put_mid (64 * b) (length V - 64 * b) V W) (sym n)
    ∙ max_end (64 * p) (length V - 64 * p) R V W (nibble_values m (take (p * 32) B)) (nibble_values m rest) c.loop-place.invariant
    (omega (arith, length-nibble_values m (take (p * 32) B), length-take-le (p * 32) B (omega (arith, e)))) (omega (arith, e, c.requires.size))
    (omega (arith, length-nibble_values m rest, ap length cut, length-drop (p * 32) B, e, c.requires.size))
    (c.max_one_by_one.ensures ∙ ap (λ b. join (mid_of (64 * b) (length V - 64 * b) V) (nibble_values m rest)) (sym n))
    ∙ ap (join R) (sym (nibble_values-append m (take (p * 32) B) rest) ∙ ap (nibble_values m) (ap (λ Q. take (p * 32) B ++ Q) cut ∙ take-append-drop (p * 32) B))
