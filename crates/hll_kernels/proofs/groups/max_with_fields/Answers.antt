-- SPDX-License-Identifier: Apache-2.0
use Rattle.std.proofs.Common.{◌≡◌, ◌<◌, ◌-◌, ◌*◌, ◌/◌, ◌++◌, ℕ, length, take, drop, sym, ap, ◌∙◌, arith}
use Rattle.std.proofs.lemmas.List.{length-take-le, length-drop, take-append-drop}
use borrow.Rule.Slice.PartMut.{mid_of, put_mid}
use Rattle.hll_base.specs.Join.{join}
use Rattle.hll_kernels.specs.Lanes.{max_at}
use Rattle.hll_kernels.specs.Packed.{fields}
use Rattle.hll_kernels.proofs.Blocks.{take_block}
use Rattle.hll_kernels.proofs.Parts.{max_none, max_step, max_end}
use Rattle.hll_kernels.proofs.SixBitLanes.{length-fields, fields-append}
use Rattle.hll_kernels.proofs.groups.max_with_fields.Goals as goal

pub loop-place-init : goal.loop-place-init
loop-place-init c = sym (max_none 0 c.args.values.now)

pub loop-place-preserved : goal.loop-place-preserved
loop-place-preserved c =
    let R = c.args.values.now in
    let B = c.args.bytes.now in
    let p = c.loop-place.place in
    let inside : p < length B / 48 = omega (arith, c.loop-place-test.true, c.as_chunks.ensures.front_len) in
    let taken : length (take (p * 48) B) ≡ 3 * (16 * p) = omega (arith, length-take-le (p * 48) B (omega arith)) in
    c.max_with_block.ensures
    ∙ max_step (64 * p) R c.loop-place.values (fields (take (p * 48) B)) (fields _) c.loop-place.invariant
    (omega (arith, length-fields (16 * p) (take (p * 48) B) taken)) (omega (arith, c.requires))
    ∙ ap (max_at 0 R) (sym (ap fields (take_block 48 (length B / 48) B c.as_chunks.result.0.now p _ c.as_chunks.ensures.front inside) ∙ fields-append (16 * p) (take (p * 48) B) _ taken))

pub returns : goal.returns
returns c =
    let R = c.args.values.now in
    let B = c.args.bytes.now in
    let V = c.loop-place.values in
    let W = c.max_one_by_one.new.values in
    let p = c.loop-place.place in
    let rest = c.as_chunks.result.1.now in
    let n : p ≡ length c.as_chunks.result.0.now = omega (arith, c.loop-place-test.false, c.loop-place.auto.place-end) in
    let e : p ≡ length B / 48 = n ∙ c.as_chunks.ensures.front_len in
    let cut : rest ≡ drop (p * 48) B = c.as_chunks.ensures.back ∙ ap (λ m. drop (m * 48) B) (sym e) in
    let same : length V ≡ length R = c.loop-place.auto.values in
    let g : ℕ = length B / 3 - 16 * p in
    let taken : length (take (p * 48) B) ≡ 3 * (16 * p) = omega (arith, length-take-le (p * 48) B (omega (arith, e))) in
    let left : length rest ≡ 3 * g = omega (arith, ap length cut, length-drop (p * 48) B, e, c.requires) in
    ap (λ b. put_mid (64 * b) (length V - 64 * b) V W) (sym n)
    ∙ max_end (64 * p) (length V - 64 * p) R V W (fields (take (p * 48) B)) (fields rest) c.loop-place.invariant
    (omega (arith, length-fields (16 * p) (take (p * 48) B) taken)) (omega (arith, e, c.requires)) (omega (arith, length-fields g rest left, e, c.requires))
    (c.max_one_by_one.ensures ∙ ap (λ b. join (mid_of (64 * b) (length V - 64 * b) V) (fields rest)) (sym n))
    ∙ ap (join R) (sym (fields-append (16 * p) (take (p * 48) B) rest taken) ∙ ap fields (ap (λ Q. take (p * 48) B ++ Q) cut ∙ take-append-drop (p * 48) B))
