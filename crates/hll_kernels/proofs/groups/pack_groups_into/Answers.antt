-- SPDX-License-Identifier: Apache-2.0
use Rattle.std.proofs.Common.{◌≡◌, ◌<◌, ◌-◌, ◌*◌, ◌/◌, ◌≤◌, ◌++◌, [], length, get_or, take, drop, sym, ap, ◌∙◌, arith}
use Rattle.std.specs.Simd.Lanes.{put_chunk}
use Rattle.std.proofs.lemmas.List.{length-take-le, take-append-drop}
use borrow.Rule.Slice.PartMut.{put_mid}
use Rattle.hll_kernels.specs.Lanes.{groups_of}
use Rattle.hll_kernels.proofs.Blocks.{take_block, All-block}
use Rattle.hll_kernels.proofs.Parts.{put_none, put_step, put_end}
use Rattle.hll_kernels.proofs.SixBitLanes.{length-groups_of, groups_of-append}
use Rattle.hll_kernels.proofs.groups.pack_groups_into.Goals as goal

pub loop-place-init : goal.loop-place-init
loop-place-init c = sym (put_none 0 c.args.groups.now)

pub put_four_groups-requires-clause-small : goal.put_four_groups-requires-clause-small
put_four_groups-requires-clause-small c =
    All-block 16 (length c.args.registers.now / 16) c.args.registers.now c.as_chunks.result.0.now c.loop-place.place [] c.as_chunks.ensures.front
    (omega (arith, c.loop-place-test.true, c.as_chunks.ensures.front_len)) (λ v. v ≤ 63) c.requires.small

pub loop-place-preserved : goal.loop-place-preserved
loop-place-preserved c =
    let G = c.args.groups.now in
    let S = c.args.registers.now in
    let F = c.as_chunks.result.0.now in
    let p = c.loop-place.place in
    let inside : p < length S / 16 = omega (arith, c.loop-place-test.true, c.as_chunks.ensures.front_len) in
    let taken : length (take (p * 16) S) ≡ 4 * (4 * p) = omega (arith, length-take-le (p * 16) S (omega arith)) in
    c.put_four_groups.ensures
    ∙ put_step (4 * p) G c.loop-place.groups (groups_of (take (p * 16) S)) (groups_of (get_or F p [])) c.loop-place.invariant
    (sym (length-groups_of (4 * p) (take (p * 16) S) taken)) (omega (arith, c.requires.size, inside))
    ∙ ap (put_chunk 0 G) (sym (ap groups_of (take_block 16 (length S / 16) S F p [] c.as_chunks.ensures.front inside) ∙ groups_of-append (4 * p) (take (p * 16) S) (get_or F p []) taken))

pub returns : goal.returns
returns c =
    let S = c.args.registers.now in
    let V = c.loop-place.groups in
    let W = c.pack_one_by_one.new.groups in
    let p = c.loop-place.place in
    let rest = c.as_chunks.result.1.now in
    let n : p ≡ length c.as_chunks.result.0.now = omega (arith, c.loop-place-test.false, c.loop-place.auto.place-end) in
    let e : p ≡ length S / 16 = n ∙ c.as_chunks.ensures.front_len in
    let cut : rest ≡ drop (p * 16) S = c.as_chunks.ensures.back ∙ ap (λ m. drop (m * 16) S) (sym e) in
    let taken : length (take (p * 16) S) ≡ 4 * (4 * p) = omega (arith, length-take-le (p * 16) S (omega (arith, e))) in
    ap (λ b. put_mid (4 * b) (length V - 4 * b) V W) (sym n)
    ∙ put_end (4 * p) (length V - 4 * p) c.args.groups.now V W (groups_of (take (p * 16) S)) c.loop-place.invariant
    (sym (length-groups_of (4 * p) (take (p * 16) S) taken)) (omega (arith, e, c.requires.size, c.loop-place.auto.groups))
    ∙ ap (λ Q. groups_of (take (p * 16) S) ++ Q) c.pack_one_by_one.ensures
    ∙ sym (groups_of-append (4 * p) (take (p * 16) S) rest taken)
    ∙ ap groups_of (ap (λ Q. take (p * 16) S ++ Q) cut ∙ take-append-drop (p * 16) S)
