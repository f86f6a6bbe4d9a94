-- SPDX-License-Identifier: Apache-2.0
use Rattle.std.proofs.Common.{◌≡◌, ◌<◌, ◌*◌, ◌/◌, ◌≤◌, ◌∷◌, [], length, get_or, take, sym, ap, ◌∙◌, arith}
use Rattle.std.specs.Simd.Lanes.{put_chunk}
use Rattle.std.proofs.lemmas.List.{length-take-le, take_all}
use Rattle.hll_kernels.specs.Lanes.{groups_of}
use Rattle.hll_kernels.proofs.Blocks.{take_block, length-block, All-block}
use Rattle.hll_kernels.proofs.Grouping.{four}
use Rattle.hll_kernels.proofs.Parts.{put_none, put_one, put_step, put_all}
use Rattle.hll_kernels.proofs.SixBitLanes.{length-groups_of, groups_of-append}
use Rattle.hll_kernels.proofs.groups.pack_one_by_one.Goals as goal

pub loop-place-init : goal.loop-place-init
loop-place-init c = sym (put_none 0 c.args.groups.now)

pub pack_group-requires : goal.pack_group-requires
pack_group-requires c =
    All-block 4 (length c.args.registers.now / 4) c.args.registers.now c.as_chunks.result.0.now c.loop-place.place [] c.as_chunks.ensures.front
    (omega (arith, c.loop-place-test.true, c.as_chunks.ensures.front_len)) (λ v. v ≤ 63) c.requires.small

pub loop-place-preserved : goal.loop-place-preserved
loop-place-preserved c =
    let G = c.args.groups.now in
    let S = c.args.registers.now in
    let F = c.as_chunks.result.0.now in
    let p = c.loop-place.place in
    let inside : p < length S / 4 = omega (arith, c.loop-place-test.true, c.as_chunks.ensures.front_len) in
    let taken : length (take (p * 4) S) ≡ 4 * p = omega (arith, length-take-le (p * 4) S (omega arith)) in
    let long : length (get_or F p []) ≡ 4 = length-block 4 (length S / 4) S F p [] c.as_chunks.ensures.front inside (omega arith) in
    let one : (c.pack_group.result ∷ []) ≡ groups_of (get_or F p []) = ap (λ g. g ∷ []) c.pack_group.ensures.bytes ∙ ap groups_of (sym (four (get_or F p []) long)) in
    put_one p c.loop-place.groups c.pack_group.result (omega (arith, c.loop-place.auto.groups, c.requires.size, inside))
    ∙ ap (put_chunk p c.loop-place.groups) one
    ∙ put_step p G c.loop-place.groups (groups_of (take (p * 4) S)) (groups_of (get_or F p [])) c.loop-place.invariant (sym (length-groups_of p (take (p * 4) S) taken)) (omega (arith, c.requires.size, inside))
    ∙ ap (put_chunk 0 G) (sym (ap groups_of (take_block 4 (length S / 4) S F p [] c.as_chunks.ensures.front inside) ∙ groups_of-append p (take (p * 4) S) (get_or F p []) taken))

pub returns : goal.returns
returns c =
    let S = c.args.registers.now in
    let p = c.loop-place.place in
    let e : p ≡ length S / 4 = omega (arith, c.loop-place-test.false, c.loop-place.auto.place-end, c.as_chunks.ensures.front_len) in
    let whole : take (p * 4) S ≡ S = take_all (p * 4) S (omega (arith, e, c.requires.size)) in
    put_all c.args.groups.now c.loop-place.groups (groups_of (take (p * 4) S)) c.loop-place.invariant
    (omega (arith, length-groups_of p (take (p * 4) S) (omega (arith, ap length whole, e, c.requires.size)), e, c.requires.size))
    ∙ ap groups_of whole
