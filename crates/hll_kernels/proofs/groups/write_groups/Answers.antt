-- SPDX-License-Identifier: Apache-2.0
use Rattle.std.proofs.Common.{◌≡◌, ◌<◌, ◌*◌, ◌/◌, ◌≤◌, ◌++◌, ◌∷◌, ℕ, List, [], length, get_or, take, sym, ap, ◌∙◌, arith}
use Rattle.std.specs.List.{flat_map}
use Rattle.std.specs.Simd.Lanes.{put_chunk}
use Rattle.std.proofs.lemmas.Grind.{flat_map-append}
use Rattle.std.proofs.lemmas.List.{length-take-le, take_all}
use Rattle.std.proofs.lemmas.List.Elements.{All-take}
use Rattle.hll_kernels.specs.Lanes.{groups_of}
use Rattle.hll_kernels.proofs.Blocks.{take_block, All-block}
use Rattle.hll_kernels.proofs.Parts.{put_none, put_step, put_all}
use Rattle.hll_kernels.proofs.SixBitLanes.{groups_of-append, length-packed, field_bytes-groups_of}
use Rattle.hll_kernels.proofs.groups.write_groups.Goals as goal

-- the bytes of the groups of registers
abbrev packed : List ℕ → List ℕ
packed R = flat_map (λ g. g) (groups_of R)

packed-append : (k : ℕ) (R Q : List ℕ) → length R ≡ 4 * k → packed (R ++ Q) ≡ packed R ++ packed Q
packed-append k R Q e = ap (flat_map (λ g. g)) (groups_of-append k R Q e) ∙ flat_map-append (λ g. g) (groups_of R) (groups_of Q)

pub loop-place-init : goal.loop-place-init
loop-place-init c = sym (put_none 0 c.args.bytes.now)

pub write_four_groups-requires-clause-small : goal.write_four_groups-requires-clause-small
write_four_groups-requires-clause-small c =
    All-block 16 (length c.args.registers.now / 16) c.args.registers.now c.as_chunks.result.0.now c.loop-place.place [] c.as_chunks.ensures.front
    (omega (arith, c.loop-place-test.true, c.as_chunks.ensures.front_len)) (λ v. v ≤ 63) c.requires.small

pub loop-place-preserved : goal.loop-place-preserved
loop-place-preserved c =
    let G = c.args.bytes.now in
    let S = c.args.registers.now in
    let F = c.as_chunks.result.0.now in
    let p = c.loop-place.place in
    let inside : p < length S / 16 = omega (arith, c.loop-place-test.true, c.as_chunks.ensures.front_len) in
    let taken : length (take (p * 16) S) ≡ 4 * (4 * p) = omega (arith, length-take-le (p * 16) S (omega arith)) in
    let long : 12 * p ≡ length (packed (take (p * 16) S)) = omega (arith, length-packed (4 * p) (take (p * 16) S) taken (All-take (λ v. v ≤ 63) (p * 16) S c.requires.small)) in
    c.write_four_groups.ensures
    ∙ put_step (12 * p) G c.loop-place.bytes (packed (take (p * 16) S)) (packed (get_or F p [])) c.loop-place.invariant long (omega (arith, c.requires.size, inside))
    ∙ ap (put_chunk 0 G) (sym (ap packed (take_block 16 (length S / 16) S F p [] c.as_chunks.ensures.front inside) ∙ packed-append (4 * p) (take (p * 16) S) (get_or F p []) taken))

pub returns : goal.returns
returns c =
    let S = c.args.registers.now in
    let p = c.loop-place.place in
    let e : p ≡ length S / 16 = omega (arith, c.loop-place-test.false, c.loop-place.auto.place-end, c.as_chunks.ensures.front_len) in
    let whole : take (p * 16) S ≡ S = take_all (p * 16) S (omega (arith, e, c.requires.whole)) in
    let fours : length S ≡ 4 * (4 * p) = omega (arith, e, c.requires.whole) in
    let written : c.loop-place.bytes ≡ packed S =
    put_all c.args.bytes.now c.loop-place.bytes (packed (take (p * 16) S)) c.loop-place.invariant
    (omega (arith, ap (λ R. length (packed R)) whole, length-packed (4 * p) S fours c.requires.small, fours, c.requires.size)) ∙ ap packed whole in
    ap (λ B. B ++ 0 ∷ []) written ∙ field_bytes-groups_of (4 * p) S fours c.requires.small
