-- SPDX-License-Identifier: Apache-2.0
use Rattle.std.proofs.Common.{◌≡◌, ◌<◌, ◌*◌, ◌/◌, length, take, sym, ap, ◌∙◌, arith}
use Rattle.std.proofs.lemmas.List.{length-take-le, take_all}
use Rattle.hll_base.specs.Join.{join}
use Rattle.hll_kernels.specs.Lanes.{max_at}
use Rattle.hll_kernels.specs.Packed.{fields}
use Rattle.hll_kernels.proofs.Blocks.{take_block}
use Rattle.hll_kernels.proofs.Parts.{max_none, max_step, max_all}
use Rattle.hll_kernels.proofs.SixBitLanes.{length-fields, fields-append}
use Rattle.hll_kernels.proofs.groups.max_one_by_one.Goals as goal

pub loop-place-init : goal.loop-place-init
loop-place-init c = sym (max_none 0 c.args.values.now)

pub loop-place-preserved : goal.loop-place-preserved
loop-place-preserved c =
    let R = c.args.values.now in
    let B = c.args.bytes.now in
    let p = c.loop-place.place in
    let inside : p < length B / 3 = omega (arith, c.loop-place-test.true, c.as_chunks.ensures.front_len) in
    let taken : length (take (p * 3) B) ≡ 3 * p = omega (arith, length-take-le (p * 3) B (omega arith)) in
    c.max_with_group.ensures
    ∙ max_step (4 * p) R c.loop-place.values (fields (take (p * 3) B)) (fields _) c.loop-place.invariant (sym (length-fields p (take (p * 3) B) taken)) (omega (arith, c.requires))
    ∙ ap (max_at 0 R) (sym (ap fields (take_block 3 (length B / 3) B c.as_chunks.result.0.now p _ c.as_chunks.ensures.front inside) ∙ fields-append p (take (p * 3) B) _ taken))

pub returns : goal.returns
returns c =
    let B = c.args.bytes.now in
    let p = c.loop-place.place in
    let e : p ≡ length B / 3 = omega (arith, c.loop-place-test.false, c.loop-place.auto.place-end, c.as_chunks.ensures.front_len) in
    let whole : take (p * 3) B ≡ B = take_all (p * 3) B (omega (arith, e, c.requires)) in
    max_all c.args.values.now c.loop-place.values (fields (take (p * 3) B)) c.loop-place.invariant
    (omega (arith, ap length whole, length-fields p (take (p * 3) B) (omega (arith, ap length whole, e, c.requires)), c.requires))
    ∙ ap (λ Q. join c.args.values.now (fields Q)) whole
