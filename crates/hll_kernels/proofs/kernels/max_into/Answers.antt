-- SPDX-License-Identifier: Apache-2.0
use Rattle.std.proofs.Common.{◌≡◌, ◌<◌, ◌-◌, ◌*◌, ◌/◌, ◌++◌, length, take, drop, sym, ap, ◌∙◌, arith}
use Rattle.std.proofs.lemmas.List.{length-take-le, length-drop, take-append-drop}
use borrow.Rule.Slice.PartMut.{mid_of, put_mid}
use Rattle.hll_base.specs.Join.{join}
use Rattle.hll_kernels.specs.Lanes.{max_at}
use Rattle.hll_kernels.proofs.Blocks.{take_block}
use Rattle.hll_kernels.proofs.Parts.{max_none, max_step, max_end}
use Rattle.hll_kernels.proofs.Registers.{AreRegisters-join}
use Rattle.hll_kernels.proofs.kernels.max_into.Goals as goal

pub loop-place-init : goal.loop-place-init
loop-place-init c = sym (max_none 0 c.args.dst.now)

pub loop-place-preserved : goal.loop-place-preserved
loop-place-preserved c =
    let R = c.args.dst.now in
    let S = c.args.src.now in
    let p = c.loop-place.place in
    let inside : p < length S / 64 = omega (arith, c.loop-place-test.true, c.as_chunks.ensures.front_len) in
    c.max_64.ensures
    ∙ max_step (64 * p) R c.loop-place.dst (take (p * 64) S) _ c.loop-place.invariant (omega (arith, length-take-le (p * 64) S (omega arith))) (omega (arith, c.requires))
    ∙ ap (max_at 0 R) (sym (take_block 64 (length S / 64) S c.as_chunks.result.0.now p _ c.as_chunks.ensures.front inside))

pub returns-clause-joined : goal.returns-clause-joined
returns-clause-joined c =
    let R = c.args.dst.now in
    let S = c.args.src.now in
    let V = c.loop-place.dst in
    let p = c.loop-place.place in
    let rest = c.as_chunks.result.1.now in
    let B : p ≡ length c.as_chunks.result.0.now = omega (arith, c.loop-place-test.false, c.loop-place.auto.place-end) in
    let e : p ≡ length S / 64 = B ∙ c.as_chunks.ensures.front_len in
    let cut : rest ≡ drop (p * 64) S = c.as_chunks.ensures.back ∙ ap (λ n. drop (n * 64) S) (sym e) in
    let same : length V ≡ length R = c.loop-place.auto.dst in
    ap (λ b. put_mid (64 * b) (length V - 64 * b) V c.max_one_by_one.new.dst) (sym B)
    ∙ max_end (64 * p) (length V - 64 * p) R V c.max_one_by_one.new.dst (take (p * 64) S) rest c.loop-place.invariant
    (omega (arith, length-take-le (p * 64) S (omega (arith, e)))) (omega (arith, e, c.requires)) (omega (arith, ap length cut, length-drop (p * 64) S, e, c.requires))
    (c.max_one_by_one.ensures ∙ ap (λ b. join (mid_of (64 * b) (length V - 64 * b) V) rest) (sym B))
    ∙ ap (join R) (ap (λ Q. take (p * 64) S ++ Q) cut ∙ take-append-drop (p * 64) S)

pub returns-clause-registers : goal.returns-clause-registers
returns-clause-registers c k are other = AreRegisters-join k c.args.dst.now c.args.src.now _ are (are.size ∙ sym other.size) other.small (returns-clause-joined c)
