-- SPDX-License-Identifier: Apache-2.0
use Rattle.std.proofs.Common.{◌==◌, ◌+◌, ◌*◌, ◌/◌, ◌≤◌, ◌≡◌, length, sym, subst, arith, ◌∙◌, ap}
use Rattle.std.specs.List.{position}
use Rattle.hll_text.proofs.PartLemmas.{take-rest}
use Rattle.hll_text.proofs.ByteLemmas.{NoneBefore, none_in_block, found_in_block, found_after, not_found_after}
use Rattle.hll_text.proofs.bytes.first_of.Goals as goal

pub returns-then-marks-ne0 : goal.returns-then-marks-ne0
returns-then-marks-ne0 c =
    let room : 64 * c.loop-block.block + 64 ≤ length c.args.text.now = omega (arith, c.loop-block-test.true) in
    found_in_block (λ b. b == c.args.byte) c.args.text.now (64 * c.loop-block.block) c.loop-block.invariant room _ c.marks_at-marks.ensures (omega (arith, c.if-marks-ne0.true)) c.marks_at-marks.type_inv

pub loop-block-preserved : goal.loop-block-preserved
loop-block-preserved c =
    let room : 64 * c.loop-block.block + 64 ≤ length c.args.text.now = omega (arith, c.loop-block-test.true) in
    let next : 64 * c.loop-block.block + 64 ≡ 64 * (c.loop-block.block + 1) = omega arith in
    subst (NoneBefore (λ b. b == c.args.byte) c.args.text.now) next
    (none_in_block (λ b. b == c.args.byte) c.args.text.now (64 * c.loop-block.block) c.loop-block.invariant room (sym c.marks_at-marks.ensures ∙ c.if-marks-ne0.false))

pub returns-in-None : goal.returns-in-None
returns-in-None c =
    let start : 64 * c.loop-block.block ≡ length c.args.text.now / 64 * 64 = omega (arith, c.loop-block-test.false, c.loop-block.auto.block-end) in
    not_found_after (λ b. b == c.args.byte) c.args.text.now _ (subst (NoneBefore (λ b. b == c.args.byte) c.args.text.now) start c.loop-block.invariant) (omega arith)
    (ap (position (λ b. b == c.args.byte)) (sym (take-rest (length c.args.text.now / 64 * 64) c.args.text.now)) ∙ sym c.in-None.ensures)

pub returns-in-Some : goal.returns-in-Some
returns-in-Some c =
    let start : 64 * c.loop-block.block ≡ length c.args.text.now / 64 * 64 = omega (arith, c.loop-block-test.false, c.loop-block.auto.block-end) in
    found_after (λ b. b == c.args.byte) c.args.text.now _ (subst (NoneBefore (λ b. b == c.args.byte) c.args.text.now) start c.loop-block.invariant) c.in-Some.at (omega arith)
    (ap (position (λ b. b == c.args.byte)) (sym (take-rest (length c.args.text.now / 64 * 64) c.args.text.now)) ∙ sym c.in-Some.ensures)
