-- SPDX-License-Identifier: Apache-2.0
use Rattle.std.proofs.Common.{◌≡◌, ℕ, ◌+◌, ◌*◌, ◌-◌, ◌^◌, ◌≤◌, List, length, take, drop, sym, ap, ◌∙◌, arith}
use Rattle.hll_coupons.specs.Fold.{fold_to, pairs}
use Rattle.hll_base.specs.Join.{join}
use Rattle.hll_registers.specs.Store.{Stored}
use Rattle.hll_kernels.specs.Packed.{AreRegisters}
use Rattle.hll_registers.proofs.Folding.{block-within, folded-none, joined-next, joined-all, AreRegisters-fold_to}
use Rattle.hll_kernels.proofs.Registers.{AreRegisters-join}
use Rattle.hll_state.specs.Registers.{values}
use Rattle.hll_state.proofs.Values.{length-values, four_each}
use Rattle.hll_state.proofs.registers.max_in_lanes.Goals as goal

pub loop-block-init : goal.loop-block-init
loop-block-init g c =
    folded-none (values c.args.elements.now) (g.R.Registers.stored c.args.src.now).registers c.args.lg_k
    (length-values c.args.elements.now c.told-elements ∙ ap (λ n. 4 * n) c.requires.size ∙ four_each c.args.lg_k c.requires.least)

pub max_from_in_lanes-requires-clause-within : goal.max_from_in_lanes-requires-clause-within
max_from_in_lanes-requires-clause-within g c =
    let x : Stored = g.R.Registers.stored c.args.src.now in
    let e : ℕ = c.args.lg_k in
    let block : ℕ = c.loop-block.block in
    let blocks : c.two_to-block-end.result ≡ 2 ^ (x.lg_k - e) = c.two_to-block-end.ensures ∙ ap (λ k. 2 ^ (k - e)) c.lg_k.ensures.lg_k in
    let within : (block + 1) * 2 ^ e ≤ 2 ^ x.lg_k = block-within x.lg_k e block c.lg_k.ensures.legal.high c.requires.most (omega (arith, blocks, c.loop-block-test.true)) in
    let size : 4 * length c.args.elements.now ≡ 2 ^ e = ap (λ n. 4 * n) c.requires.size ∙ four_each e c.requires.least in
    let at : block * (4 * length c.args.elements.now) ≡ block * 2 ^ e = ap (λ n. block * n) size in
    omega (arith, within, at, c.loop-block.auto.elements, size)

pub loop-block-preserved : goal.loop-block-preserved
loop-block-preserved g c =
    let x : Stored = g.R.Registers.stored c.args.src.now in
    let e : ℕ = c.args.lg_k in
    let block : ℕ = c.loop-block.block in
    let V : List ℕ = values c.args.elements.now in
    let W : List ℕ = values c.loop-block.elements in
    let blocks : c.two_to-block-end.result ≡ 2 ^ (x.lg_k - e) = c.two_to-block-end.ensures ∙ ap (λ k. 2 ^ (k - e)) c.lg_k.ensures.lg_k in
    let size : 4 * length c.args.elements.now ≡ 2 ^ e = ap (λ n. 4 * n) c.requires.size ∙ four_each e c.requires.least in
    let now : 4 * length c.loop-block.elements ≡ 2 ^ e = ap (λ n. 4 * n) c.loop-block.auto.elements ∙ size in
    let at : block * (4 * length c.args.elements.now) ≡ block * 2 ^ e = ap (λ n. block * n) size in
    let step : values c.max_from_in_lanes.new.elements ≡ join W (take (2 ^ e) (drop (block * 2 ^ e) x.registers)) =
    c.max_from_in_lanes.ensures ∙ (λ i. join W (take (now i) (drop (at i) x.registers))) in
    step ∙ joined-next V W x.registers x.lg_k e block c.lg_k.ensures.legal.high c.requires.most c.lg_k.ensures.legal.registers.size (omega (arith, blocks, c.loop-block-test.true)) c.loop-block.invariant

pub returns-clause-joined : goal.returns-clause-joined
returns-clause-joined g c =
    let x : Stored = g.R.Registers.stored c.args.src.now in
    let e : ℕ = c.args.lg_k in
    let blocks : c.two_to-block-end.result ≡ 2 ^ (x.lg_k - e) = c.two_to-block-end.ensures ∙ ap (λ k. 2 ^ (k - e)) c.lg_k.ensures.lg_k in
    c.loop-block.invariant
    ∙ joined-all (values c.args.elements.now) x.registers x.lg_k e c.loop-block.block c.requires.most c.lg_k.ensures.legal.registers.size (omega (arith, blocks, c.loop-block-test.false, c.loop-block.auto.block-end))

pub returns-clause-registers : goal.returns-clause-registers
returns-clause-registers g c are =
    let x : Stored = g.R.Registers.stored c.args.src.now in
    let e : ℕ = c.args.lg_k in
    let fold : List ℕ = fold_to (pairs x.registers) e in
    let folds : AreRegisters e fold = AreRegisters-fold_to x.registers x.lg_k e c.lg_k.ensures.legal.high c.lg_k.ensures.legal.registers in
    AreRegisters-join e (values c.args.elements.now) fold (values c.loop-block.elements) are (are.size ∙ sym folds.size) folds.small (returns-clause-joined g c)
