-- SPDX-License-Identifier: Apache-2.0
use Rattle.std.proofs.Common.{◌≡◌, ℕ, ◌+◌, ◌*◌, ◌-◌, ◌^◌, ◌≤◌, ◌%◌, List, length, take, drop, sym, ap, ◌∙◌, arith}
use Rattle.std.proofs.lemmas.Nat.{pow_below}
use Rattle.hll_coupons.specs.Fold.{fold_to, pairs}
use Rattle.hll_base.specs.Join.{join}
use Rattle.hll_registers.specs.Store.{Stored}
use Rattle.hll_kernels.specs.Packed.{AreRegisters}
use Rattle.hll_registers.proofs.Folding.{block-within, block-aligned, power-groups, folded-none, joined-next, joined-all, AreRegisters-fold_to}
use Rattle.hll_kernels.proofs.Registers.{AreRegisters-join}
use Rattle.hll_registers.proofs.folds.max_blocks.Goals as goal

pub loop-block-init : goal.loop-block-init
loop-block-init g c = folded-none c.args.values.now (g.R.Registers.stored c.args.src.now).registers c.args.lg_k c.requires.size

pub overflow_cast-block : goal.overflow_cast-block
overflow_cast-block g c =
    let x : Stored = g.R.Registers.stored c.args.src.now in
    let e : ℕ = c.args.lg_k in
    let block : ℕ = c.loop-block.block in
    let blocks : c.two_to-block-end.result ≡ 2 ^ (x.lg_k - e) = c.two_to-block-end.ensures ∙ ap (λ k. 2 ^ (k - e)) c.lg_k.ensures.lg_k in
    let within : (block + 1) * 2 ^ e ≤ 2 ^ x.lg_k = block-within x.lg_k e block c.lg_k.ensures.legal.high c.requires.most (omega (arith, blocks, c.loop-block-test.true)) in
    let at : block * length c.args.values.now ≡ block * 2 ^ e = ap (λ n. block * n) c.requires.size in
    record { fits = omega (arith, within, at, pow_below x.lg_k 22 (omega (arith, c.lg_k.ensures.legal.high))) }

pub max_into-requires-clause-within : goal.max_into-requires-clause-within
max_into-requires-clause-within g c =
    let x : Stored = g.R.Registers.stored c.args.src.now in
    let e : ℕ = c.args.lg_k in
    let block : ℕ = c.loop-block.block in
    let blocks : c.two_to-block-end.result ≡ 2 ^ (x.lg_k - e) = c.two_to-block-end.ensures ∙ ap (λ k. 2 ^ (k - e)) c.lg_k.ensures.lg_k in
    let within : (block + 1) * 2 ^ e ≤ 2 ^ x.lg_k = block-within x.lg_k e block c.lg_k.ensures.legal.high c.requires.most (omega (arith, blocks, c.loop-block-test.true)) in
    let at : block * length c.args.values.now ≡ block * 2 ^ e = ap (λ n. block * n) c.requires.size in
    omega (arith, within, at, c.loop-block.auto.values, c.requires.size)

pub max_into-requires-clause-aligned : goal.max_into-requires-clause-aligned
max_into-requires-clause-aligned g c =
    let e : ℕ = c.args.lg_k in
    ap (λ n. c.loop-block.block * n % 4) c.requires.size ∙ block-aligned e c.requires.least c.loop-block.block

pub max_into-requires-clause-groups : goal.max_into-requires-clause-groups
max_into-requires-clause-groups g c = ap (λ n. n % 4) (c.loop-block.auto.values ∙ c.requires.size) ∙ power-groups c.args.lg_k c.requires.least

pub loop-block-preserved : goal.loop-block-preserved
loop-block-preserved g c =
    let x : Stored = g.R.Registers.stored c.args.src.now in
    let e : ℕ = c.args.lg_k in
    let block : ℕ = c.loop-block.block in
    let blocks : c.two_to-block-end.result ≡ 2 ^ (x.lg_k - e) = c.two_to-block-end.ensures ∙ ap (λ k. 2 ^ (k - e)) c.lg_k.ensures.lg_k in
    let size : length c.loop-block.values ≡ 2 ^ e = c.loop-block.auto.values ∙ c.requires.size in
    let at : block * length c.args.values.now ≡ block * 2 ^ e = ap (λ n. block * n) c.requires.size in
    let step : c.max_into.new.values ≡ join c.loop-block.values (take (2 ^ e) (drop (block * 2 ^ e) x.registers)) =
    c.max_into.ensures ∙ (λ i. join c.loop-block.values (take (size i) (drop (at i) x.registers))) in
    step
    ∙ joined-next c.args.values.now c.loop-block.values x.registers x.lg_k e block c.lg_k.ensures.legal.high c.requires.most c.lg_k.ensures.legal.registers.size (omega (arith, blocks, c.loop-block-test.true)) c.loop-block.invariant

pub returns-clause-joined : goal.returns-clause-joined
returns-clause-joined g c =
    let x : Stored = g.R.Registers.stored c.args.src.now in
    let e : ℕ = c.args.lg_k in
    let blocks : c.two_to-block-end.result ≡ 2 ^ (x.lg_k - e) = c.two_to-block-end.ensures ∙ ap (λ k. 2 ^ (k - e)) c.lg_k.ensures.lg_k in
    c.loop-block.invariant
    ∙ joined-all c.args.values.now x.registers x.lg_k e c.loop-block.block c.requires.most c.lg_k.ensures.legal.registers.size (omega (arith, blocks, c.loop-block-test.false, c.loop-block.auto.block-end))

pub returns-clause-registers : goal.returns-clause-registers
returns-clause-registers g c are =
    let x : Stored = g.R.Registers.stored c.args.src.now in
    let e : ℕ = c.args.lg_k in
    let fold : List ℕ = fold_to (pairs x.registers) e in
    let folds : AreRegisters e fold = AreRegisters-fold_to x.registers x.lg_k e c.lg_k.ensures.legal.high c.lg_k.ensures.legal.registers in
    AreRegisters-join e c.args.values.now fold c.loop-block.values are (are.size ∙ sym folds.size) folds.small (returns-clause-joined g c)
