-- SPDX-License-Identifier: Apache-2.0
use Rattle.std.proofs.Common.{arith, ◌≡◌, ◌≤◌, ◌+◌, ◌-◌, ◌*◌, ◌^◌, ◌%◌, ◌++◌, ℕ, length, sym, ap, subst, ◌∙◌, refl}
use Rattle.std.proofs.Math.Pow.{pow_mono}
use Rattle.std.proofs.lemmas.List.{take_all}
use Rattle.hll_registers.specs.Store.{Stored}
use Rattle.hll_registers.proofs.Folding.{block-within, power-groups, whole}
use Rattle.hll_registers.proofs.SameRegisters.{one_more}
use Rattle.hll_registers.proofs.same_registers.have_same_registers.Goals as goal

pub have_same_block-requires-clause-within : goal.have_same_block-requires-clause-within
have_same_block-requires-clause-within g c =
    let x : Stored = g.R.Registers.stored c.args.left.now in
    let e : ℕ = c.min-lg_size.result in
    let block : ℕ = c.loop-block.block in
    let blocks : c.two_to-block-end.result ≡ 2 ^ (x.lg_k - e) = c.two_to-block-end.ensures ∙ ap (λ k. 2 ^ (k - e)) c.lg_k-2.ensures.lg_k in
    let within : (block + 1) * 2 ^ e ≤ 2 ^ x.lg_k =
    block-within x.lg_k e block c.lg_k.ensures.legal.high (omega (arith, c.min-lg_size.ensures, c.lg_k.ensures.lg_k)) (omega (arith, blocks, c.loop-block-test.true)) in
    let at : block * c.two_to-size.result ≡ block * 2 ^ e = ap (λ n. block * n) c.two_to-size.ensures in
    omega (arith, within, at, c.two_to-size.ensures)

pub have_same_block-requires-clause-others : goal.have_same_block-requires-clause-others
have_same_block-requires-clause-others g c =
    subst (λ k. c.loop-block.block * c.two_to-size.result + c.two_to-size.result ≤ 2 ^ k) c.requires (have_same_block-requires-clause-within g c)

pub have_same_block-requires-clause-groups : goal.have_same_block-requires-clause-groups
have_same_block-requires-clause-groups g c =
    ap (λ n. n % 4) c.two_to-size.ensures ∙ power-groups c.min-lg_size.result (omega (arith, c.min-lg_size.ensures, c.lg_k.ensures.lg_k, c.lg_k.ensures.legal.low))

pub have_same_block-requires-clause-few : goal.have_same_block-requires-clause-few
have_same_block-requires-clause-few g c = omega (arith, c.two_to-size.ensures, pow_mono {i = c.min-lg_size.result} {j = 14} (omega (arith, c.min-lg_size.ensures)))

pub loop-block-preserved : goal.loop-block-preserved
loop-block-preserved g c =
    let i : ℕ = c.loop-block.block in
    let n : ℕ = c.two_to-size.result in
    one_more i n (g.R.Registers.stored c.args.left.now).registers
    ∙ (λ j. c.loop-block.invariant j ++ c.have_same_block.ensures.0 c.if-not-have_same_block.false j)
    ∙ sym (one_more i n (g.R.Registers.stored c.args.right.now).registers)

pub returns : goal.returns
returns g c =
    let x : Stored = g.R.Registers.stored c.args.left.now in
    let y : Stored = g.R.Registers.stored c.args.right.now in
    let e : ℕ = c.min-lg_size.result in
    let blocks : c.loop-block.block ≡ 2 ^ (x.lg_k - e) = omega (arith, c.loop-block-test.false, c.loop-block.auto.block-end, c.two_to-block-end.ensures ∙ ap (λ k. 2 ^ (k - e)) c.lg_k-2.ensures.lg_k) in
    let size : c.loop-block.block * c.two_to-size.result ≡ 2 ^ x.lg_k =
    (λ i. blocks i * c.two_to-size.ensures i) ∙ whole x.lg_k e 0 c.lg_k.ensures.legal.high (omega (arith, c.min-lg_size.ensures, c.lg_k.ensures.lg_k)) in
    let all : length x.registers ≤ c.loop-block.block * c.two_to-size.result = omega (arith, size, c.lg_k.ensures.legal.registers.size) in
    let others : length y.registers ≤ c.loop-block.block * c.two_to-size.result = omega (arith, size, c.lg_k-lg_k.ensures.legal.registers.size, ap (λ k. 2 ^ k) c.requires) in (
      λ t. sym (take_all _ x.registers all) ∙ c.loop-block.invariant ∙ take_all _ y.registers others,
      λ is. refl,
    )
