-- SPDX-License-Identifier: Apache-2.0
use Rattle.std.proofs.Common.{◌≡◌, ◌≤◌, ◌+◌, ◌-◌, ◌*◌, ◌^◌, ◌%◌, ◌++◌, ℕ, List, length, take, drop, sym, ap, subst, ◌∙◌, arith}
use Rattle.std.proofs.Math.Pow.{pow_mono}
use Rattle.std.proofs.Math.Seq.{take-add}
use Rattle.std.proofs.lemmas.List.{length-take, take_all}
use Rattle.hll_kernels.specs.WeightSums.{AreSumsOf}
use Rattle.hll_kernels.proofs.WeightParts.{AreSumsOf-append, AreSumsOf-fits}
use Rattle.hll_registers.specs.Store.{Stored}
use Rattle.hll_registers.proofs.Folding.{block-aligned, block-within, power-groups, whole}
use Rattle.hll_registers.proofs.registers.Registers.weight_sums.Goals as goal

pub weight_sums_at-requires-clause-within : goal.weight_sums_at-requires-clause-within
weight_sums_at-requires-clause-within g c =
    let x : Stored = g.Self.Registers.stored c.args.self.now in
    let e : ℕ = c.min-lg_size.result in
    let block : ℕ = c.loop-block.block in
    let blocks : c.two_to-block-end.result ≡ 2 ^ (x.lg_k - e) = c.two_to-block-end.ensures ∙ ap (λ k. 2 ^ (k - e)) c.lg_k-2.ensures.lg_k in
    let within : (block + 1) * 2 ^ e ≤ 2 ^ x.lg_k =
    block-within x.lg_k e block c.lg_k.ensures.legal.high (omega (arith, c.min-lg_size.ensures, c.lg_k.ensures.lg_k)) (omega (arith, blocks, c.loop-block-test.true)) in
    let at : block * c.two_to-size.result ≡ block * 2 ^ e = ap (λ n. block * n) c.two_to-size.ensures in
    omega (arith, within, at, c.two_to-size.ensures)

pub weight_sums_at-requires-clause-aligned : goal.weight_sums_at-requires-clause-aligned
weight_sums_at-requires-clause-aligned g c =
    ap (λ n. c.loop-block.block * n % 4) c.two_to-size.ensures
    ∙ block-aligned c.min-lg_size.result (omega (arith, c.min-lg_size.ensures, c.lg_k.ensures.lg_k, c.lg_k.ensures.legal.low, c.lg_block.ensures.least)) c.loop-block.block

pub weight_sums_at-requires-clause-groups : goal.weight_sums_at-requires-clause-groups
weight_sums_at-requires-clause-groups g c =
    ap (λ n. n % 4) c.two_to-size.ensures ∙ power-groups c.min-lg_size.result (omega (arith, c.min-lg_size.ensures, c.lg_k.ensures.lg_k, c.lg_k.ensures.legal.low, c.lg_block.ensures.least))

pub weight_sums_at-requires-clause-few : goal.weight_sums_at-requires-clause-few
weight_sums_at-requires-clause-few g c = omega (arith, c.two_to-size.ensures, pow_mono {i = c.min-lg_size.result} {j = 14} (omega (arith, c.min-lg_size.ensures, c.lg_block.ensures.most)))

-- the registers of some blocks and of one more block
one_more : (i n : ℕ) (R : List ℕ) → take ((i + 1) * n) R ≡ take (i * n) R ++ take n (drop (i * n) R)
one_more i n R = ap (λ m. take m R) (let next : (i + 1) * n ≡ i * n + n = omega arith in next) ∙ take-add (i * n) n R

-- a part has few registers
few : (n k : ℕ) (R : List ℕ) → k ≤ 21 → length R ≡ 2 ^ k → length (take n R) ≤ 2 ^ 23
few n k R h size = let less : 2 ^ k ≤ 2 ^ 21 = pow_mono h in omega (arith, length-take n R, less, size)

pub plus-sums-requires : goal.plus-sums-requires
plus-sums-requires g c =
    let x : Stored = g.Self.Registers.stored c.args.self.now in
    let i : ℕ = c.loop-block.block in
    let n : ℕ = c.two_to-size.result in
    let R : List ℕ = x.registers in
    let fit = AreSumsOf-fits _ _ (take (i * n) R) (take n (drop (i * n) R)) (take ((i + 1) * n) R) c.loop-block.invariant c.weight_sums_at.ensures (one_more i n R) (few ((i + 1) * n) x.lg_k x.registers c.lg_k.ensures.legal.high c.lg_k.ensures.legal.registers.size) in
    record { low = fit.0; high = fit.1 }

pub loop-block-preserved : goal.loop-block-preserved
loop-block-preserved g c =
    subst (AreSumsOf _) (sym (one_more c.loop-block.block c.two_to-size.result (g.Self.Registers.stored c.args.self.now).registers))
    (AreSumsOf-append _ _ _ _ _ c.loop-block.invariant c.weight_sums_at.ensures c.plus-sums.ensures.low c.plus-sums.ensures.high)

pub returns : goal.returns
returns g c =
    let x : Stored = g.Self.Registers.stored c.args.self.now in
    let e : ℕ = c.min-lg_size.result in
    let blocks : c.loop-block.block ≡ 2 ^ (x.lg_k - e) = omega (arith, c.loop-block-test.false, c.loop-block.auto.block-end, c.two_to-block-end.ensures ∙ ap (λ k. 2 ^ (k - e)) c.lg_k-2.ensures.lg_k) in
    let all : c.loop-block.block * c.two_to-size.result ≡ length x.registers =
    (λ i. blocks i * c.two_to-size.ensures i) ∙ whole x.lg_k e 0 c.lg_k.ensures.legal.high (omega (arith, c.min-lg_size.ensures, c.lg_k.ensures.lg_k)) ∙ sym c.lg_k.ensures.legal.registers.size in
    subst (AreSumsOf _) (take_all (c.loop-block.block * c.two_to-size.result) x.registers (omega (arith, all))) c.loop-block.invariant
