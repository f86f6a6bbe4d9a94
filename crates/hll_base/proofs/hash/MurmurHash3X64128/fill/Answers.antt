-- SPDX-License-Identifier: Apache-2.0
use Rattle.std.proofs.Common.{◌≡◌, List, ℕ, ◌++◌, length, take, append_assoc, ap, refl, sym, ◌∙◌, arith}
use Rattle.std.proofs.lemmas.List.{length-append, length-take, append-nil, take-append-drop}
use Rattle.std.proofs.Math.ListN.{drop_of_length-le}
use Rattle.hll_base.specs.Hash.{Halves, HashState, after_block, after_bytes}
use Rattle.hll_base.proofs.Hashing.{after_bytes-block, zeros_after}
use Rattle.hll_base.proofs.hash.MurmurHash3X64128.fill.Goals as goal

pub returns-then-end-eq-BLOCK-clause-same : goal.returns-then-end-eq-BLOCK-clause-same
returns-then-end-eq-BLOCK-clause-same c =
    let halves : Halves = c.self.inside.halves in
    let partial : List ℕ = take c.self.inside.partial c.self.inside.block in
    let front : List ℕ = c.split_at.result.0.now in
    let rest : List ℕ = c.split_at.result.1.now in
    let count : ℕ = c.args.self.now.count in
    let all : front ++ rest ≡ c.args.bytes.now = (λ i. c.split_at.ensures.front i ++ c.split_at.ensures.back i) ∙ take-append-drop c.min.result c.args.bytes.now in
    let size : length (partial ++ front) ≡ 16 = omega (arith, length-append partial front, length-take c.self.inside.partial c.self.inside.block, c.self.told, c.if-end-eq-BLOCK.true) in
    let full : c.extend.new.block ≡ partial ++ front =
    c.extend.ensures ∙ ap (λ xs. partial ++ front ++ xs) (drop_of_length-le c.self.inside.block (omega arith)) ∙ append-nil (partial ++ front) in
    ap (λ h. after_bytes h rest count) (c.absorb.ensures ∙ ap (after_block halves) full)
    ∙ sym (after_bytes-block halves (partial ++ front) rest count size)
    ∙ ap (λ xs. after_bytes halves xs count) (append_assoc partial front rest ∙ ap (λ xs. partial ++ xs) all)
    ∙ ap (λ (s : HashState). after_bytes s.halves (s.partial ++ c.args.bytes.now) count) c.self.view_is

pub invariant_of-self-else-end-eq-BLOCK : goal.invariant_of-self-else-end-eq-BLOCK
invariant_of-self-else-end-eq-BLOCK c =
    (omega arith, zeros_after c.self.inside.partial _ c.self.inside.block c.split_at.result.0.now _ refl c.extend.ensures (omega arith) c.self.invariant.1)
