-- SPDX-License-Identifier: Apache-2.0
use Rattle.std.proofs.Common.{◌≡◌, ℕ, ◌*◌, ◌-◌, ◌^◌, min, true, List, ◌++◌, length, take, drop, sym, ap, ◌∙◌, arith}
use Rattle.std.proofs.Math.Seq.{take-append_seam}
use Rattle.std.proofs.lemmas.List.{length-take-le}
use Rattle.hll_registers.specs.Store.{Stored}
use Rattle.hll_sketch.specs.Value.{Sketch, is_empty, registers}
use Rattle.hll_state.specs.Counter.{sketch_in}
use Rattle.hll_state.specs.Registers.{values}
use Rattle.hll_state.proofs.MergedRegisters.{registers_copied}
use Rattle.hll_state.proofs.Values.{four_each}
use Rattle.hll_state.proofs.header.Header.merge_bytes.Goals as goal

pub write_all-requires : goal.write_all-requires
write_all-requires c =
    let k : ℕ = c.args.self.now.lg_k in
    let body : List (List ℕ) = c.args.body.now in
    let size : length c.args.src.now.registers ≡ 2 ^ k = c.lg_k.ensures.legal.registers.size ∙ ap (λ n. 2 ^ n) (sym (c.if-self-lg_k.false ∙ c.lg_k.ensures.lg_k)) in
    let whole : 4 * 2 ^ (k - 2) ≡ 2 ^ k = four_each k c.requires.lg_k.low in
    omega (arith, ap length c.values.ensures, size, whole, c.two_to-len.ensures, length-take-le c.two_to-len.result body c.if-body-len.false)

pub returns-clause-merged : goal.returns-clause-merged
returns-clause-merged c = λ some _.
    let x : Stored = c.args.src.now in
    let s : Sketch = sketch_in c.args.self.now c.args.body.now in
    let k : ℕ = s.lg_k in
    let n : ℕ = c.two_to-len.result in
    let new = c.write_all.new.elements in
    let body = c.args.body.now in
    let long : 2 ^ (k - 2) ≡ length new = omega (arith, c.write_all.auto.elements, c.two_to-len.ensures, length-take-le n body c.if-body-len.false) in
    let first : take (2 ^ (k - 2)) (new ++ drop n body) ≡ new = ap (λ m. take m (new ++ drop n body)) long ∙ take-append_seam new (drop n body) in
    let copy : values (take (2 ^ (k - 2)) (new ++ drop n body)) ≡ x.registers = ap values first ∙ c.write_all.ensures ∙ c.values.ensures in
    let none : is_empty s ≡ true = sym (c.is_empty.ensures.empty c.args.body.now c.requires some) ∙ c.if-not-is_empty.false in
    ap (λ st. record { lg_k = k; width = s.width; content = registers (values (take (2 ^ (k - 2)) (new ++ drop n body))) st }) c.estimate_state.ensures
    ∙ registers_copied s x _ none (c.if-self-lg_k.false ∙ c.lg_k.ensures.lg_k) c.lg_k.ensures.legal copy

pub returns-clause-takes : goal.returns-clause-takes
returns-clause-takes c = λ done len enough.
    let k : ℕ = c.args.self.now.lg_k in
    let same : k ≡ min k c.args.src.now.lg_k = omega (arith, c.if-self-lg_k.false, c.lg_k.ensures.lg_k) in
    omega (arith, enough, ap (λ k. 2 ^ (k - 2)) same)
