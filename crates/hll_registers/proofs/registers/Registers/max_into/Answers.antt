-- SPDX-License-Identifier: Apache-2.0
use Rattle.std.proofs.Common.{◌≡◌, ℕ, ◌+◌, ◌<◌, ◌≤◌, length, get_or, take, drop, sym, ◌∙◌, arith, List}
use Rattle.std.proofs.lemmas.Nat.{pow_below}
use Rattle.std.proofs.lemmas.List.{length-take-le, length-drop, get_or-take, get_or-drop}
use Rattle.hll_base.proofs.Joins.{is_join}
use Rattle.hll_registers.specs.Store.{Stored}
use Rattle.hll_registers.proofs.registers.Registers.max_into.Goals as goal

pub overflow_add-first : goal.overflow_add-first
overflow_add-first g c =
    let k : ℕ = (g.Self.Registers.stored c.args.self.now).lg_k in
    omega (arith, c.requires.within, c.loop-index-test.true, pow_below k 22 (omega (arith, c.requires.legal.high)))

pub returns : goal.returns
returns g c =
    let x : Stored = g.Self.Registers.stored c.args.self.now in
    let n : ℕ = length c.args.values.now in
    let after : List ℕ = drop c.args.first x.registers in
    let many : n ≤ length after = omega (arith, length-drop c.args.first x.registers, c.requires.within, c.requires.legal.registers.size) in
    is_join c.args.values.now (take n after) c.loop-index.values (sym (length-take-le n after many)) c.loop-index.invariant.size
    (λ k h.
    let within : k < n = omega (arith, c.loop-index.invariant.size) in
    let there : get_or (take n after) k 0 ≡ get_or x.registers (c.args.first + k) 0 = get_or-take n after k 0 within ∙ get_or-drop c.args.first x.registers k 0 in
    omega (arith, there, c.loop-index.invariant.done k (omega (arith, within, c.loop-index-test.false))))
