-- SPDX-License-Identifier: Apache-2.0
use Rattle.std.proofs.Common.{◌≡◌, ℕ, true, sym, ◌∙◌, arith}
use Rattle.std.proofs.lemmas.Bool.{cond-true}
use Rattle.hll_state.specs.Header.{are_few, most_elements}
use Rattle.hll_state.proofs.Rooms.{few_most, most_few_small}
use Rattle.hll_state.proofs.memory.grown_len.Goals as goal

pub returns-clause-enough : goal.returns-clause-enough
returns-clause-enough c =
    let k : ℕ = c.args.lg_k in
    let n : ℕ = c.args.count in
    let few : are_few k n ≡ true = sym c.are_few.ensures ∙ c.if-not-are_few.false in
    omega (arith, cond-true (are_few k n) n (most_elements k) few, few_most k n few, c.most_few.ensures, c.saturating_add-grown.ensures, c.min.ensures)

pub returns-clause-most : goal.returns-clause-most
returns-clause-most c = omega (arith, c.most_few.ensures, c.min.ensures, most_few_small c.args.lg_k c.requires.low)
