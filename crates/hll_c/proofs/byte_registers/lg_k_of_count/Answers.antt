-- SPDX-License-Identifier: Apache-2.0
use Rattle.std.proofs.Common.{sym, ◌∙◌, arith, inl, inr}
use Rattle.hll_c.proofs.Powers.{top_of, few_or_many, no_power}
use Rattle.hll_c.proofs.byte_registers.lg_k_of_count.Goals as goal
use Rattle.hll_c.proofs.byte_registers.lg_k_of_count.Goals.{then-count-two_to-via-then-count-two_to, then-count-two_to-via-else-count-two_to+then-two_to-count}

pub returns-then-count-two_to-clause-err : goal.returns-then-count-two_to-clause-err
returns-then-count-two_to-clause-err c = (
  c.new.ensures,
  λ k. few_or_many c.args.count k (elim c.then-count-two_to.branch [
    | then-count-two_to-via-then-count-two_to w ↦ inl (omega (arith, w.if-count-two_to.true, c.two_to.ensures))
    | then-count-two_to-via-else-count-two_to+then-two_to-count w ↦ inr (omega (arith, w.if-two_to-count.true, w.two_to-else-count-two_to.ensures))
  ]),
)

pub two_to-requires-2 : goal.two_to-requires-2
two_to-requires-2 c =
    let top = top_of c.args.count (omega (arith, c.if-count-two_to.false, c.two_to.ensures)) (omega (arith, c.if-two_to-count.false, c.two_to-else-count-two_to.ensures)) in
    top.high

pub returns-then-two_to-count-2-clause-err : goal.returns-then-two_to-count-2-clause-err
returns-then-two_to-count-2-clause-err c =
    let top = top_of c.args.count (omega (arith, c.if-count-two_to.false, c.two_to.ensures)) (omega (arith, c.if-two_to-count.false, c.two_to-else-count-two_to.ensures)) in
    (c.new-then-two_to-count-2.ensures, λ k. no_power c.args.count _ k top (λ is. c.if-two_to-count-2.true (c.two_to-2.ensures ∙ is)))

pub returns-clause-ok : goal.returns-clause-ok
returns-clause-ok c =
    let top = top_of c.args.count (omega (arith, c.if-count-two_to.false, c.two_to.ensures)) (omega (arith, c.if-two_to-count.false, c.two_to-else-count-two_to.ensures)) in
    (record { low = top.low; high = top.high }, sym c.if-two_to-count-2.false ∙ c.two_to-2.ensures)
