-- SPDX-License-Identifier: Apache-2.0
use Rattle.std.proofs.Common.{◌≡◌, ℕ, suc, ◌-◌, length, sym, ap, ◌∙◌, arith}
use Rattle.hll_c.specs.Batches.{start_at}
use Rattle.hll_c.proofs.StringsByNumber.{between, start_first, start_after}
use Rattle.hll_c.proofs.strings.Ended.bounds_of.Goals.{then-number-eq0, else-number-eq0}
use Rattle.hll_c.proofs.strings.Ended.bounds_of.Goals as goal

pub returns-clause-start : goal.returns-clause-start
returns-clause-start c = elim c.if-number-eq0.branch [
  | then-number-eq0 w ↦ w.start-is ∙ sym (ap (start_at 0 c.args.self.now.ends.now) w.if-number-eq0.true ∙ start_first 0 c.args.self.now.ends.now)
  | else-number-eq0 w ↦
      let i : ℕ = c.args.number - 1 in
      let next : suc i ≡ c.args.number = omega (arith, w.if-number-eq0.false) in
      w.start-is ∙ sym (start_after 0 c.args.self.now.ends.now i (omega (arith, c.requires.within, next))) ∙ ap (start_at 0 c.args.self.now.ends.now) next
]

pub returns-clause-order : goal.returns-clause-order
returns-clause-order c =
    let at = between (length c.args.self.now.bytes.now) 0 c.args.self.now.ends.now c.args.number c.requires.within c.requires.are in
    (omega (arith, returns-clause-start c, at.0), omega (arith, at.1))
