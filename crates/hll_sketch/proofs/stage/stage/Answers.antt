-- SPDX-License-Identifier: Apache-2.0
use Rattle.std.proofs.Common.{◌≡◌, ℕ, ◌+◌, ◌-◌, false, ◌&&◌, leb, arith, sym, ◌∙◌}
use Rattle.std.proofs.lemmas.Bool.{and_left, and_right, lt-leb}
use Rattle.hll_sketch.specs.Stage.{can_hold}
use Rattle.hll_sketch.proofs.Stages.{find_later}
use Rattle.hll_sketch.proofs.stage.stage.Goals as goal
use Rattle.hll_sketch.proofs.stage.stage.Goals.{else-from-size-via-then-from-size+else-can_hold-2, else-from-size-via-else-from-size}

pub loop-size-preserved : goal.loop-size-preserved
loop-size-preserved c =
    let q : ℕ = c.loop-size.size in
    let test : (leb c.args.from q && can_hold q c.args.count) ≡ false = elim c.else-from-size.branch [
      | else-from-size-via-then-from-size+else-can_hold-2 w ↦ and_right (leb c.args.from q) (can_hold q c.args.count) (sym w.can_hold-then-from-size.ensures ∙ w.if-can_hold-2.false)
      | else-from-size-via-else-from-size w ↦ and_left (leb c.args.from q) (can_hold q c.args.count) (lt-leb c.args.from q w.if-from-size.false)
    ] in
    sym (find_later (λ q. leb c.args.from q && can_hold q c.args.count) q (c.args.lg_k - 2 - q) (c.args.lg_k - 2 - (q + 1))
    (omega (arith, c.max-size-end.ensures, c.saturating_sub-end.ensures, c.loop-size-test.true, c.loop-size.auto.size)) test) ∙ c.loop-size.invariant
