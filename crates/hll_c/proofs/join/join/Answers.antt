-- SPDX-License-Identifier: Apache-2.0
use Rattle.std.proofs.Common.{◌≡◌, ℕ, false, not, ◌&&◌, nat_eq, sym, ap, ◌∙◌}
use Rattle.hll_state.specs.Memory.{is_open}
use Rattle.hll_c.specs.States.{is_decided, as_it_was}
use Rattle.hll_c.proofs.AtBound.{unbounded}
use Rattle.hll_c.proofs.join.join.Goals.{else-lg_max_k-ne0-via-then-lg_max_k-ne0+else-is_open, else-lg_max_k-ne0-via-else-lg_max_k-ne0}
use Rattle.hll_c.proofs.join.join.Goals as goal

pub returns : goal.returns
returns c = as_it_was undecided c.join_begun.ensures
  where
    k : ℕ
    k = c.args.lg_max_k

    undecided : is_decided k c.args.state.now ≡ false
    undecided = elim c.else-lg_max_k-ne0.branch [
      | else-lg_max_k-ne0-via-then-lg_max_k-ne0+else-is_open w ↦ ap (λ b. b && not (nat_eq k 0)) (sym w.is_open.ensures ∙ w.if-is_open.false)
      | else-lg_max_k-ne0-via-else-lg_max_k-ne0 w ↦ unbounded (is_open c.args.state.now) k w.if-lg_max_k-ne0.false
    ]
