-- SPDX-License-Identifier: Apache-2.0
use Rattle.std.proofs.Common.{◌≡◌, [], ◌∷◌, drop, subst}
use Rattle.hll_sketch.specs.Laws.{add_in_turn}
use Rattle.hll_state.specs.Counter.{sketch_in}
use Rattle.hll_state.proofs.States.{means, rest_borrowed}
use Rattle.hll_state.proofs.memory.has_raised.Goals as goal

pub returns-then-not-is_open-clause-held : goal.returns-then-not-is_open-clause-held
returns-then-not-is_open-clause-held c raised = record {
  sketch = sketch_in c.in-Some.header (drop 10 c.args.elements.now);
  was = means c.args.elements.now c.in-Some.header c.in-Some.ensures.some;
  is = subst (λ xs. add_in_turn (sketch_in c.in-Some.header xs) (c.args.raw ∷ []) ≡ sketch_in c.in-Some.header xs) (rest_borrowed c.args.elements.now) (c.has_raised.ensures raised);
}
