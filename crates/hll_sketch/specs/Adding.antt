-- SPDX-License-Identifier: Apache-2.0
-- Adding pairs to a sketch (docs/MODEL.md, "Adding").
use Rattle.std.specs.Prelude.{ℕ, Option, Some, None}
use Rattle.std.specs.FinSet.{union, len}
use Rattle.hll_coupons.specs.Pair.{Pairs}
use Rattle.hll_coupons.specs.Fold.{fold_to}
use Rattle.hll_registers.specs.State.{cleared_state}
use Rattle.hll_registers.specs.Store.{Stored, update_with_pairs}
use Rattle.hll_sketch.specs.Stage.{stage}
use Rattle.hll_sketch.specs.Value.{Sketch, Content, coupons, registers}

-- a set at the size that holds it, or folded to registers with the cleared estimate state
abbrev pub content_for : ℕ → Pairs → Option ℕ → Content
content_for k S (Some size) = coupons S size
content_for k S None = registers (fold_to S k) cleared_state

-- registers and their estimate state as a content
abbrev pub content_of : Stored → Content
content_of x = registers x.registers x.state

-- a content with more pairs
abbrev pub content_with : ℕ → Content → Pairs → Content
content_with k (coupons S size) T = content_for k (union S T) (stage k size (len (union S T)))
content_with k (registers R state) T = content_of (update_with_pairs (record { lg_k = k; registers = R; state = state }) T)

-- a sketch with more pairs, at least one
abbrev pub add : Sketch → Pairs → Sketch
add x T = record x { content = content_with x.lg_k x.content T }
