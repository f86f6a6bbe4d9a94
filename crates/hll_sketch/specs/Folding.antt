-- SPDX-License-Identifier: Apache-2.0
-- Folding a sketch to a smaller lg_k (docs/MODEL.md, "Folding").
use Rattle.std.specs.Prelude.{◌≡◌, ℕ, ◌==◌, ◌≤◌, if◌then◌else◌}
use Rattle.std.specs.FinSet.{len}
use Rattle.hll_coupons.specs.Fold.{fold_to, pairs}
use Rattle.hll_registers.specs.State.{cleared_state}
use Rattle.hll_sketch.specs.Adding.{content_for}
use Rattle.hll_sketch.specs.Canonical.{IsCanonicalCleared}
use Rattle.hll_sketch.specs.Stage.{stage}
use Rattle.hll_sketch.specs.Value.{Sketch, Content, coupons, registers, pairs_of, IsLegal}

-- the content at e of a content at k: all coupons are kept, in the smallest table that holds them, or become registers;
-- registers are folded, and keep their estimate state only at their own lg_k
abbrev pub folded_content : ℕ → ℕ → Content → Content
folded_content k e (coupons S size) = content_for e S (stage e 3 (len S))
folded_content k e (registers R state) = registers (fold_to (pairs R) e) (if e == k then state else cleared_state)

-- a sketch folded to e
abbrev pub folded : Sketch → ℕ → Sketch
folded x e = record x { lg_k = e; content = folded_content x.lg_k e x.content }

-- the lg_k that a sketch of k can be folded to
pub record IsFoldLgK (k e : ℕ) : Type 0 where
  pub low : 4 ≤ e
  pub high : e ≤ k

-- ---- laws

-- the fold of a legal sketch is legal
abbrev pub FoldedIsLegal : Type 0
FoldedIsLegal = (x : Sketch) (e : ℕ) → IsLegal x → IsFoldLgK x.lg_k e → IsLegal (folded x e)

-- the fold of a canonical sketch with cleared fields is one
abbrev pub FoldedIsCanonical : Type 0
FoldedIsCanonical = (x : Sketch) (e : ℕ) → IsCanonicalCleared x → IsCanonicalCleared (folded x e)

-- at an lg_k up to e the sketch and its fold have the same registers
abbrev pub FoldedHasSameFolds : Type 0
FoldedHasSameFolds = (x : Sketch) (e d : ℕ) → e ≤ 21 → d ≤ e → fold_to (pairs_of (folded x e)) d ≡ fold_to (pairs_of x) d
