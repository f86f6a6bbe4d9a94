-- SPDX-License-Identifier: Apache-2.0
-- The pairs that a content stands for (docs/MODEL.md, "The meaning of a plan").
use Rattle.std.specs.Prelude.{◌≡◌, ℕ}
use Rattle.hll_coupons.specs.Pair.{Pairs}
use Rattle.hll_coupons.specs.Fold.{fold_to}
use Rattle.hll_sketch.specs.Value.{Content, coupons, registers}

-- coupons are all the pairs, registers are their fold
abbrev pub Means : ℕ → Content → Pairs → Type 0
Means k (coupons S size) P = S ≡ P
Means k (registers R state) P = R ≡ fold_to P k
