-- SPDX-License-Identifier: Apache-2.0
-- When two sketches agree (docs/MODEL.md, "Sketch values").
use Rattle.std.specs.Prelude.{◌≡◌, min}
use Rattle.hll_coupons.specs.Fold.{fold_to}
use Rattle.hll_sketch.specs.Value.{Sketch, pairs_of}

-- both fold to the same registers at the smaller lg_k
abbrev pub Agree : Sketch → Sketch → Type 0
Agree x y = let e = min x.lg_k y.lg_k in fold_to (pairs_of x) e ≡ fold_to (pairs_of y) e
