-- SPDX-License-Identifier: Apache-2.0
-- The example of a fold in docs/MODEL.md.
use Rattle.std.proofs.Common.{◌≡◌, [], ◌∷◌}
use Rattle.hll_coupons.specs.Pair.{pair, set_of}
use Rattle.hll_coupons.specs.Fold.{fold_to}
use Rattle.hll_coupons.proofs.Registers.{fold_to-set_of}

row_fold : fold_to (set_of (pair 5 3 ∷ pair 1 2 ∷ pair 16 9 ∷ [])) 2 ≡ 9 ∷ 3 ∷ 0 ∷ 0 ∷ []
row_fold = fold_to-set_of (pair 5 3 ∷ pair 1 2 ∷ pair 16 9 ∷ []) 2
