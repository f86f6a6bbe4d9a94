-- SPDX-License-Identifier: Apache-2.0
-- The maximum of two lists of registers (docs/MODEL.md, "Folds").
use Rattle.std.specs.Prelude.{ℕ, List, [], ◌∷◌, max}

-- at each slot the greater of both registers
abbrev pub join : List ℕ → List ℕ → List ℕ
join [] Q = Q
join (r ∷ R) [] = r ∷ R
join (r ∷ R) (q ∷ Q) = max r q ∷ join R Q
