-- SPDX-License-Identifier: Apache-2.0
-- Iterators that return the items of a list, from the first one on.
use Rattle.std.proofs.Common.{◌≡◌, ◌∙◌, ap, sym, List, [], ◌∷◌, ◌++◌}
use Rattle.std.specs.Iterator.{Yields, YieldsFirst}

-- the items returned and those left are the whole list
drained : {X : Type 0} (s xs t : List X) → Yields (YieldsFirst (λ r. r)) s xs t → s ≡ xs ++ t
drained s [] t y = y
drained s (x ∷ xs) t y = y.1 ∙ ap (λ ys. x ∷ ys) (drained y.0 xs t y.2)

-- the whole list, if the next step leaves these items
pub given : {X : Type 0} (all start left next xs : List X) → start ≡ all → Yields (YieldsFirst (λ r. r)) start xs left → left ≡ next → all ≡ xs ++ next
given all start left next xs e y step = sym e ∙ drained start xs left y ∙ ap (λ t. xs ++ t) step
