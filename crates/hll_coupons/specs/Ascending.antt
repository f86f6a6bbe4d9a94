-- SPDX-License-Identifier: Apache-2.0
-- Merging lists of numbers in ascending order, number by number.
use Rattle.std.specs.Prelude.{◌≡◌, ℕ, ◌≤◌, ◌==◌, ◌⊎◌, if◌then◌else◌, List, [], ◌∷◌}

-- a list without its first number, if that is this number
abbrev pub without_first : ℕ → List ℕ → List ℕ
without_first n [] = []
without_first n (x ∷ xs) = if x == n then xs else x ∷ xs

-- the number is the first of one of two lists, and neither list begins with a smaller number
pub record IsLeastFirst (n : ℕ) (xs ys : List ℕ) : Type 0 where
  pub is_first : (xs ≡ n ∷ without_first n xs) ⊎ (ys ≡ n ∷ without_first n ys)
  pub least_of_left : (x : ℕ) (more : List ℕ) → xs ≡ x ∷ more → n ≤ x
  pub least_of_right : (y : ℕ) (more : List ℕ) → ys ≡ y ∷ more → n ≤ y
