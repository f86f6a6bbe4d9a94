-- SPDX-License-Identifier: Apache-2.0
-- Registers in the elements of a slice: four in an element, in ascending slots.
use Rattle.std.specs.Prelude.{ℕ, List}
use Rattle.std.specs.List.{flat_map}

-- the registers of elements, in their order
abbrev pub values : List (List ℕ) → List ℕ
values elements = flat_map (λ x. x) elements
