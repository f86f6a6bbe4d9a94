-- SPDX-License-Identifier: Apache-2.0
-- 6-bit registers as groups of four in three bytes (docs/FORMAT.md, "Packed registers").
use Rattle.std.specs.Prelude.{◌≡◌, ℕ, ◌+◌, ◌-◌, ◌*◌, ◌/◌, ◌%◌, ◌^◌, ◌<◌, List, [], ◌∷◌, length, slice_index, All}
use Rattle.std.specs.List.{flat_map}

-- three bytes
pub record IsGroup (group : List ℕ) : Type 0 where
  pub three : length group ≡ 3
  pub bytes : All (λ b. b < 256) group

-- the bits of a group as one number, the lowest first
abbrev pub group_number : List ℕ → ℕ
group_number group = slice_index group 0 + 256 * slice_index group 1 + 65536 * slice_index group 2

-- the four registers of a group
abbrev pub group_fields : List ℕ → List ℕ
group_fields group =
    (group_number group % 64) ∷ (group_number group / 64 % 64) ∷ (group_number group / 4096 % 64) ∷ (group_number group / 262144) ∷ []

-- the registers of groups, in their order
abbrev pub registers_in : List (List ℕ) → List ℕ
registers_in groups = flat_map group_fields groups

-- the groups of 2^k registers
pub record AreGroups (k : ℕ) (groups : List (List ℕ)) : Type 0 where
  pub size : length groups ≡ 2 ^ (k - 2)
  pub bytes : All IsGroup groups
