-- SPDX-License-Identifier: Apache-2.0
-- The stages of a sketch: the sizes of tables, and then registers (docs/MODEL.md, "Stages").
use Rattle.std.specs.Prelude.{ℕ, ◌-◌, ◌*◌, ◌^◌, ◌==◌, nat_le, Bool, ◌&&◌, if◌then◌else◌, List, ◌∷◌, Option, find}
use Rattle.std.specs.List.{range_with_len}

-- the sizes for k, as powers of two: 3, and for k of at least 8 also 5 to k - 3
abbrev pub sizes : ℕ → List ℕ
sizes k = 3 ∷ range_with_len 5 (k - 7)

-- size 3 holds up to seven pairs, a larger size up to three quarters of its buckets
abbrev pub can_hold : ℕ → ℕ → Bool
can_hold size n = if size == 3 then nat_le n 7 else nat_le (4 * n) (3 * 2 ^ size)

-- the smallest size, from `from` on, that holds n pairs; `None` if they become registers
abbrev pub stage : ℕ → ℕ → ℕ → Option ℕ
stage k from n = find (λ size. nat_le from size && can_hold size n) (sizes k)
