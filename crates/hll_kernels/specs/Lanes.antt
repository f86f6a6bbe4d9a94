-- SPDX-License-Identifier: Apache-2.0
-- Bytes of registers as SIMD lanes, and parts of lists that lanes change.
use Rattle.std.specs.Prelude.{ℕ, ◌+◌, ◌-◌, ◌*◌, ◌/◌, ◌%◌, ◌^◌, ◌<◌, ◌≤◌, ◌⊎◌, if◌then◌else◌, nat_lt, max, zero, suc, List, [], ◌∷◌, sum_by}
use Rattle.std.specs.List.{flat_map}
use Rattle.hll_kernels.specs.Packed.{group_bytes}

-- ---- parts of lists

-- the values of R; those from an index on are the maximum of themselves and the values of Q
abbrev pub max_at : ℕ → List ℕ → List ℕ → List ℕ
max_at zero [] Q = []
max_at zero (r ∷ R) [] = r ∷ R
max_at zero (r ∷ R) (q ∷ Q) = max r q ∷ max_at zero R Q
max_at (suc at) [] Q = []
max_at (suc at) (r ∷ R) Q = r ∷ max_at at R Q

-- ---- 32-bit numbers

-- each four bytes as a 32-bit number, the lowest byte first
abbrev pub words_of : List ℕ → List ℕ
words_of (a ∷ b ∷ c ∷ d ∷ rest) = (a + 256 * b + 65536 * c + 16777216 * d) ∷ words_of rest
words_of _ = []

-- ---- 16-bit numbers

-- each two bytes as a 16-bit number, the lower byte first
abbrev pub pairs_of : List ℕ → List ℕ
pairs_of (a ∷ b ∷ rest) = (a + 256 * b) ∷ pairs_of rest
pairs_of _ = []

-- ---- 6-bit registers

-- the four registers of each group whose three bytes are two pairs: the first and second byte, and the second and third
abbrev pub fields_of_pairs : List ℕ → List ℕ
fields_of_pairs (a ∷ b ∷ c ∷ d ∷ rest) = (a % 64) ∷ ((a + 256 * b) / 64 % 64) ∷ ((c + 256 * d) / 16 % 64) ∷ (d / 4) ∷ fields_of_pairs rest
fields_of_pairs _ = []

-- each four registers as one number, the first in the lowest six bits
abbrev pub numbers_of : List ℕ → List ℕ
numbers_of (a ∷ b ∷ c ∷ d ∷ R) = (a + 64 * b + 4096 * c + 262144 * d) ∷ numbers_of R
numbers_of _ = []

-- the three bytes of each four registers
abbrev pub groups_of : List ℕ → List (List ℕ)
groups_of (a ∷ b ∷ c ∷ d ∷ R) = group_bytes a b c d ∷ groups_of R
groups_of _ = []

-- ---- 4-bit registers

-- the two nibbles of each byte plus a minimum, the low nibble first
abbrev pub nibble_values : ℕ → List ℕ → List ℕ
nibble_values m bytes = flat_map (λ b. (m + b % 16) ∷ (m + b / 16) ∷ []) bytes

-- each two nibbles as a byte, the first in the low half
abbrev pub nibble_pairs : List ℕ → List ℕ
nibble_pairs (a ∷ b ∷ R) = (a + 16 * b) ∷ nibble_pairs R
nibble_pairs (a ∷ []) = a ∷ []
nibble_pairs [] = []

-- ---- weights

-- 2^(15 - v) for a value v below 16, and 0 for the others
abbrev pub window_weight : ℕ → ℕ
window_weight v = if nat_lt v 16 then (2 ^ (15 - v)) else 0

-- the weights of values
abbrev pub window_units : List ℕ → ℕ
window_units R = sum_by window_weight R

-- an index into a table of sixteen, or an index for which a look-up gives 0
abbrev pub IsIndex : ℕ → Type 0
IsIndex v = (v < 16) ⊎ (128 ≤ v)
