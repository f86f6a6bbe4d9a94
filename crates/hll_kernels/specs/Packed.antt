-- SPDX-License-Identifier: Apache-2.0
-- The packed forms of registers, and their numbers (docs/FORMAT.md, "Packed registers"; docs/MODEL.md, "Packed forms").
use Rattle.std.specs.Prelude.{◌≡◌, ℕ, ◌+◌, ◌-◌, ◌*◌, ◌/◌, ◌%◌, ◌^◌, ◌<◌, ◌≤◌, ◌==◌, if◌then◌else◌, nat_lt, min, List, [], ◌∷◌, ◌++◌, length, count_by, sum_by, slice_index, fold, All}
use Rattle.hll_kernels.specs.Groups.{group_fields}

-- ---- 4-bit registers

-- the least register, of registers that are at most 63
abbrev pub minimum : List ℕ → ℕ
minimum R = fold min 63 R

-- the number of registers at the minimum
abbrev pub count_at_minimum : List ℕ → ℕ
count_at_minimum R = count_by (λ r. r == minimum R) R

-- the height of a register above the minimum, at most 15; 15 marks an exception
abbrev pub nibble : ℕ → ℕ → ℕ
nibble m r = min (r - m) 15

-- two nibbles in each byte, that of the even slot in the low half
abbrev pub nibble_bytes_above : ℕ → List ℕ → List ℕ
nibble_bytes_above m [] = []
nibble_bytes_above m (r ∷ []) = nibble m r ∷ []
nibble_bytes_above m (r ∷ q ∷ R) = (nibble m r + 16 * nibble m q) ∷ nibble_bytes_above m R

-- the nibbles of registers above their minimum
abbrev pub nibble_bytes : List ℕ → List ℕ
nibble_bytes R = nibble_bytes_above (minimum R) R

-- the nibble of a slot
abbrev pub nibble_at : List ℕ → ℕ → ℕ
nibble_at bytes s = slice_index bytes (s / 2) / 16 ^ (s % 2) % 16

-- a nibble lowered by one; 0 and 15 stay
abbrev pub lowered_nibble : ℕ → ℕ
lowered_nibble n = if n == 15 then 15 else (n - 1)

-- a byte with both nibbles lowered
abbrev pub lowered_byte : ℕ → ℕ
lowered_byte b = lowered_nibble (b % 16) + 16 * lowered_nibble (b / 16)

-- a nibble lowered by some steps; 15 stays
abbrev pub lowered_by : ℕ → ℕ → ℕ
lowered_by d n = if n == 15 then 15 else (n - d)

-- the number of nibbles that are 0
abbrev pub zero_nibbles : List ℕ → ℕ
zero_nibbles bytes = count_by (λ b. b % 16 == 0) bytes + count_by (λ b. b / 16 == 0) bytes

-- the number of nibbles that are 15
abbrev pub mark_nibbles : List ℕ → ℕ
mark_nibbles bytes = count_by (λ b. b % 16 == 15) bytes + count_by (λ b. b / 16 == 15) bytes

-- ---- 6-bit registers

-- four registers in three bytes, the lowest bit first
abbrev pub group_bytes : ℕ → ℕ → ℕ → ℕ → List ℕ
group_bytes a b c d = let g = a + 64 * b + 4096 * c + 262144 * d in (g % 256) ∷ (g / 256 % 256) ∷ (g / 65536) ∷ []

-- the fields of groups of four registers, and one zero byte
abbrev pub field_bytes : List ℕ → List ℕ
field_bytes (a ∷ b ∷ c ∷ d ∷ R) = group_bytes a b c d ++ field_bytes R
field_bytes _ = 0 ∷ []

-- the registers of groups of three bytes; a last single byte holds none
abbrev pub fields : List ℕ → List ℕ
fields (a ∷ b ∷ c ∷ rest) = group_fields (a ∷ b ∷ c ∷ []) ++ fields rest
fields _ = []

-- ---- registers

-- 2^lg_k values of at most 63
pub record AreRegisters (k : ℕ) (R : List ℕ) : Type 0 where
  pub size : length R ≡ 2 ^ k
  pub small : All (λ v. v ≤ 63) R

-- ---- numbers

-- the number of registers that are 0
abbrev pub zeros : List ℕ → ℕ
zeros R = count_by (λ v. v == 0) R

-- the sum of 2^(63 - v) over the registers
abbrev pub units : List ℕ → ℕ
units R = sum_by (λ v. 2 ^ (63 - v)) R

-- the sum of 2^(31 - v) over the registers below 32
abbrev pub low_units : List ℕ → ℕ
low_units R = sum_by (λ v. if nat_lt v 32 then (2 ^ (31 - v)) else 0) R

-- the sum of 2^(63 - v) over the registers from 32 on
abbrev pub high_units : List ℕ → ℕ
high_units R = sum_by (λ v. if nat_lt v 32 then 0 else (2 ^ (63 - v))) R

-- ---- laws

-- each nibble is read back as it was written
abbrev pub NibblesReadBack : Type 0
NibblesReadBack = (m : ℕ) (R : List ℕ) (s : ℕ) → s < length R → nibble_at (nibble_bytes_above m R) s ≡ nibble m (slice_index R s)

-- each register is read back as it was written
abbrev pub FieldsReadBack : Type 0
FieldsReadBack = (groups : ℕ) (R : List ℕ) → length R ≡ 4 * groups → All (λ v. v ≤ 63) R → fields (field_bytes R) ≡ R
