-- SPDX-License-Identifier: Apache-2.0
-- Lemmas on byte strings by their numbers.
use Rattle.std.proofs.Common.{◌≡◌, arith, ℕ, zero, suc, ◌+◌, ◌-◌, ◌*◌, ◌/◌, ◌<◌, ◌≤◌, ◌^◌, min, List, [], ◌∷◌, length, take, drop, get_or, map, refl, ap, subst}
use Rattle.std.proofs.Math.Nat.{div-mul-le_self, mul-le-mul_right}
use Rattle.std.proofs.lemmas.List.FromFn.{length-map-range_with_len, get_or-map-range_with_len}
use Rattle.std.specs.List.{range_with_len}
use Rattle.hll_c.specs.Batches.{AreEndsFrom, AreOffsets, strings_from, start_at}

-- ---- strings that are delimited by their ends

pub length-strings : (start : ℕ) (bytes ends : List ℕ) → length (strings_from start bytes ends) ≡ length ends
length-strings start bytes [] = refl
length-strings start bytes (end ∷ ends) = ap suc (length-strings end bytes ends)

-- the string with this number begins no later than it ends, within the size
pub between : (size start : ℕ) (ends : List ℕ) (i : ℕ) → i < length ends → AreEndsFrom start size ends → (start_at start ends i ≤ get_or ends i 0) × (get_or ends i 0 ≤ size)
between size start [] i inside are = absurd (omega (arith, inside))
between size start (end ∷ ends) zero inside are = (are.0, are.1)
between size start (end ∷ ends) (suc i) inside are = between size end ends i (omega (arith, inside)) are.2

pub start_after : (start : ℕ) (ends : List ℕ) (i : ℕ) → i < length ends → start_at start ends (suc i) ≡ get_or ends i 0
start_after start [] i inside = absurd (omega (arith, inside))
start_after start (end ∷ []) zero inside = refl
start_after start (end ∷ next ∷ ends) zero inside = refl
start_after start (end ∷ ends) (suc i) inside = start_after end ends i (omega (arith, inside))

pub start_first : (start : ℕ) (ends : List ℕ) → start_at start ends 0 ≡ start
start_first start [] = refl
start_first start (end ∷ ends) = refl

pub string_ended : (start : ℕ) (bytes ends : List ℕ) (i : ℕ) → i < length ends
    → get_or (strings_from start bytes ends) i [] ≡ take (get_or ends i 0 - start_at start ends i) (drop (start_at start ends i) bytes)
string_ended start bytes [] i inside = absurd (omega (arith, inside))
string_ended start bytes (end ∷ ends) zero inside = refl
string_ended start bytes (end ∷ ends) (suc i) inside = string_ended end bytes ends i (omega (arith, inside))

-- ---- strings by a function of their number

-- n strings, each found by its number
abbrev pub strings_by : (ℕ → List ℕ) → ℕ → List (List ℕ)
strings_by string n = map string (range_with_len 0 n)

pub length-strings_by : (string : ℕ → List ℕ) (n : ℕ) → length (strings_by string n) ≡ n
length-strings_by string n = length-map-range_with_len string 0 n

pub string_at : (string : ℕ → List ℕ) (n i : ℕ) → i < length (strings_by string n) → get_or (strings_by string n) i [] ≡ string i
string_at string n i inside = get_or-map-range_with_len string 0 n i i [] (omega (arith, inside, length-strings_by string n)) (omega arith)

-- ---- strings of one length

-- string i
abbrev pub string_of_length : ℕ → List ℕ → ℕ → List ℕ
string_of_length value_len bytes i = take value_len (drop (i * value_len) bytes)

-- it has that length
pub one_length : (i value_len : ℕ) → i * value_len + value_len - i * value_len ≡ value_len
one_length i value_len = omega arith

-- it is within the bytes
pub of_length_within : (size value_len count i : ℕ) → count ≡ size / value_len → i < count → i * value_len + value_len ≤ size
of_length_within size value_len count i is inside =
    let next : (i + 1) * value_len ≤ size / value_len * value_len = mul-le-mul_right value_len (omega (arith, is, inside)) in
    let one_more : (i + 1) * value_len ≡ i * value_len + value_len = omega arith in
    omega (arith, next, one_more, div-mul-le_self size value_len)

-- ---- offsets

-- string i
abbrev pub string_between : List ℕ → List ℕ → ℕ → List ℕ
string_between offsets bytes i = take (get_or offsets (i + 1) 0 - get_or offsets i 0) (drop (get_or offsets i 0) bytes)

-- an offset and the next one, within the size
pub offsets_at : (start size : ℕ) (offsets : List ℕ) (i : ℕ) → AreEndsFrom start size offsets → i + 1 < length offsets
    → (get_or offsets i 0 ≤ get_or offsets (suc i) 0) × (get_or offsets (suc i) 0 ≤ size)
offsets_at start size [] i are inside = absurd (let no : ⊥ = omega (arith, inside) in no)
offsets_at start size (o ∷ []) i are inside = absurd (let no : ⊥ = omega (arith, inside) in no)
offsets_at start size (o ∷ next ∷ more) zero are inside = (are.2.0, are.2.1)
offsets_at start size (o ∷ next ∷ more) (suc i) are inside = offsets_at o size (next ∷ more) i are.2 (omega (arith, inside))

pub between_within : (size : ℕ) (offsets : List ℕ) (i : ℕ) → AreOffsets size offsets → i < length offsets - 1
    → (get_or offsets i 0 ≤ get_or offsets (i + 1) 0) × (get_or offsets (i + 1) 0 ≤ size)
between_within size offsets i are inside =
    let at = offsets_at 0 (min size (2 ^ 31 - 1)) offsets i are.ascend (omega (arith, inside)) in
    let next : suc i ≡ i + 1 = omega arith in (
      subst (λ j. get_or offsets i 0 ≤ get_or offsets j 0) next at.0,
      let within : get_or offsets (suc i) 0 ≤ size = omega (arith, at.1) in subst (λ j. get_or offsets j 0 ≤ size) next within,
    )
