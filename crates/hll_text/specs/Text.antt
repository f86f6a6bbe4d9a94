-- SPDX-License-Identifier: Apache-2.0
-- The text of a plan: its lines, its tokens, and what a line says (docs/PLAN.md, "The text").
use Rattle.std.specs.Prelude as std
use Rattle.std.specs.Prelude.{ℕ, ◌≡◌, ◌⊎◌, IfErr, ◌+◌, ◌-◌, ◌*◌, ◌^◌, min, Bool, false, ◌&&◌, ◌==◌, nat_lt, nat_le, nat_eq, if◌then◌else◌, List, [], ◌∷◌, ◌++◌, length, Option, Some, None, Result, Ok, Err, codes}
use Rattle.std.specs.List.{slice_split, list_all}
use Rattle.std.specs.Result.{result_map_both}
use Rattle.std.specs.Str.{bytes_eq}
use Rattle.std.specs.Str.Lines.{strip_carriage_return}
use Rattle.std.specs.Char.{is_ascii_digit}
use Rattle.hex.specs.Hex.{decode_of, encode_lower}
use Rattle.hll_base.specs.declared.hll_type.HllType.{HllType}
use Rattle.hll_base.specs.declared.hll_type.HllType.TheVariants.{Hll4, Hll6, Hll8}
use Rattle.hll_text.specs.declared.fault.Fault.{Fault}
use Rattle.hll_text.specs.declared.fault.Fault.TheVariants.{Syntax, Range, Hex}

-- ---- lines

-- the lines of a text that have an LF, each without it and without one CR directly before it;
-- `lines` of std has these, and then what follows the last LF if it is not empty
abbrev pub ended_parts : List (List ℕ) → List (List ℕ)
ended_parts [] = []
ended_parts (last ∷ []) = []
ended_parts (part ∷ next ∷ more) = strip_carriage_return part ∷ ended_parts (next ∷ more)

abbrev pub ended_lines : List ℕ → List (List ℕ)
ended_lines text = ended_parts (slice_split (λ b. b == 10) text)

-- what follows the last LF of a text
abbrev pub last_part : List (List ℕ) → List ℕ
last_part [] = []
last_part (last ∷ []) = last
last_part (part ∷ next ∷ more) = last_part (next ∷ more)

abbrev pub open_line : List ℕ → List ℕ
open_line text = last_part (slice_split (λ b. b == 10) text)

-- the line of bytes that have no LF: none if there are no bytes
abbrev pub line_of_rest : List ℕ → List (List ℕ)
line_of_rest [] = []
line_of_rest (b ∷ more) = (b ∷ more) ∷ []

-- the number that is reported of the n-th line
abbrev pub line_number : ℕ → ℕ
line_number n = min n (2 ^ 64 - 1)

-- ---- tokens and numbers

-- the `?` of the logic: the second step, if the first gave a value
infixl 10 ◌>>=◌
abbrev pub ◌>>=◌ : {X Y : Type 0} → Result X Fault → (X → Result Y Fault) → Result Y Fault
Ok x >>= f = f x
Err e >>= f = Err e

-- the tokens of a line: what is before, between and after its spaces
abbrev pub tokens : List ℕ → List (List ℕ)
tokens line = slice_split (λ b. b == 32) line

-- the tokens after a space, or no tokens if there is no space
abbrev pub tokens_after : Option (List ℕ) → List (List ℕ)
tokens_after None = []
tokens_after (Some rest) = tokens rest

-- the value of decimal digits
abbrev pub decimal_value : List ℕ → ℕ
decimal_value digits = std.fold (λ n digit. 10 * n + (digit - 48)) 0 digits

-- a number is 1 to 8 decimal digits
abbrev pub is_number : List ℕ → Bool
is_number token = (nat_le 1 (length token) && nat_le (length token) 8) && list_all is_ascii_digit token

abbrev pub number : List ℕ → Result ℕ Fault
number token = if is_number token then Ok (decimal_value token) else Err Syntax

-- the first of some tokens, as a number
abbrev pub first_number : List (List ℕ) → Result ℕ Fault
first_number [] = Err Syntax
first_number (token ∷ more) = number token

-- one token, which is a number
abbrev pub one_number : List (List ℕ) → Result ℕ Fault
one_number [] = Err Syntax
one_number (a ∷ []) = number a
one_number (a ∷ b ∷ more) = Err Syntax

-- two tokens, both of them numbers
abbrev pub two_numbers : List (List ℕ) → Result (ℕ × ℕ) Fault
two_numbers [] = Err Syntax
two_numbers (a ∷ []) = Err Syntax
two_numbers (a ∷ b ∷ []) = do
  m ← number a
  n ← number b
  Ok (m, n)
two_numbers (a ∷ b ∷ c ∷ more) = Err Syntax

-- three tokens, all of them numbers
abbrev pub three_numbers : List (List ℕ) → Result (ℕ × ℕ × ℕ) Fault
three_numbers [] = Err Syntax
three_numbers (a ∷ more) = do
  l ← number a
  p ← two_numbers more
  Ok (l, p.0, p.1)

-- one token, which is not empty
abbrev pub one_token : List (List ℕ) → Result (List ℕ) Fault
one_token [] = Err Syntax
one_token (a ∷ []) = if nat_eq (length a) 0 then Err Syntax else Ok a
one_token (a ∷ b ∷ more) = Err Syntax

-- ---- steps

-- a step of a plan
pub data PlanStep : Type 0 where
  -- an empty sketch of an lg_k and a width
  new : ℕ → HllType → PlanStep
  -- the sketch of an image
  image : List ℕ → PlanStep
  -- a coupon of a slot and a value, for the last sketch
  coupon : ℕ → ℕ → PlanStep
  -- the last sketches, of this number, merged under a bound of lg_k and at a width
  union : ℕ → ℕ → HllType → PlanStep
  -- the last sketch folded to an lg_k
  fold : ℕ → PlanStep

-- the width of 4, 6 or 8 bits
abbrev pub width : ℕ → Result HllType Fault
width bits = if bits == 4 then Ok Hll4 else (if bits == 6 then Ok Hll6 else (if bits == 8 then Ok Hll8 else Err Range))

-- an lg_k is 4 to 21
abbrev pub lg_k : ℕ → Result ℕ Fault
lg_k k = if nat_le 4 k && nat_le k 21 then Ok k else Err Range

-- `new K W`
abbrev pub new_step : ℕ → ℕ → Result PlanStep Fault
new_step k bits = do
  k ← lg_k k
  w ← width bits
  Ok (new k w)

-- `image HEX`
abbrev pub image_step : List ℕ → Result PlanStep Fault
image_step digits = result_map_both image (λ _. Hex) (decode_of digits)

-- `coupon S V`
abbrev pub coupon_step : ℕ → ℕ → Result PlanStep Fault
coupon_step s v = if nat_lt s (2 ^ 26) && (nat_le 1 v && nat_le v 63) then Ok (coupon s v) else Err Range

-- `union N M W`
abbrev pub union_step : ℕ → ℕ → ℕ → Result PlanStep Fault
union_step n m bits = do
  m ← lg_k m
  w ← width bits
  Ok (union n m w)

-- `fold E`
abbrev pub fold_step : ℕ → Result PlanStep Fault
fold_step e = do
  e ← lg_k e
  Ok (fold e)

-- the step of a line, from its tokens
abbrev pub read_tokens : List (List ℕ) → Result PlanStep Fault
read_tokens [] = Err Syntax
read_tokens (first ∷ rest) =
    if bytes_eq first (codes "new") then two_numbers rest >>= (λ p. new_step p.0 p.1)
    else (if bytes_eq first (codes "image") then one_token rest >>= image_step
    else (if bytes_eq first (codes "coupon") then two_numbers rest >>= (λ p. coupon_step p.0 p.1)
    else (if bytes_eq first (codes "union") then three_numbers rest >>= (λ p. union_step p.0 p.1 p.2)
    else (if bytes_eq first (codes "fold") then one_number rest >>= fold_step
    else Err Syntax))))

-- what a line says: None if it is skipped, a step, or a fault
abbrev pub Reading : Type 0
Reading = Result (Option PlanStep) Fault

-- what a line says that isn't skipped: its step
abbrev pub as_reading : Result PlanStep Fault → Reading
as_reading r = r >>= (λ step. Ok (Some step))

-- what the digits of an image say
abbrev pub image_reading : List ℕ → Reading
image_reading digits = as_reading (image_step digits)

-- an empty line is skipped, and so is one that begins with `#`
abbrev pub reading : List ℕ → Reading
reading [] = Ok None
reading (b ∷ more) = if b == 35 then Ok None else as_reading (read_tokens (tokens (b ∷ more)))

-- a fault that a line can have by itself
abbrev pub IsLineFault : Fault → Type 0
IsLineFault e = (e ≡ Syntax) ⊎ ((e ≡ Range) ⊎ (e ≡ Hex))

-- the fault of a line is one of these three, so never one of memory, of a stream, of an image or of the stack
abbrev pub FaultsOfLines : Type 0
FaultsOfLines = (line : List ℕ) → IfErr (reading line) IsLineFault

-- ---- memory

-- whether the first of the tokens is `image`: reading any other line allocates nothing
abbrev pub names_image : List (List ℕ) → Bool
names_image [] = false
names_image (first ∷ more) = bytes_eq first (codes "image")

-- ---- the output

-- what is printed for the bytes of an image: lower-case hexadecimal and LF
abbrev pub printed_line : List ℕ → List ℕ
printed_line bytes = encode_lower bytes ++ 10 ∷ []
