-- SPDX-License-Identifier: Apache-2.0
-- Lemmas on the parts of a list between marks: tokens between spaces, lines between newlines.
use Rattle.std.proofs.Common.{◌≡◌, ℕ, ◌+◌, ◌-◌, ◌<◌, ◌≤◌, Bool, true, false, cond, nat_eq, List, [], ◌∷◌, length, take, drop, refl, ◌∙◌, ap, subst, arith, Some, None, length-drop}
use Rattle.std.specs.List.{slice_split, position, position_or_len}
use Rattle.std.specs.Str.Lines.{strip_carriage_return}
use Rattle.std.proofs.lemmas.Bool.{ltb-true, ltb-false}
use Rattle.std.proofs.lemmas.List.{take_all}
use Rattle.std.proofs.lemmas.List.Elements.{All-from_get_or}
use Rattle.std.proofs.lemmas.List.Splits.{slice_split_first, slice_split_none, length-slice_split}
use Rattle.std.proofs.lemmas.List.Sums.{fails_before_first}
use Rattle.hll_text.specs.Text.{tokens, ended_parts, ended_lines}

-- a test decides which of two options there is
pub some_of : (b : Bool) (n i : ℕ) → cond b (Some n) None ≡ Some i → (b ≡ true) × (n ≡ i)
some_of true n i e = (refl, cc)
some_of false n i e = absurd (cc)

pub none_of : (b : Bool) (n : ℕ) → cond b (Some n) None ≡ None → b ≡ false
none_of true n e = absurd (cc)
none_of false n e = refl

module _ (mark : ℕ) where
  -- the first part ends before the first mark
  pub parts-some : (xs : List ℕ) (i : ℕ) → position (λ b. nat_eq b mark) xs ≡ Some i
      → (slice_split (λ b. nat_eq b mark) xs ≡ take i xs ∷ slice_split (λ b. nat_eq b mark) (drop (i + 1) xs)) × (i < length xs)
  parts-some xs i e =
      let h = some_of _ _ i e in
      let room : position_or_len (λ b. nat_eq b mark) xs < length xs = ltb-true _ _ h.0 in (
        slice_split_first (λ b. nat_eq b mark) xs 0 room ∙ ap (λ n. take n xs ∷ slice_split (λ b. nat_eq b mark) (drop (n + 1) xs)) h.1,
        subst (λ n. n < length xs) h.1 room,
      )

  -- with no mark there is one part
  pub parts-none : (xs : List ℕ) → position (λ b. nat_eq b mark) xs ≡ None → slice_split (λ b. nat_eq b mark) xs ≡ xs ∷ []
  parts-none xs e =
      slice_split_none (λ b. nat_eq b mark) xs
      (All-from_get_or (λ x. nat_eq x mark ≡ false) xs 0 (λ k h. fails_before_first (λ b. nat_eq b mark) xs k 0 (all_before k h)))
    where
      all_before : (k : ℕ) → k < length xs → k < position_or_len (λ b. nat_eq b mark) xs
      all_before k h = let n : length xs ≤ position_or_len (λ b. nat_eq b mark) xs = ltb-false _ _ (none_of _ _ e) in omega arith

  -- there is a part
  pub length-parts : (xs : List ℕ) → 0 < length (slice_split (λ b. nat_eq b mark) xs)
  length-parts xs = omega (arith, length-slice_split (λ b. nat_eq b mark) xs)

-- ---- tokens

pub tokens-some : (xs : List ℕ) (i : ℕ) → position (λ b. nat_eq b 32) xs ≡ Some i → tokens xs ≡ take i xs ∷ tokens (drop (i + 1) xs)
tokens-some xs i e = (parts-some 32 xs i e).0

pub tokens-within : (xs : List ℕ) (i : ℕ) → position (λ b. nat_eq b 32) xs ≡ Some i → i < length xs
tokens-within xs i e = (parts-some 32 xs i e).1

pub tokens-none : (xs : List ℕ) → position (λ b. nat_eq b 32) xs ≡ None → tokens xs ≡ xs ∷ []
tokens-none = parts-none 32

pub length-tokens : (xs : List ℕ) → 0 < length (tokens xs)
length-tokens = length-parts 32

-- ---- lines

pub ended_parts-cons : (x : List ℕ) (parts : List (List ℕ)) → 0 < length parts → ended_parts (x ∷ parts) ≡ strip_carriage_return x ∷ ended_parts parts
ended_parts-cons x [] h = absurd (omega arith)
ended_parts-cons x (y ∷ more) h = refl

pub ended-some : (xs : List ℕ) (i : ℕ) → position (λ b. nat_eq b 10) xs ≡ Some i → ended_lines xs ≡ strip_carriage_return (take i xs) ∷ ended_lines (drop (i + 1) xs)
ended-some xs i e = ap ended_parts (parts-some 10 xs i e).0 ∙ ended_parts-cons (take i xs) _ (length-parts 10 (drop (i + 1) xs))

pub ended-none : (xs : List ℕ) → position (λ b. nat_eq b 10) xs ≡ None → ended_lines xs ≡ []
ended-none xs e = ap ended_parts (parts-none 10 xs e)

pub position-lt : (xs : List ℕ) (i : ℕ) → position (λ b. nat_eq b 10) xs ≡ Some i → i < length xs
position-lt xs i e = (parts-some 10 xs i e).1

-- a slice to the end is what is left
pub take-rest : (n : ℕ) (xs : List ℕ) → take (length xs - n) (drop n xs) ≡ drop n xs
take-rest n xs = take_all _ (drop n xs) (simp length-drop (omega arith))
