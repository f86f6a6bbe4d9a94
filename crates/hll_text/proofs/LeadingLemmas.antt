-- SPDX-License-Identifier: Apache-2.0
-- Lemmas on the number that a text begins with.
use Rattle.std.proofs.Common.{◌≡◌, ℕ, ◌+◌, ◌<◌, ◌≤◌, true, false, ◌&&◌, nat_eq, nat_le, List, [], ◌∷◌, length, take, drop, get_or, Some, None, Option, Ok, Err, inl, inr, refl, sym, ap, ◌∙◌, arith}
use Rattle.std.specs.Char.{is_ascii_digit}
use Rattle.std.specs.List.{list_all, position}
use Rattle.std.proofs.lemmas.Bool.{cases_Bool, cases_lt, true≢false, and_from, and_left, and_right, eqb-true, le-leb, lt-leb, cond-true, cond-false}
use Rattle.std.proofs.lemmas.List.{get_or-take, length-take-le, take_all}
use Rattle.std.proofs.lemmas.List.Folds.{list_all_at}
use Rattle.hll_text.specs.declared.fault.Fault.TheVariants.{Syntax}
use Rattle.hll_text.specs.Text.{tokens, decimal_value, is_number, number, first_number}
use Rattle.hll_text.proofs.ByteLemmas.{found, not_found, passes_at}
use Rattle.hll_text.proofs.PartLemmas.{tokens-some, tokens-none, tokens-within}

-- a token that continues after its first digits is not a number, if the next byte is not a digit, or there is a ninth digit
pub no_number : (token : List ℕ) (n : ℕ) → n < length token → n ≤ 8 → (n < 8 → is_ascii_digit (get_or token n 0) ≡ false) → number token ≡ Err Syntax
no_number token n more few ends = cond-false (is_number token) (Ok (decimal_value token)) (Err Syntax) (elim (cases_lt n 8) [
  | inl low ↦ and_right (nat_le 1 (length token) && nat_le (length token) 8) (list_all is_ascii_digit token) (list_all_at is_ascii_digit token n 0 more (ends low))
  | inr high ↦ and_left (nat_le 1 (length token) && nat_le (length token) 8) (list_all is_ascii_digit token)
      (and_right (nat_le 1 (length token)) (nat_le (length token) 8) (lt-leb (length token) 8 (omega (arith, high))))
])

digit_is_no_space : (b : ℕ) → is_ascii_digit b ≡ true → nat_eq b 32 ≡ false
digit_is_no_space b h = elim (cases_Bool (nat_eq b 32)) [
  | inl space ↦ let same : b ≡ 32 = eqb-true b 32 space in absurd (true≢false (sym h ∙ ap is_ascii_digit same))
  | inr other ↦ other
]

module _ (xs : List ℕ) (n : ℕ) (within : n ≤ length xs) (digits : list_all is_ascii_digit (take n xs) ≡ true) where
  digit_at : (k : ℕ) → k < n → is_ascii_digit (get_or xs k 0) ≡ true
  digit_at k h = elim (cases_Bool (is_ascii_digit (get_or (take n xs) k 0))) [
    | inl yes' ↦ ap is_ascii_digit (sym (get_or-take n xs k 0 h)) ∙ yes'
    | inr no' ↦ absurd (true≢false (sym digits ∙ list_all_at is_ascii_digit (take n xs) k 0 (omega (arith, h, length-take-le n xs within)) no'))
  ]

  no_space : (k : ℕ) → k < n → nat_eq (get_or xs k 0) 32 ≡ false
  no_space k h = digit_is_no_space (get_or xs k 0) (digit_at k h)

  -- one to eight digits are a number
  pub number_of_digits : 0 < n → n ≤ 8 → number (take n xs) ≡ Ok (decimal_value (take n xs))
  number_of_digits some few =
      let token : List ℕ = take n xs in
      let long : length token ≡ n = length-take-le n xs within in
      cond-true (is_number token) (Ok (decimal_value token)) (Err Syntax)
      (and_from (nat_le 1 (length token) && nat_le (length token) 8) (list_all is_ascii_digit token)
      (and_from (nat_le 1 (length token)) (nat_le (length token) 8) (le-leb 1 (length token) (omega (arith, long, some))) (le-leb (length token) 8 (omega (arith, long, few)))) digits)

  -- the digits are the whole text
  pub tokens_of_digits : n ≡ length xs → tokens xs ≡ take n xs ∷ []
  tokens_of_digits all =
      tokens-none xs (sym (not_found (λ b. nat_eq b 32) xs (λ k h. no_space k (omega (arith, h, all)))))
      ∙ ap (λ token. token ∷ []) (sym (take_all n xs (omega (arith, all))))

  -- a space ends them
  pub tokens_of_front : n < length xs → get_or xs n 0 ≡ 32 → tokens xs ≡ take n xs ∷ tokens (drop (n + 1) xs)
  tokens_of_front more space = tokens-some xs n (sym (found (λ b. nat_eq b 32) xs n more no_space (ap (λ b. nat_eq b 32) space)))

  -- something else ends them
  pub first_is_no_number : n < length xs → nat_eq (get_or xs n 0) 32 ≡ false → n ≤ 8 → (n < 8 → is_ascii_digit (get_or xs n 0) ≡ false) → first_number (tokens xs) ≡ Err Syntax
  first_is_no_number more other few ends = by_first (position (λ b. nat_eq b 32) xs) refl
    where
      by_first : (o : Option ℕ) → position (λ b. nat_eq b 32) xs ≡ o → first_number (tokens xs) ≡ Err Syntax
      by_first None e = ap first_number (tokens-none xs e) ∙ no_number xs n more few ends
      by_first (Some p) e =
          let inside : p < length xs = tokens-within xs p e in
          let space : nat_eq (get_or xs p 0) 32 ≡ true = passes_at (λ b. nat_eq b 32) xs p e in
          let after : n < p = elim (cases_lt n p) [
            | inl low ↦ low
            | inr high ↦ elim (cases_lt p n) [
              | inl before ↦ absurd (true≢false (sym space ∙ no_space p before))
              | inr same ↦ let is : n ≡ p = omega (arith, high, same) in absurd (true≢false (sym space ∙ ap (λ k. nat_eq (get_or xs k 0) 32) (sym is) ∙ other))
            ]
          ] in
          ap first_number (tokens-some xs p e)
          ∙ no_number (take p xs) n (omega (arith, after, length-take-le p xs (omega (arith, inside)))) few
          (λ low. ap is_ascii_digit (get_or-take p xs n 0 after) ∙ ends low)
