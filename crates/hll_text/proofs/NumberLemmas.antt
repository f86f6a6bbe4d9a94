-- SPDX-License-Identifier: Apache-2.0
-- Lemmas on the numbers of a line.
use Rattle.std.proofs.Common.{◌≡◌, ℕ, ◌<◌, ◌≤◌, ◌^◌, false, cond, nat_eq, List, [], ◌∷◌, length, get_or, Ok, Err, None, arith, refl, sym, ap}
use Rattle.std.proofs.Math.Nat.{pow-le-pow_right}
use Rattle.std.specs.Prelude.{◌≢◌}
use Rattle.std.proofs.lemmas.Bool.{ne_eqb}
use Rattle.hll_text.specs.declared.fault.Fault.TheVariants.{Syntax}
use Rattle.hll_text.specs.Text.{as_reading, read_tokens, reading, tokens, one_number, two_numbers, one_token}

-- seven digits and one more fit in 32 bits
pub below_seven : (v k : ℕ) → v < 10 ^ k → k < 8 → v < 10000000
below_seven v k h e =
    let few : k ≤ 7 = omega arith in
    let ten : 0 < 10 = omega arith in
    let most : 10 ^ k ≤ 10 ^ 7 = pow-le-pow_right {n = 10} ten {i = k} {j = 7} few in
    omega arith

-- two or more tokens are not one number
pub one_number-more : (a : List ℕ) (ws : List (List ℕ)) → 0 < length ws → one_number (a ∷ ws) ≡ Err Syntax
one_number-more a [] h = absurd (omega arith)
one_number-more a (b ∷ more) h = refl

-- three tokens are not two numbers
pub two_numbers-more : (a b : List ℕ) (ws : List (List ℕ)) → 0 < length ws → two_numbers (a ∷ b ∷ ws) ≡ Err Syntax
two_numbers-more a b [] h = absurd (omega arith)
two_numbers-more a b (c ∷ ws) h = refl

-- a token that isn't empty
pub one_token-one : (a : List ℕ) → nat_eq (length a) 0 ≡ false → one_token (a ∷ []) ≡ Ok a
one_token-one a e = ap (λ b. cond b (Err Syntax) (Ok a)) e

-- two or more tokens are not one token
pub one_token-more : (a : List ℕ) (ws : List (List ℕ)) → 0 < length ws → one_token (a ∷ ws) ≡ Err Syntax
one_token-more a [] h = absurd (omega arith)
one_token-more a (b ∷ more) h = refl

-- a line that isn't skipped
pub reading-taken : (line : List ℕ) → nat_eq (length line) 0 ≡ false → get_or line 0 0 ≢ 35 → as_reading (read_tokens (tokens line)) ≡ reading line
reading-taken [] some h = absurd (cc)
reading-taken (b ∷ more) some h = sym (ap (λ t. cond t (Ok None) (as_reading (read_tokens (tokens (b ∷ more))))) (ne_eqb b 35 h))
