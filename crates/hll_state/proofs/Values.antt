-- SPDX-License-Identifier: Apache-2.0
-- The registers of elements: four in each, one read and one written.
use Rattle.std.proofs.Common.{◌≡◌, ℕ, ◌+◌, ◌-◌, ◌*◌, ◌%◌, ◌/◌, ◌^◌, ◌<◌, ◌≤◌, zero, suc, List, [], ◌∷◌, ◌++◌, length, get_or, refl, sym, ap, ◌∙◌, arith}
use Rattle.std.proofs.Math.ListN.{set}
use Rattle.std.proofs.lemmas.List.{length-append, get_or_append_left, get_or-append-add, set-append_left, set-append_right}
use Rattle.hll_state.specs.Registers.{values}

-- each element has four bytes
abbrev pub HaveFour : List (List ℕ) → Type 0
HaveFour xs = (k : ℕ) → k < length xs → length (get_or xs k []) ≡ 4

rest_have : (g : List ℕ) (xs : List (List ℕ)) → HaveFour (g ∷ xs) → HaveFour xs
rest_have g xs four k l = four (suc k) (omega (arith, l))

pub length-values : (xs : List (List ℕ)) → HaveFour xs → length (values xs) ≡ 4 * length xs
length-values [] four = refl
length-values (g ∷ xs) four =
    let long : length g ≡ 4 = four 0 (omega arith) in
    let rest : length (values xs) ≡ 4 * length xs = length-values xs (rest_have g xs four) in
    length-append g (values xs) ∙ omega (arith, long, rest)

get_at : (xs : List (List ℕ)) (i j : ℕ) → HaveFour xs → i < length xs → j < 4 → get_or (values xs) (4 * i + j) 0 ≡ get_or (get_or xs i []) j 0
get_at [] i j four inside small = absurd (omega (arith, inside))
get_at (g ∷ xs) zero j four inside small =
    let long : length g ≡ 4 = four 0 (omega arith) in
    let here : 4 * 0 + j ≡ j = omega arith in
    ap (λ n. get_or (g ++ values xs) n 0) here ∙ get_or_append_left g (values xs) 0 j (omega (arith, long, small))
get_at (g ∷ xs) (suc i) j four inside small =
    let long : length g ≡ 4 = four 0 (omega arith) in
    let later : 4 * suc i + j ≡ length g + (4 * i + j) = omega (arith, long) in
    ap (λ n. get_or (g ++ values xs) n 0) later ∙ get_or-append-add g (values xs) (4 * i + j) 0 ∙ get_at xs i j (rest_have g xs four) (omega (arith, inside)) small

set_at : (xs : List (List ℕ)) (i j v : ℕ) → HaveFour xs → i < length xs → j < 4 → values (set xs i (set (get_or xs i []) j v)) ≡ set (values xs) (4 * i + j) v
set_at [] i j v four inside small = absurd (omega (arith, inside))
set_at (g ∷ xs) zero j v four inside small =
    let long : length g ≡ 4 = four 0 (omega arith) in
    let here : j ≡ 4 * 0 + j = omega arith in
    sym (set-append_left g (values xs) j v (omega (arith, long, small))) ∙ ap (λ n. set (g ++ values xs) n v) here
set_at (g ∷ xs) (suc i) j v four inside small =
    let long : length g ≡ 4 = four 0 (omega arith) in
    let later : 4 * i + j ≡ 4 * suc i + j - 4 = omega arith in
    ap (λ ys. g ++ ys) (set_at xs i j v (rest_have g xs four) (omega (arith, inside)) small ∙ ap (λ n. set (values xs) n v) later)
    ∙ sym (set-append_right g (values xs) 4 (4 * suc i + j) v long (omega arith))

-- a slot is one of four registers of its element
slot_of_parts : (s : ℕ) → 4 * (s / 4) + s % 4 ≡ s
slot_of_parts s = omega arith

pub get_or-values : (xs : List (List ℕ)) (s : ℕ) → HaveFour xs → s < 4 * length xs → get_or (get_or xs (s / 4) []) (s % 4) 0 ≡ get_or (values xs) s 0
get_or-values xs s four inside = sym (get_at xs (s / 4) (s % 4) four (omega (arith, inside)) (omega arith)) ∙ ap (λ n. get_or (values xs) n 0) (slot_of_parts s)

pub values-set : (xs : List (List ℕ)) (s v : ℕ) → HaveFour xs → s < 4 * length xs → values (set xs (s / 4) (set (get_or xs (s / 4) []) (s % 4) v)) ≡ set (values xs) s v
values-set xs s v four inside = set_at xs (s / 4) (s % 4) v four (omega (arith, inside)) (omega arith) ∙ ap (λ n. set (values xs) n v) (slot_of_parts s)

-- 2^k registers are in 2^(k - 2) elements
pub four_each : (k : ℕ) → 4 ≤ k → 4 * 2 ^ (k - 2) ≡ 2 ^ k
four_each k least =
    let up : suc (suc (k - 2)) ≡ k = omega (arith, least) in
    let twice : 4 * 2 ^ (k - 2) ≡ 2 ^ suc (suc (k - 2)) = omega arith in
    twice ∙ ap (λ n. 2 ^ n) up
