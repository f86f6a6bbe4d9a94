-- SPDX-License-Identifier: Apache-2.0
-- Lemmas on hashing in pieces.
use Rattle.std.proofs.Common.{inl, inr, ◌≡◌, ℕ, zero, suc, ◌+◌, ◌*◌, ◌/◌, ◌%◌, ◌-◌, ◌<◌, ◌≤◌, ◌^◌, List, [], ◌∷◌, ◌++◌, length, take, drop, get_or, fold, replicate, append_assoc, true, false, nat_lt, if◌then◌else◌, refl, sym, ap, ◌∙◌, arith}
use Rattle.std.specs.Int.{w64, from_le_bytes, byte_worth, sum_through}
use Rattle.std.specs.Simd.{first_chunks}
use Rattle.std.proofs.lemmas.List.{length-append, length-drop, length-take-le, take_at, drop_at, take-append-drop, drop-drop, drop-replicate}
use Rattle.std.specs.Prelude.{bit_xor}
use Rattle.std.proofs.lemmas.Bool.{cases_lt, lt-ltb, le-ltb, cond-true, cond-false}
use Rattle.hll_base.specs.Hash.{Halves, first_scramble, second_scramble, first_word, second_word, after_block, after_rest, final_halves, blocks, hash, HashState, initial_state, after_bytes, after_piece, PiecesAreOne, HashOfPiece}

-- ---- a tail padded with zeros

module _ where
  abbrev none : ℕ
  none = 0

  zeros : (k d n i : ℕ) → get_or (take k (drop d (replicate n 0))) i 0 ≡ none
  zeros zero d n i = refl
  zeros (suc k) zero zero i = refl
  zeros (suc k) zero (suc n) zero = refl
  zeros (suc k) zero (suc n) (suc i) = zeros k zero n i
  zeros (suc k) (suc d) zero i = refl
  zeros (suc k) (suc d) (suc n) i = zeros (suc k) d n i

  filled_up : (k d n : ℕ) (xs : List ℕ) (i : ℕ) → get_or (take k (drop d (xs ++ replicate n 0))) i 0 ≡ get_or (take k (drop d xs)) i 0
  filled_up zero d n xs i = refl
  filled_up (suc k) zero n [] i = zeros (suc k) zero n i
  filled_up (suc k) zero n (x ∷ xs) zero = refl
  filled_up (suc k) zero n (x ∷ xs) (suc i) = filled_up k zero n xs i
  filled_up (suc k) (suc d) n [] i = zeros (suc k) (suc d) n i
  filled_up (suc k) (suc d) n (x ∷ xs) i = filled_up (suc k) d n xs i

  same_word : (xs ys : List ℕ) → ((i : ℕ) → get_or xs i 0 ≡ get_or ys i 0) → from_le_bytes w64 xs ≡ from_le_bytes w64 ys
  same_word xs ys h = λ j. sum_through (λ i. byte_worth i (h i j)) 7

  pub first_word-filled : (xs : List ℕ) (n : ℕ) → first_word (xs ++ replicate n 0) ≡ first_word xs
  first_word-filled xs n = same_word (take 8 (xs ++ replicate n 0)) (take 8 xs) (filled_up 8 0 n xs)

pub rest_first : (h : Halves) (block rest : List ℕ) (count : ℕ) → length rest ≡ count → block ≡ rest ++ replicate (16 - count) 0 → 0 < count → count ≤ 8
    → record { first = bit_xor h.first (first_scramble (first_word block)); second = h.second } ≡ after_rest h rest
rest_first h block rest count e is some few =
    let word : first_word block ≡ first_word rest = ap first_word is ∙ first_word-filled rest (16 - count) in
    let a : nat_lt 0 (length rest) ≡ true = lt-ltb 0 (length rest) (omega (arith, e, some)) in
    let b : nat_lt 8 (length rest) ≡ false = le-ltb 8 (length rest) (omega (arith, e, few)) in
    let scrambled : ℕ = bit_xor h.first (first_scramble (first_word rest)) in
    let first : bit_xor h.first (first_scramble (first_word block)) ≡ (if nat_lt 0 (length rest) then scrambled else h.first) =
    ap (λ w. bit_xor h.first (first_scramble w)) word ∙ sym (cond-true (nat_lt 0 (length rest)) scrambled h.first a) in
    let second : h.second ≡ (if nat_lt 8 (length rest) then bit_xor h.second (second_scramble (second_word rest)) else h.second) =
    sym (cond-false (nat_lt 8 (length rest)) (bit_xor h.second (second_scramble (second_word rest))) h.second b) in
    λ i. let x : Halves = record { first = first i; second = second i } in x

-- ---- blocks

-- a block followed by other bytes
pub after_bytes-block : (h : Halves) (block more : List ℕ) (count : ℕ) → length block ≡ 16 → after_bytes h (block ++ more) count ≡ after_bytes (after_block h block) more count
after_bytes-block h block more count e =
    let one_more : length (block ++ more) / 16 ≡ suc (length more / 16) = omega (arith, e, length-append block more) in
    let front : take 16 (block ++ more) ≡ block = take_at block more 16 e in
    let after : drop 16 (block ++ more) ≡ more = drop_at block more 16 e in
    let skip : drop (suc (length more / 16) * 16) (block ++ more) ≡ drop (length more / 16 * 16) more =
    ap (λ n. drop n (block ++ more)) (let n : suc (length more / 16) * 16 ≡ 16 + length more / 16 * 16 = omega arith in n)
    ∙ sym (drop-drop (length more / 16 * 16) 16 (block ++ more)) ∙ ap (drop (length more / 16 * 16)) after in
    ap (λ n. let s : HashState = record { halves = fold after_block h (blocks n (block ++ more)); partial = drop (n * 16) (block ++ more); count = count } in s) one_more
    ∙ (λ i. let s : HashState = record { halves = fold after_block (after_block h (front i)) (first_chunks 16 (length more / 16) (after i)); partial = skip i; count = count } in s)

-- the state after bytes in two steps
after_bytes-after : (n : ℕ) (h : Halves) (xs b : List ℕ) (c : ℕ) → length xs < n → after_bytes (after_bytes h xs c).halves ((after_bytes h xs c).partial ++ b) c ≡ after_bytes h (xs ++ b) c
after_bytes-after zero h xs b c l = absurd (omega (arith, l))
after_bytes-after (suc n) h xs b c l = elim (cases_lt (length xs) 16) [
  | inl few ↦
      let none : length xs / 16 ≡ 0 = omega (arith, few) in
      ap (λ full. after_bytes (fold after_block h (blocks full xs)) (drop (full * 16) xs ++ b) c) none
  | inr many ↦
      let front : List ℕ = take 16 xs in
      let more : List ℕ = drop 16 xs in
      let size : length front ≡ 16 = length-take-le 16 xs many in
      let split : xs ≡ front ++ more = sym (take-append-drop 16 xs) in
      let first : after_bytes h xs c ≡ after_bytes (after_block h front) more c = ap (λ ys. after_bytes h ys c) split ∙ after_bytes-block h front more c size in
      ap (λ (s : HashState). after_bytes s.halves (s.partial ++ b) c) first
      ∙ after_bytes-after n (after_block h front) more b c (omega (arith, length-drop 16 xs, l, many))
      ∙ sym (after_bytes-block h front (more ++ b) c size)
      ∙ ap (λ ys. after_bytes h ys c) (sym (append_assoc front more b) ∙ ap (λ ys. ys ++ b) (sym split))
]

pub pieces_are_one : PiecesAreOne
pieces_are_one s a b =
    let c : ℕ = ((s.count + length a) % 2 ^ 64 + length b) % 2 ^ 64 in
    let sum : c ≡ (s.count + length (a ++ b)) % 2 ^ 64 = omega (arith, length-append a b) in
    after_bytes-after (suc (length (s.partial ++ a))) s.halves (s.partial ++ a) b c (omega arith)
    ∙ (λ i. after_bytes s.halves (append_assoc s.partial a b i) (sum i))

pub hash_of_piece : HashOfPiece
hash_of_piece seed bytes =
    let s : HashState = after_piece (initial_state seed) bytes in
    let sum : 0 + length bytes ≡ length bytes = omega arith in
    ap (λ n. final_halves (n % 2 ^ 64) (after_rest s.halves s.partial)) sum

-- ---- the partial block

-- the block stays padded with zeros when bytes are appended to its first n
pub zeros_after : (n m : ℕ) (block others new : List ℕ) → m ≡ n + length others → new ≡ take n block ++ others ++ drop (n + length others) block
    → n ≤ length block → drop n block ≡ replicate (16 - n) 0 → drop m new ≡ replicate (16 - m) 0
zeros_after n m block others new end put within zeros =
    let front : List ℕ = take n block ++ others in
    let size : length front ≡ m = omega (arith, length-append (take n block) others, length-take-le n block within, end) in
    let left : replicate (16 - n - length others) 0 ≡ replicate (16 - m) 0 = ap (λ k. replicate k 0) (omega (arith, end)) in
    ap (drop m) put ∙ drop_at front (drop (n + length others) block) m size
    ∙ sym (drop-drop (length others) n block) ∙ ap (drop (length others)) zeros
    ∙ drop-replicate (length others) (16 - n) 0 ∙ left

-- ---- eight bytes

-- eight bytes have no full block: their tail is absorbed at once
pub hash-eight : (seed : ℕ) (bytes : List ℕ) → length bytes ≡ 8 → final_halves 8 (after_rest (record { first = seed; second = seed }) bytes) ≡ hash seed bytes
hash-eight seed bytes e =
    let s : Halves = record { first = seed; second = seed } in
    ap (λ n. final_halves (n % 2 ^ 64) (after_rest (fold after_block s (blocks (n / 16) bytes)) (drop (n / 16 * 16) bytes))) (sym e)
