-- SPDX-License-Identifier: Apache-2.0
-- Lemmas on the first byte that passes a test, found block by block.
use Rattle.std.proofs.Common.{◌≡◌, ℕ, ◌+◌, ◌-◌, ◌<◌, ◌≤◌, ◌^◌, inl, inr, Bool, true, false, cond, nat_lt, List, length, drop, get_or, map, sym, ◌∙◌, ap, subst, arith, Some, None, length-drop, w64}
use Rattle.std.specs.List.{position, position_or_len}
use Rattle.std.specs.Simd.Lanes.{chunk, mask_l}
use Rattle.std.specs.Int.{trailing_zeros}
use Rattle.std.proofs.lemmas.Bool.{ltb-true, ltb-false, cases_lt}
use Rattle.std.proofs.lemmas.List.{get_or-drop}
use Rattle.std.proofs.lemmas.List.Sums.{position_or_len_is, fails_before_first, passes_at_first}
use Rattle.std.proofs.lemmas.Nat.Bits.{bit_at-trailing_zeros}
use Rattle.std.proofs.lemmas.Simd.{length-chunk, trailing_mask_l, none_from_empty_mask, run_in_chunk_fails, run_in_chunk_stops}
use Rattle.std.proofs.lemmas.Bool.Decides.{nat_tests}
use Rattle.hll_text.proofs.PartLemmas.{some_of, none_of}

module _ (p : ℕ → Bool) (xs : List ℕ) where
  -- no byte before an index passes
  abbrev pub NoneBefore : ℕ → Type 0
  NoneBefore n = (k : ℕ) → k < n → p (get_or xs k 0) ≡ false

  pub found : (i : ℕ) → i < length xs → NoneBefore i → p (get_or xs i 0) ≡ true → Some i ≡ position p xs
  found i room fails passes =
      let at : position_or_len p xs ≡ i = position_or_len_is p xs i 0 (omega arith) fails (λ _. passes) in
      let below : nat_lt i (length xs) ≡ true = grind (arith, nat_tests, room) in
      sym ((λ j. cond (nat_lt (at j) (length xs)) (Some (at j)) None) ∙ ap (λ b. cond b (Some i) None) below)

  pub not_found : NoneBefore (length xs) → None ≡ position p xs
  not_found fails =
      let at : position_or_len p xs ≡ length xs = position_or_len_is p xs (length xs) 0 (omega arith) fails (λ l. absurd (omega arith)) in
      let above : nat_lt (length xs) (length xs) ≡ false = grind (arith, nat_tests) in
      sym ((λ j. cond (nat_lt (at j) (length xs)) (Some (at j)) None) ∙ ap (λ b. cond b (Some (length xs)) None) above)

  pub passes_at : (i : ℕ) → position p xs ≡ Some i → p (get_or xs i 0) ≡ true
  passes_at i e =
      let h = some_of _ _ i e in
      subst (λ j. p (get_or xs j 0) ≡ true) h.1 (passes_at_first p xs 0 (ltb-true _ _ h.0))

  -- ---- the bytes from an index on

  module _ (n : ℕ) (before : NoneBefore n) where
    below : (i : ℕ) → i ≤ position_or_len p (drop n xs) → NoneBefore (n + i)
    below i none k h = elim (cases_lt k n) [
      | inl low ↦ before k low
      | inr high ↦
          let back : n + (k - n) ≡ k = omega (arith, high) in
          subst (λ x. p x ≡ false) (get_or-drop n xs (k - n) 0 ∙ ap (λ j. get_or xs j 0) back) (fails_before_first p (drop n xs) (k - n) 0 (omega (arith, none, h, back)))
    ]

    pub found_after : (i : ℕ) → n ≤ length xs → position p (drop n xs) ≡ Some i → Some (n + i) ≡ position p xs
    found_after i few e =
        let h = some_of _ _ i e in
        let room : position_or_len p (drop n xs) < length (drop n xs) = ltb-true _ _ h.0 in
        let passes : p (get_or xs (n + i) 0) ≡ true = ap p (sym (get_or-drop n xs i 0)) ∙ subst (λ j. p (get_or (drop n xs) j 0) ≡ true) h.1 (passes_at_first p (drop n xs) 0 room) in
        found (n + i) (omega (arith, room, h.1, length-drop n xs, few)) (below i (omega (arith, h.1))) passes

    pub not_found_after : n ≤ length xs → position p (drop n xs) ≡ None → None ≡ position p xs
    not_found_after few e =
        let all : length (drop n xs) ≤ position_or_len p (drop n xs) = ltb-false _ _ (none_of _ _ e) in
        let whole : n + length (drop n xs) ≡ length xs = omega (arith, length-drop n xs, few) in
        not_found (subst NoneBefore whole (below (length (drop n xs)) all))

    -- ---- by the mask of the block that begins there

    module _ (room : n + 64 ≤ length xs) where
      pub none_in_block : mask_l (map p (chunk n 64 xs)) ≡ 0 → NoneBefore (n + 64)
      none_in_block empty k h = elim (cases_lt k n) [ inl low ↦ before k low | inr high ↦ none_from_empty_mask p xs n 64 0 room empty k high h ]

      pub found_in_block : (m : ℕ) → m ≡ mask_l (map p (chunk n 64 xs)) → 0 < m → m < 2 ^ 64 → Some (n + trailing_zeros w64 m) ≡ position p xs
      found_in_block m is some fits =
          let t : ℕ = trailing_zeros w64 m in
          let long : length (chunk n 64 xs) ≡ 64 = length-chunk n 64 xs room in
          let at = ap (trailing_zeros w64) is ∙ trailing_mask_l p 64 (chunk n 64 xs) (omega (arith, long)) (omega (arith, is, some)) in
          let low : t < 64 = (bit_at-trailing_zeros w64 m some fits).0 in
          let none : NoneBefore (n + t) = λ k h. elim (cases_lt k n) [ inl low ↦ before k low | inr high ↦ run_in_chunk_fails p xs n 64 t 0 room at k high h ] in
          found (n + t) (omega arith) none (run_in_chunk_stops p xs n 64 t 0 room at low)
