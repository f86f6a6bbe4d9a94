-- SPDX-License-Identifier: Apache-2.0
-- Lemmas on the digits among eight bytes in lanes.
use Rattle.std.proofs.Common.{◌≡◌, ℕ, ◌+◌, ◌-◌, ◌*◌, ◌%◌, ◌^◌, ◌<◌, ◌≤◌, zero, suc, Bool, true, false, cond, nat_lt, List, [], ◌∷◌, length, take, drop, get_or, map, replicate, refl, sym, ap, subst, ◌∙◌, arith, w8, w32, w64, Fits}
use Rattle.std.specs.Prelude.{not, fold, ◌&&◌}
use Rattle.std.specs.Char.{is_ascii_digit}
use Rattle.std.specs.Int.{trailing_zeros}
use Rattle.std.specs.List.{list_all, prefix_len}
use Rattle.std.specs.Simd.Lanes.{zip2, sel_l, mask_l, top, chunk, sum_l, fold_l, products, Each1, Each2, Steps}
use Rattle.std.proofs.lemmas.Bool.Decides.{nat_tests}
use Rattle.std.proofs.lemmas.List.{length-map, take-take}
use Rattle.std.proofs.lemmas.List.Folds.{list_all_more}
use Rattle.std.proofs.lemmas.Simd.{mask_l-mod, pick_l_whole, length-chunk, chunk-fits, below_from_Fits, fold-sum, sum_fits, trailing_mask_l, run_in_chunk_le, run_in_chunk_fails, run_in_chunk_stops}
use Rattle.std.proofs.Math.Nat.{mul-le-mul_right}
use Rattle.hll_text.specs.Text.{decimal_value}

-- ---- which bytes are digits

other_lane : (x : ℕ) → x < 256 → top 7 (cond (nat_lt 9 ((x + 208) % 256)) 255 0) ≡ not (is_ascii_digit x)
other_lane x h = grind (arith, nat_tests)

other_lanes : (n : ℕ) (xs : List ℕ) → length xs ≡ n → Each1 (λ x. x < 256) xs →
    map (top 7) (zip2 (λ a b. cond (nat_lt a b) 255 0) (replicate n 9) (zip2 (λ a b. (a + (256 - b)) % 256) xs (replicate n 48))) ≡ map (λ b. not (is_ascii_digit b)) xs
other_lanes zero [] e h = refl
other_lanes zero (x ∷ xs) e h = absurd (omega arith)
other_lanes (suc n) [] e h = refl
other_lanes (suc n) (x ∷ xs) e h = λ i. other_lane x h.0 i ∷ other_lanes n xs (omega arith) h.1 i

not_false : (b : Bool) → not b ≡ false → b ≡ true
not_false true h = refl
not_false false h = absurd (cc)

not_true : (b : Bool) → not b ≡ true → b ≡ false
not_true true h = absurd (cc)
not_true false h = refl

-- the digits end where a sequence of lanes that are digits ends
digits_of_run : (xs : List ℕ) (n : ℕ) → n ≤ length xs → ((k : ℕ) → k < n → not (is_ascii_digit (get_or xs k 0)) ≡ false) → list_all is_ascii_digit (take n xs) ≡ true
digits_of_run xs zero few h = refl
digits_of_run xs (suc n) few h =
    let next : list_all is_ascii_digit (take (n + 1) xs) ≡ (list_all is_ascii_digit (take n xs) && is_ascii_digit (get_or xs n 0)) = list_all_more is_ascii_digit xs n 0 (omega arith) in
    let before : list_all is_ascii_digit (take n xs) ≡ true = digits_of_run xs n (omega arith) (λ k l. h k (omega arith)) in
    let up : n + 1 ≡ suc n = omega arith in
    subst (λ m. list_all is_ascii_digit (take m xs) ≡ true) up (next ∙ (λ i. before i && is_ascii_digit (get_or xs n 0)) ∙ not_false _ (h n (omega arith)))

-- ---- their value

above_zero : (x : ℕ) → x < 256 → (cond (top 7 (cond (nat_lt x 48) 255 0)) 48 x + 208) % 256 ≡ x - 48
above_zero x h = grind (arith, nat_tests)

-- the differences between bytes and the digit 0, as wider numbers
abbrev above : ℕ → List ℕ → List ℕ
above n xs = map (λ d. d) (zip2 (λ a b. (a + (256 - b)) % 256) (sel_l (map (top 7) (zip2 (λ a b. cond (nat_lt a b) 255 0) xs (replicate n 48))) (replicate n 48) xs) (replicate n 48))

above-lanes : (n : ℕ) (xs : List ℕ) → length xs ≡ n → Each1 (λ x. x < 256) xs → above n xs ≡ map (λ b. b - 48) xs
above-lanes zero [] e h = refl
above-lanes zero (x ∷ xs) e h = absurd (omega arith)
above-lanes (suc n) [] e h = refl
above-lanes (suc n) (x ∷ xs) e h = λ i. above_zero x h.0 i ∷ above-lanes n xs (omega arith) h.1 i

-- the powers of ten for n digits, and then zeros
abbrev powers : ℕ → List ℕ
powers n = chunk 0 8 (take (16 - (8 - n)) (drop (8 - n) (10000000 ∷ 1000000 ∷ 100000 ∷ 10000 ∷ 1000 ∷ 100 ∷ 10 ∷ 1 ∷ 0 ∷ 0 ∷ 0 ∷ 0 ∷ 0 ∷ 0 ∷ 0 ∷ 0 ∷ [])))

module _ (f : ℕ → ℕ) (a b c d e g h i : ℕ) where
  abbrev eight : List ℕ
  eight = a ∷ b ∷ c ∷ d ∷ e ∷ g ∷ h ∷ i ∷ []

  weighed : (n : ℕ) → n ≤ 8 → sum_l (products (map f eight) (powers n)) ≡ fold (λ v x. 10 * v + f x) 0 (take n eight)
  weighed zero l = omega arith
  weighed (suc zero) l = omega arith
  weighed (suc (suc zero)) l = omega arith
  weighed (suc (suc (suc zero))) l = omega arith
  weighed (suc (suc (suc (suc zero)))) l = omega arith
  weighed (suc (suc (suc (suc (suc zero))))) l = omega arith
  weighed (suc (suc (suc (suc (suc (suc zero)))))) l = omega arith
  weighed (suc (suc (suc (suc (suc (suc (suc zero))))))) l = omega arith
  weighed (suc (suc (suc (suc (suc (suc (suc (suc zero)))))))) l = omega arith
  weighed (suc (suc (suc (suc (suc (suc (suc (suc (suc n))))))))) l = absurd (omega arith)

sum-powers : (xs : List ℕ) (n : ℕ) → length xs ≡ 8 → n ≤ 8 → sum_l (products (map (λ b. b - 48) xs) (powers n)) ≡ decimal_value (take n xs)
sum-powers xs n e l =
    subst (λ ys. sum_l (products (map (λ b. b - 48) ys) (powers n)) ≡ decimal_value (take n ys)) (pick_l_whole 0 xs 8 e)
    (weighed (λ b. b - 48) (get_or xs 0 0) (get_or xs 1 0) (get_or xs 2 0) (get_or xs 3 0) (get_or xs 4 0) (get_or xs 5 0) (get_or xs 6 0) (get_or xs 7 0) n l)

-- ---- none of it overflows

powers_total : (n : ℕ) → n ≤ 8 → sum_l (powers n) ≤ 11111111
powers_total zero l = omega arith
powers_total (suc zero) l = omega arith
powers_total (suc (suc zero)) l = omega arith
powers_total (suc (suc (suc zero))) l = omega arith
powers_total (suc (suc (suc (suc zero)))) l = omega arith
powers_total (suc (suc (suc (suc (suc zero))))) l = omega arith
powers_total (suc (suc (suc (suc (suc (suc zero)))))) l = omega arith
powers_total (suc (suc (suc (suc (suc (suc (suc zero))))))) l = omega arith
powers_total (suc (suc (suc (suc (suc (suc (suc (suc zero)))))))) l = omega arith
powers_total (suc (suc (suc (suc (suc (suc (suc (suc (suc n))))))))) l = absurd (omega arith)

products-le : (xs ws : List ℕ) → Each1 (λ x. x < 256) xs → sum_l (products xs ws) ≤ 255 * sum_l ws
products-le [] ws h = omega arith
products-le (x ∷ xs) [] h = omega arith
products-le (x ∷ xs) (w ∷ ws) h =
    let one : x * w ≤ 255 * w = mul-le-mul_right {m = x} {n = 255} w (omega (arith, h.0)) in
    omega (arith, one, products-le xs ws h.1)

products_fit : (xs ws : List ℕ) (m : ℕ) → Each1 (λ x. x < 256) xs → sum_l ws ≤ m → m ≤ 11111111 → Each2 (λ x w. Fits w32 (x * w)) xs ws
products_fit [] ws m h k l = tt
products_fit (x ∷ xs) [] m h k l = tt
products_fit (x ∷ xs) (w ∷ ws) m h k l =
    let one : x * w ≤ 255 * w = mul-le-mul_right {m = x} {n = 255} w (omega (arith, h.0)) in
    (record { fits = omega arith }, products_fit xs ws m h.1 (omega arith) l)

above-fits : (xs : List ℕ) → Each1 (λ x. x < 256) xs → Each1 (λ x. x < 256) (map (λ b. b - 48) xs)
above-fits [] h = tt
above-fits (x ∷ xs) h = (omega (arith, h.0), above-fits xs h.1)

-- ---- the first eight bytes of a text, of which n are read

module _ (text : List ℕ) (long : 8 ≤ length text) (fits : (k : ℕ) → Fits w8 (get_or text k 0)) where
  byte_lanes : Each1 (λ x. x < 256) (chunk 0 8 text)
  byte_lanes = below_from_Fits w8 (chunk 0 8 text) (chunk-fits w8 0 8 text fits)

  pub other_mask : mask_l (map (top 7) (zip2 (λ a b. cond (nat_lt a b) 255 0) (replicate 8 9) (zip2 (λ a b. (a + (256 - b)) % 256) (chunk 0 8 text) (replicate 8 48)))) % 2 ^ 64
      ≡ mask_l (map (λ b. not (is_ascii_digit b)) (chunk 0 8 text))
  other_mask =
      let others : List Bool = map (λ b. not (is_ascii_digit b)) (chunk 0 8 text) in
      ap (λ ms. mask_l ms % 2 ^ 64) (other_lanes 8 (chunk 0 8 text) (length-chunk 0 8 text long) byte_lanes)
      ∙ mask_l-mod others 64 (omega (arith, length-map (chunk 0 8 text) (λ b. not (is_ascii_digit b)), length-chunk 0 8 text long))

  module _ (n : ℕ) (few : n ≤ 8) where
    are_above : above 8 (chunk 0 8 text) ≡ map (λ b. b - 48) (chunk 0 8 text)
    are_above = above-lanes 8 (chunk 0 8 text) (length-chunk 0 8 text long) byte_lanes

    below : Each1 (λ x. x < 256) (above 8 (chunk 0 8 text))
    below = subst (Each1 (λ x. x < 256)) (sym are_above) (above-fits (chunk 0 8 text) byte_lanes)

    pub Each2-fits : Each2 (λ x w. Fits w32 (x * w)) (above 8 (chunk 0 8 text)) (powers n)
    Each2-fits = products_fit (above 8 (chunk 0 8 text)) (powers n) 11111111 below (powers_total n few) (omega arith)

    pub Steps-fit : Steps (λ s x. Fits w32 (s + x)) (λ s x. s + x) 0 (products (above 8 (chunk 0 8 text)) (powers n))
    Steps-fit = sum_fits w32 0 (products (above 8 (chunk 0 8 text)) (powers n)) (omega (arith, products-le (above 8 (chunk 0 8 text)) (powers n) below, powers_total n few))

    pub fold-products : fold_l (λ s x. s + x) 0 (products (above 8 (chunk 0 8 text)) (powers n)) ≡ decimal_value (take n text)
    fold-products =
        let none : 0 + sum_l (products (above 8 (chunk 0 8 text)) (powers n)) ≡ sum_l (products (above 8 (chunk 0 8 text)) (powers n)) = omega arith in
        fold-sum 0 (products (above 8 (chunk 0 8 text)) (powers n)) ∙ none
        ∙ ap (λ xs. sum_l (products xs (powers n))) are_above
        ∙ sum-powers (chunk 0 8 text) n (length-chunk 0 8 text long) few
        ∙ ap decimal_value (take-take n 8 text few)

-- the first eight bytes, with the mask of those that are not digits
module _ (text : List ℕ) (long : 8 ≤ length text) (m : ℕ) (is : m ≡ mask_l (map (λ b. not (is_ascii_digit b)) (chunk 0 8 text))) where
  module _ (some : 0 < m) where
    counted : trailing_zeros w64 m ≡ prefix_len (λ b. not (not (is_ascii_digit b))) (chunk 0 8 text)
    counted = ap (trailing_zeros w64) is ∙ trailing_mask_l (λ b. not (is_ascii_digit b)) 64 (chunk 0 8 text) (omega (arith, length-chunk 0 8 text long)) (omega (arith, is, some))

    pub first_other-le : trailing_zeros w64 m ≤ 8
    first_other-le = run_in_chunk_le (λ b. not (is_ascii_digit b)) text 0 8 (trailing_zeros w64 m) 0 (omega arith) counted

    pub digits_before : list_all is_ascii_digit (take (trailing_zeros w64 m) text) ≡ true
    digits_before = digits_of_run text (trailing_zeros w64 m) (omega (arith, first_other-le)) (λ k l.
        run_in_chunk_fails (λ b. not (is_ascii_digit b)) text 0 8 (trailing_zeros w64 m) 0 (omega arith) counted k (omega arith) (omega arith))

    pub first_other_is : trailing_zeros w64 m < 8 → is_ascii_digit (get_or text (trailing_zeros w64 m) 0) ≡ false
    first_other_is inside =
        let at : 0 + trailing_zeros w64 m ≡ trailing_zeros w64 m = omega arith in
        not_true _ (subst (λ k. not (is_ascii_digit (get_or text k 0)) ≡ true) at (run_in_chunk_stops (λ b. not (is_ascii_digit b)) text 0 8 (trailing_zeros w64 m) 0 (omega arith) counted inside))
