-- SPDX-License-Identifier: Apache-2.0
-- Lemmas on 4-bit registers in lanes.
use Rattle.hll_kernels.proofs.Parts.{greater}
use Rattle.std.proofs.Common.{◌≡◌, ℕ, ◌+◌, ◌-◌, ◌*◌, ◌/◌, ◌%◌, ◌^◌, ◌<◌, ◌≤◌, zero, suc, List, [], ◌∷◌, ◌++◌, length, get_or, replicate, cond, bit_and, bit_or, nat_lt, max, Bool, true, false, refl, ap, subst, ◌∙◌, arith}
use Rattle.std.specs.Prelude.{◌&&◌, ◌==◌, min, nat_le, not}
use Rattle.std.specs.List.{flat_map, list_all}
use Rattle.std.specs.Simd.Lanes.{pick_l, zip2, sel_l, mask_l, top, Each1}
use Rattle.std.proofs.lemmas.Bool.Decides.{nat_tests}
use Rattle.std.proofs.lemmas.List.Concat.{flat_map-append}
use Rattle.std.proofs.lemmas.Nat.{and_mask}
use Rattle.std.proofs.lemmas.List.{length-map}
use Rattle.std.proofs.lemmas.Simd.{mask_l-mod, pick_l_whole}
use Rattle.hll_kernels.specs.Lanes.{nibble_values, nibble_pairs}
use Rattle.hll_kernels.specs.Packed.{nibble, nibble_bytes_above}
use Rattle.hll_kernels.proofs.ZeroTests.{none_by_mask}
use mathlib.Core.List.{map}

-- ---- unpacking

low_lane : (m x : ℕ) → m ≤ 240 → x < 256 → (bit_and x 15 + m) % 256 ≡ m + x % 16
low_lane m x k h = ap (λ n. (n + m) % 256) (and_mask x 4) ∙ omega arith

high_lane : (m x : ℕ) → m ≤ 240 → x < 256 → (x / 16 + m) % 256 ≡ m + x / 16
high_lane m x k h = omega arith

low_lanes : (n m : ℕ) (xs : List ℕ) → m ≤ 240 → length xs ≡ n → Each1 (λ x. x < 256) xs → zip2 (λ a b. (a + b) % 256) (zip2 bit_and xs (replicate n 15)) (replicate n m) ≡ map (λ b. m + b % 16) xs
low_lanes zero m [] k e h = refl
low_lanes zero m (x ∷ xs) k e h = absurd (omega arith)
low_lanes (suc n) m [] k e h = absurd (omega arith)
low_lanes (suc n) m (x ∷ xs) k e h = λ i. low_lane m x k h.0 i ∷ low_lanes n m xs k (omega arith) h.1 i

high_lanes : (n m : ℕ) (xs : List ℕ) → m ≤ 240 → length xs ≡ n → Each1 (λ x. x < 256) xs → zip2 (λ a b. (a + b) % 256) (zip2 (λ a b. a / 2 ^ b) xs (replicate n 4)) (replicate n m) ≡ map (λ b. m + b / 16) xs
high_lanes zero m [] k e h = refl
high_lanes zero m (x ∷ xs) k e h = absurd (omega arith)
high_lanes (suc n) m [] k e h = absurd (omega arith)
high_lanes (suc n) m (x ∷ xs) k e h = λ i. high_lane m x k h.0 i ∷ high_lanes n m xs k (omega arith) h.1 i

abbrev alternating : List ℕ → List ℕ → List ℕ
alternating low high =
    pick_l 0 (low ++ high) (0 ∷ 16 ∷ 1 ∷ 17 ∷ 2 ∷ 18 ∷ 3 ∷ 19 ∷ 4 ∷ 20 ∷ 5 ∷ 21 ∷ 6 ∷ 22 ∷ 7 ∷ 23 ∷ []) ++ pick_l 0 (low ++ high) (8 ∷ 24 ∷ 9 ∷ 25 ∷ 10 ∷ 26 ∷ 11 ∷ 27 ∷ 12 ∷ 28 ∷ 13 ∷ 29 ∷ 14 ∷ 30 ∷ 15 ∷ 31 ∷ [])

in_turn : (f g : ℕ → ℕ) (xs : List ℕ) → length xs ≡ 16 → alternating (map f xs) (map g xs) ≡ flat_map (λ b. f b ∷ g b ∷ []) xs
in_turn f g xs e = subst (λ ys. alternating (map f ys) (map g ys) ≡ flat_map (λ b. f b ∷ g b ∷ []) ys) (pick_l_whole 0 xs 16 e) refl

pub nibbles_in_turn : (m : ℕ) (xs : List ℕ) → m ≤ 240 → length xs ≡ 16 → Each1 (λ x. x < 256) xs →
    alternating (zip2 (λ a b. (a + b) % 256) (zip2 bit_and xs (replicate 16 15)) (replicate 16 m)) (zip2 (λ a b. (a + b) % 256) (zip2 (λ a b. a / 2 ^ b) xs (replicate 16 4)) (replicate 16 m)) ≡ nibble_values m xs
nibbles_in_turn m xs k e h = (λ i. alternating (low_lanes 16 m xs k e h i) (high_lanes 16 m xs k e h i)) ∙ in_turn (λ b. m + b % 16) (λ b. m + b / 16) xs e

pub nibble_values-append : (m : ℕ) (xs ys : List ℕ) → nibble_values m (xs ++ ys) ≡ nibble_values m xs ++ nibble_values m ys
nibble_values-append m xs ys = flat_map-append (λ b. (m + b % 16) ∷ (m + b / 16) ∷ []) xs ys

pub length-nibble_values : (m : ℕ) (xs : List ℕ) → length (nibble_values m xs) ≡ 2 * length xs
length-nibble_values m [] = refl
length-nibble_values m (x ∷ xs) = omega (arith, length-nibble_values m xs)

-- ---- tests

-- the mask of a lane of 8 bits where one of two masks is set
either : (p q : Bool) → top 7 (bit_or (cond p 255 0) (cond q 255 0)) ≡ not (not p && not q)
either true true = refl
either true false = refl
either false true = refl
either false false = refl

greater_lane : (g b : ℕ) → top 7 (bit_or (cond (nat_lt g (bit_and b 15)) 255 0) (cond (nat_lt (16 * g + 15) b) 255 0)) ≡ not (nat_le (b % 16) g && nat_le (b / 16) g)
greater_lane g b =
    let low : not (nat_lt g (bit_and b 15)) ≡ nat_le (b % 16) g = ap (λ m. not (nat_lt g m)) (and_mask b 4) ∙ grind (arith, nat_tests) in
    let high : not (nat_lt (16 * g + 15) b) ≡ nat_le (b / 16) g = grind (arith, nat_tests) in
    either (nat_lt g (bit_and b 15)) (nat_lt (16 * g + 15) b) ∙ (λ i. not (low i && high i))

greater_lanes : (n g : ℕ) (xs : List ℕ) → length xs ≡ n →
    map (top 7) (zip2 bit_or (zip2 (λ a b. cond (nat_lt a b) 255 0) (replicate n g) (zip2 bit_and xs (replicate n 15))) (zip2 (λ a b. cond (nat_lt a b) 255 0) (replicate n (16 * g + 15)) xs))
    ≡ map (λ b. not (nat_le (b % 16) g && nat_le (b / 16) g)) xs
greater_lanes zero g [] e = refl
greater_lanes zero g (x ∷ xs) e = absurd (omega arith)
greater_lanes (suc n) g [] e = refl
greater_lanes (suc n) g (x ∷ xs) e = λ i. greater_lane g x i ∷ greater_lanes n g xs (omega arith) i

pub at_most_by_mask : (n g : ℕ) (xs : List ℕ) → length xs ≡ n → n ≤ 64 →
    (mask_l (map (top 7) (zip2 bit_or (zip2 (λ a b. cond (nat_lt a b) 255 0) (replicate n g) (zip2 bit_and xs (replicate n 15))) (zip2 (λ a b. cond (nat_lt a b) 255 0) (replicate n (16 * g + 15)) xs))) % 2 ^ 64 == 0)
    ≡ list_all (λ b. nat_le (b % 16) g && nat_le (b / 16) g) xs
at_most_by_mask n g xs e few =
    let q : ℕ → Bool = λ b. nat_le (b % 16) g && nat_le (b / 16) g in
    ap (λ ms. mask_l ms % 2 ^ 64 == 0) (greater_lanes n g xs e) ∙ ap (λ m. m == 0) (mask_l-mod (map (λ b. not (q b)) xs) 64 (omega (arith, length-map xs (λ b. not (q b)), e))) ∙ none_by_mask q xs

-- ---- packing

lesser : (s : ℕ) → cond (top 7 (cond (nat_lt s 15) 255 0)) s 15 ≡ min s 15
lesser s = grind (arith, nat_tests)

pub above : (x m : ℕ) → x < 256 → m < 256 → (max x m + (256 - m)) % 256 ≡ x - m
above x m h k = omega arith

-- saturating subtraction
abbrev less : ℕ → ℕ → List ℕ → List ℕ
less n m xs = zip2 (λ a b. (a + (256 - b)) % 256) (sel_l (map (top 7) (zip2 (λ a b. cond (nat_lt a b) 255 0) xs (replicate n m))) (replicate n m) xs) (replicate n m)

one_nibble : (m x : ℕ) → m < 256 → x < 256 → let s = (cond (top 7 (cond (nat_lt x m) 255 0)) m x + (256 - m)) % 256 in cond (top 7 (cond (nat_lt s 15) 255 0)) s 15 ≡ nibble m x
one_nibble m x k h =
    let s : ℕ = (cond (top 7 (cond (nat_lt x m) 255 0)) m x + (256 - m)) % 256 in
    let e : s ≡ x - m = ap (λ y. (y + (256 - m)) % 256) (greater x m) ∙ above x m h k in
    lesser s ∙ ap (λ y. min y 15) e

pub nibble_lanes : (n m : ℕ) (xs : List ℕ) → length xs ≡ n → m < 256 → Each1 (λ x. x < 256) xs →
    sel_l (map (top 7) (zip2 (λ a b. cond (nat_lt a b) 255 0) (less n m xs) (replicate n 15))) (less n m xs) (replicate n 15) ≡ map (nibble m) xs
nibble_lanes zero m [] e k h = refl
nibble_lanes zero m (x ∷ xs) e k h = absurd (omega arith)
nibble_lanes (suc n) m [] e k h = refl
nibble_lanes (suc n) m (x ∷ xs) e k h = λ i. one_nibble m x k h.0 i ∷ nibble_lanes n m xs (omega arith) k h.1 i

small_element : (xs : List ℕ) (k : ℕ) → Each1 (λ v. v ≤ 15) xs → get_or xs k 0 ≤ 15
small_element [] k h = omega arith
small_element (x ∷ xs) zero h = h.0
small_element (x ∷ xs) (suc k) h = small_element xs k h.1

small_picks : (xs ks : List ℕ) → Each1 (λ v. v ≤ 15) xs → Each1 (λ v. v ≤ 15) (pick_l 0 xs ks)
small_picks xs [] h = tt
small_picks xs (k ∷ ks) h = (small_element xs k h, small_picks xs ks h)

one_pair : (a b : ℕ) → a ≤ 15 → b ≤ 15 → (a + b * 16 % 256) % 256 ≡ a + 16 * b
one_pair a b h k = omega arith

pairs_added : (n : ℕ) (xs ys : List ℕ) → length ys ≡ n → Each1 (λ v. v ≤ 15) xs → Each1 (λ v. v ≤ 15) ys →
    zip2 (λ a b. (a + b) % 256) xs (zip2 (λ a b. a * 2 ^ b % 256) ys (replicate n 4)) ≡ zip2 (λ a b. a + 16 * b) xs ys
pairs_added n [] ys e h k = refl
pairs_added zero (x ∷ xs) [] e h k = refl
pairs_added zero (x ∷ xs) (y ∷ ys) e h k = absurd (omega arith)
pairs_added (suc n) (x ∷ xs) [] e h k = absurd (omega arith)
pairs_added (suc n) (x ∷ xs) (y ∷ ys) e h k = λ i. one_pair x y h.0 k.0 i ∷ pairs_added n xs ys (omega arith) h.1 k.1 i

abbrev even_places : List ℕ
even_places = 0 ∷ 2 ∷ 4 ∷ 6 ∷ 8 ∷ 10 ∷ 12 ∷ 14 ∷ 16 ∷ 18 ∷ 20 ∷ 22 ∷ 24 ∷ 26 ∷ 28 ∷ 30 ∷ []

abbrev odd_places : List ℕ
odd_places = 1 ∷ 3 ∷ 5 ∷ 7 ∷ 9 ∷ 11 ∷ 13 ∷ 15 ∷ 17 ∷ 19 ∷ 21 ∷ 23 ∷ 25 ∷ 27 ∷ 29 ∷ 31 ∷ []

pub paired_lanes : (xs : List ℕ) → length xs ≡ 32 → Each1 (λ v. v ≤ 15) xs → zip2 (λ a b. (a + b) % 256) (pick_l 0 xs even_places) (zip2 (λ a b. a * 2 ^ b % 256) (pick_l 0 xs odd_places) (replicate 16 4)) ≡ nibble_pairs xs
paired_lanes xs e h =
    pairs_added 16 (pick_l 0 xs even_places) (pick_l 0 xs odd_places) refl (small_picks xs even_places h) (small_picks xs odd_places h)
    ∙ subst (λ ys. zip2 (λ a b. a + 16 * b) (pick_l 0 ys even_places) (pick_l 0 ys odd_places) ≡ nibble_pairs ys) (pick_l_whole 0 xs 32 e) refl

pub nibble_pairs-nibbles : (m : ℕ) (xs : List ℕ) → nibble_pairs (map (nibble m) xs) ≡ nibble_bytes_above m xs
nibble_pairs-nibbles m [] = refl
nibble_pairs-nibbles m (a ∷ []) = refl
nibble_pairs-nibbles m (a ∷ b ∷ xs) = ap (λ S. (nibble m a + 16 * nibble m b) ∷ S) (nibble_pairs-nibbles m xs)

pub small_nibbles : (m : ℕ) (xs : List ℕ) → Each1 (λ v. v ≤ 15) (map (nibble m) xs)
small_nibbles m [] = tt
small_nibbles m (x ∷ xs) = (omega arith, small_nibbles m xs)

pub nibbles-append : (m : ℕ) (xs ys : List ℕ) → map (nibble m) (xs ++ ys) ≡ map (nibble m) xs ++ map (nibble m) ys
nibbles-append m [] ys = refl
nibbles-append m (x ∷ xs) ys = ap (λ S. nibble m x ∷ S) (nibbles-append m xs ys)

pub nibble_bytes_above-append : (m k : ℕ) (xs ys : List ℕ) → length xs ≡ 2 * k → nibble_bytes_above m (xs ++ ys) ≡ nibble_bytes_above m xs ++ nibble_bytes_above m ys
nibble_bytes_above-append m zero [] ys e = refl
nibble_bytes_above-append m zero (a ∷ xs) ys e = absurd (omega arith)
nibble_bytes_above-append m (suc k) [] ys e = absurd (omega arith)
nibble_bytes_above-append m (suc k) (a ∷ []) ys e = absurd (omega arith)
nibble_bytes_above-append m (suc k) (a ∷ b ∷ xs) ys e = ap (λ S. (nibble m a + 16 * nibble m b) ∷ S) (nibble_bytes_above-append m k xs ys (omega arith))

pub length-nibble_bytes_above : (m k : ℕ) (xs : List ℕ) → length xs ≡ 2 * k → length (nibble_bytes_above m xs) ≡ k
length-nibble_bytes_above m zero [] e = refl
length-nibble_bytes_above m zero (a ∷ xs) e = absurd (omega arith)
length-nibble_bytes_above m (suc k) [] e = absurd (omega arith)
length-nibble_bytes_above m (suc k) (a ∷ []) e = absurd (omega arith)
length-nibble_bytes_above m (suc k) (a ∷ b ∷ xs) e = ap suc (length-nibble_bytes_above m k xs (omega arith))
