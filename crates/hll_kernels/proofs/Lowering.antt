-- SPDX-License-Identifier: Apache-2.0
-- Lemmas on nibbles that are lowered.
use Rattle.std.proofs.Common.{◌≡◌, ℕ, ◌+◌, ◌-◌, ◌*◌, ◌/◌, ◌%◌, ◌^◌, ◌<◌, ◌≤◌, ◌==◌, zero, suc, List, [], ◌∷◌, ◌++◌, length, get_or, take, drop, replicate, cond, count_by, bit_and, Bool, true, false, not, nat_lt, refl, sym, ap, ◌∙◌, arith, w8}
use Rattle.std.specs.Prelude.{if◌then◌else◌}
use Rattle.std.specs.Simd.Lanes.{zip2, sel_l, mask_l, top, chunk, put_chunk, Each1}
use Rattle.std.specs.Int.RustNames.{count_ones}
use Rattle.std.proofs.Math.Seq.{take-add}
use Rattle.std.proofs.lemmas.Nat.{and_mask}
use Rattle.std.proofs.lemmas.Bool.{eqb-true}
use Rattle.std.proofs.lemmas.Bool.Decides.{nat_tests}
use Rattle.std.proofs.lemmas.List.{length-map, length-drop, length-take-le, take_all}
use Rattle.std.proofs.lemmas.List.Sums.{sum_by-cons, sum_by-append, sum_by-take-drop, count_by-le-length}
use Rattle.std.proofs.lemmas.Simd.{bitmask_splat, ones-mask_l}
use borrow.Rule.Slice.PartMut.{mid_of}
use Rattle.hll_kernels.specs.Packed.{lowered_nibble, lowered_byte, zero_nibbles}
use Rattle.hll_kernels.proofs.Parts.{put_step, put_left}
use Rattle.hll_kernels.proofs.ZeroTests.{zeros_by_mask}
use mathlib.Core.List.{map}

-- ---- zero nibbles

pub zero_nibbles-append : (xs ys : List ℕ) → zero_nibbles (xs ++ ys) ≡ zero_nibbles xs + zero_nibbles ys
zero_nibbles-append xs ys = omega (arith, sum_by-append (λ b. cond (b % 16 == 0) 1 0) xs ys, sum_by-append (λ b. cond (b / 16 == 0) 1 0) xs ys)

pub zero_nibbles-le : (xs : List ℕ) → zero_nibbles xs ≤ 2 * length xs
zero_nibbles-le xs = omega (arith, count_by-le-length (λ b. b % 16 == 0) xs, count_by-le-length (λ b. b / 16 == 0) xs)

pub none_in_drop : (n : ℕ) (xs : List ℕ) → zero_nibbles xs ≡ 0 → zero_nibbles (drop n xs) ≡ 0
none_in_drop n xs none = omega (arith, sum_by-take-drop (λ b. cond (b % 16 == 0) 1 0) xs n, sum_by-take-drop (λ b. cond (b / 16 == 0) 1 0) xs n)

none_in_take : (n : ℕ) (xs : List ℕ) → zero_nibbles xs ≡ 0 → zero_nibbles (take n xs) ≡ 0
none_in_take n xs none = omega (arith, sum_by-take-drop (λ b. cond (b % 16 == 0) 1 0) xs n, sum_by-take-drop (λ b. cond (b / 16 == 0) 1 0) xs n)

above_zero : (n : ℕ) → ◌≡◌ {A = ℕ} (cond (n == 0) 1 0) 0 → 0 < n
above_zero zero e = absurd (omega arith)
above_zero (suc n) e = omega arith

-- if no nibble is 0, each is above 0
pub nibbles_above_zero : (xs : List ℕ) → zero_nibbles xs ≡ 0 → Each1 (λ b. (0 < b % 16) × (0 < b / 16)) xs
nibbles_above_zero [] none = tt
nibbles_above_zero (x ∷ xs) none =
    let low = sum_by-cons (λ b. cond (b % 16 == 0) 1 0) x xs in
    let high = sum_by-cons (λ b. cond (b / 16 == 0) 1 0) x xs in
    ((above_zero (x % 16) (omega (arith, low, high)), above_zero (x / 16) (omega (arith, low, high))), nibbles_above_zero xs (omega (arith, low, high)))

-- ---- one byte

below_fifteen : (t : Bool) (n : ℕ) → (t ≡ true → n ≡ 15) → 0 < n → cond t 15 (n - 1) + cond t 0 1 ≡ n
below_fifteen true n h some = omega (arith, h refl)
below_fifteen false n h some = omega arith

at_most : (t : Bool) (n : ℕ) → cond t 0 n ≤ n
at_most true n = omega arith
at_most false n = omega arith

sixteen_times : (t : Bool) → 16 * cond t 0 1 ≡ cond t 0 16
sixteen_times true = refl
sixteen_times false = refl

one_byte : (b : ℕ) → b < 256 → 0 < b % 16 → 0 < b / 16 →
    ((b + (256 - (if b % 16 == 15 then 0 else 1))) % 256 + (256 - (if b / 16 == 15 then 0 else 16))) % 256 ≡ lowered_byte b
one_byte b h low high =
    let l : ℕ = if b % 16 == 15 then 0 else 1 in
    let u : ℕ = if b / 16 == 15 then 0 else 16 in
    let L : ℕ = lowered_nibble (b % 16) in
    let U : ℕ = lowered_nibble (b / 16) in
    let a : L + l ≡ b % 16 = below_fifteen (b % 16 == 15) (b % 16) (λ t. eqb-true _ _ t) low in
    let d : U + (if b / 16 == 15 then 0 else 1) ≡ b / 16 = below_fifteen (b / 16 == 15) (b / 16) (λ t. eqb-true _ _ t) high in
    let e : 16 * (if b / 16 == 15 then 0 else 1) ≡ u = sixteen_times (b / 16 == 15) in
    let f : l ≤ 1 = at_most (b % 16 == 15) 1 in
    let g : u ≤ 16 = at_most (b / 16 == 15) 16 in
    sums b L l U u h (omega arith) (omega arith) f g
  where
    sums : (b L l U u : ℕ) → b < 256 → L + l ≡ b % 16 → 16 * U + u ≡ 16 * (b / 16) → l ≤ 1 → u ≤ 16 → ((b + (256 - l)) % 256 + (256 - u)) % 256 ≡ L + 16 * U
    sums b L l U u h a d f g =
        let first : (b + (256 - l)) % 256 ≡ b - l = omega arith in
        ap (λ n. (n + (256 - u)) % 256) first ∙ omega arith

-- ---- lanes

-- a step is made where the mask is not set
step_not : (t : Bool) → ◌≡◌ {A = ℕ} (cond (top 7 (cond (not t) 255 0)) 1 0) (cond t 0 1)
step_not true = refl
step_not false = refl

pub low_step_lanes : (n : ℕ) (xs : List ℕ) → length xs ≡ n →
    sel_l {A = ℕ} (map (top 7) (zip2 (λ a b. cond (not (a == b)) 255 0) (zip2 bit_and xs (replicate n 15)) (replicate n 15))) (replicate n 1) (replicate n 0) ≡ map (λ b. if b % 16 == 15 then 0 else 1) xs
low_step_lanes zero [] e = refl
low_step_lanes zero (x ∷ xs) e = absurd (omega arith)
low_step_lanes (suc n) [] e = absurd (omega arith)
low_step_lanes (suc n) (x ∷ xs) e = λ i. (ap (λ m. cond (top 7 (cond (not (m == 15)) 255 0)) 1 0) (and_mask x 4) ∙ step_not (x % 16 == 15)) i ∷ low_step_lanes n xs (omega arith) i

high_step : (b : ℕ) → b < 256 → ◌≡◌ {A = ℕ} (cond (top 7 (cond (nat_lt b 240) 255 0)) 16 0) (if b / 16 == 15 then 0 else 16)
high_step b h = grind (arith, nat_tests)

pub high_step_lanes : (n : ℕ) (xs : List ℕ) → length xs ≡ n → Each1 (λ b. b < 256) xs →
    sel_l {A = ℕ} (map (top 7) (zip2 (λ a b. cond (nat_lt a b) 255 0) xs (replicate n 240))) (replicate n 16) (replicate n 0) ≡ map (λ b. if b / 16 == 15 then 0 else 16) xs
high_step_lanes zero [] e h = refl
high_step_lanes zero (x ∷ xs) e h = absurd (omega arith)
high_step_lanes (suc n) [] e h = absurd (omega arith)
high_step_lanes (suc n) (x ∷ xs) e h = λ i. high_step x h.0 i ∷ high_step_lanes n xs (omega arith) h.1 i

pub lowered_lanes : (xs : List ℕ) → Each1 (λ b. b < 256) xs → Each1 (λ b. (0 < b % 16) × (0 < b / 16)) xs →
    zip2 (λ a b. (a + (256 - b)) % 256) (zip2 (λ a b. (a + (256 - b)) % 256) xs (map (λ b. if b % 16 == 15 then 0 else 1) xs)) (map (λ b. if b / 16 == 15 then 0 else 16) xs) ≡ map lowered_byte xs
lowered_lanes [] h above = refl
lowered_lanes (x ∷ xs) h above = λ i. one_byte x h.0 above.0.0 above.0.1 i ∷ lowered_lanes xs h.1 above.1 i

low_nibbles : (n : ℕ) (xs : List ℕ) → length xs ≡ n → zip2 bit_and xs (replicate n 15) ≡ map (λ b. b % 16) xs
low_nibbles zero [] e = refl
low_nibbles zero (x ∷ xs) e = absurd (omega arith)
low_nibbles (suc n) [] e = absurd (omega arith)
low_nibbles (suc n) (x ∷ xs) e = λ i. and_mask x 4 i ∷ low_nibbles n xs (omega arith) i

count_low : (xs : List ℕ) → count_by (λ x. x == 0) (map (λ b. b % 16) xs) ≡ count_by (λ b. b % 16 == 0) xs
count_low [] = refl
count_low (x ∷ xs) =
    sum_by-cons (λ v. cond (v == 0) 1 0) (x % 16) (map (λ b. b % 16) xs) ∙ ap (λ n. cond (x % 16 == 0) 1 0 + n) (count_low xs) ∙ sym (sum_by-cons (λ b. cond (b % 16 == 0) 1 0) x xs)

pub low_zeros_by_mask : (n : ℕ) (xs : List ℕ) → length xs ≡ n → n ≤ 64 →
    count_ones (mask_l (map (top 7) (zip2 (λ a b. cond (a == b) 255 0) (zip2 bit_and xs (replicate n 15)) (replicate n 0))) % 2 ^ 64) ≡ count_by (λ b. b % 16 == 0) xs
low_zeros_by_mask n xs e few =
    ap (λ ys. count_ones (mask_l (map (top 7) (zip2 (λ a b. cond (a == b) 255 0) ys (replicate n 0))) % 2 ^ 64)) (low_nibbles n xs e)
    ∙ zeros_by_mask n (map (λ b. b % 16) xs) (length-map xs (λ b. b % 16) ∙ e) few ∙ count_low xs

high_zero : (b : ℕ) → ◌≡◌ {A = ℕ} (cond (nat_lt b 16) 1 0) (cond (b / 16 == 0) 1 0)
high_zero b = grind (arith, nat_tests)

count_high : (xs : List ℕ) → count_by (λ b. nat_lt b 16) xs ≡ count_by (λ b. b / 16 == 0) xs
count_high [] = refl
count_high (x ∷ xs) =
    sum_by-cons (λ b. cond (nat_lt b 16) 1 0) x xs ∙ (λ i. high_zero x i + count_high xs i) ∙ sym (sum_by-cons (λ b. cond (b / 16 == 0) 1 0) x xs)

pub high_zeros_by_mask : (n : ℕ) (xs : List ℕ) → length xs ≡ n → n ≤ 64 →
    count_ones (mask_l (map (top 7) (zip2 (λ a b. cond (nat_lt a b) 255 0) xs (replicate n 16))) % 2 ^ 64) ≡ count_by (λ b. b / 16 == 0) xs
high_zeros_by_mask n xs e few = ap count_ones (bitmask_splat w8 nat_lt xs n 16 e few) ∙ ones-mask_l (λ b. nat_lt b 16) xs ∙ count_high xs

-- ---- part after part

pub map_append : (f : ℕ → ℕ) (xs ys : List ℕ) → map f (xs ++ ys) ≡ map f xs ++ map f ys
map_append f [] ys = refl
map_append f (x ∷ xs) ys = ap (λ S. f x ∷ S) (map_append f xs ys)

module _ (at n : ℕ) (R V : List ℕ) (done : V ≡ put_chunk 0 R (map lowered_byte (take at R))) (room : at + n ≤ length R) where
  long : at ≡ length (map lowered_byte (take at R))
  long = omega (arith, length-map (take at R) lowered_byte, length-take-le at R (omega arith))

  -- the next part is unchanged
  pub next_part : chunk at n V ≡ chunk at n R
  next_part = ap (take n) (put_left at R V (map lowered_byte (take at R)) done long)

  pub next_above : zero_nibbles R ≡ 0 → zero_nibbles (chunk at n V) ≡ 0
  next_above none = ap zero_nibbles next_part ∙ none_in_take n (drop at R) (none_in_drop at R none)

  both : map lowered_byte (take at R) ++ map lowered_byte (chunk at n R) ≡ map lowered_byte (take (at + n) R)
  both = sym (ap (map lowered_byte) (take-add at n R) ∙ map_append lowered_byte (take at R) (chunk at n R))

  pub lower_more : put_chunk at V (map lowered_byte (chunk at n V)) ≡ put_chunk 0 R (map lowered_byte (take (at + n) R))
  lower_more =
      ap (λ P. put_chunk at V (map lowered_byte P)) next_part
      ∙ put_step at R V (map lowered_byte (take at R)) (map lowered_byte (chunk at n R)) done long (omega arith)
      ∙ ap (put_chunk 0 R) both

  pub count_more : (count more : ℕ) → count ≡ zero_nibbles (map lowered_byte (take at R)) → more ≡ zero_nibbles (map lowered_byte (chunk at n V)) → count + more ≡ zero_nibbles (map lowered_byte (take (at + n) R))
  count_more count more before here =
      (λ i. before i + (here ∙ ap (λ P. zero_nibbles (map lowered_byte P)) next_part) i)
      ∙ sym (ap zero_nibbles (sym both) ∙ zero_nibbles-append (map lowered_byte (take at R)) (map lowered_byte (chunk at n R)))

-- one byte as a part
pub one_chunk : (p : ℕ) (V : List ℕ) → p < length V → chunk p 1 V ≡ get_or V p 0 ∷ []
one_chunk zero [] h = absurd (omega arith)
one_chunk zero (v ∷ V) h = refl
one_chunk (suc p) [] h = absurd (omega arith)
one_chunk (suc p) (v ∷ V) h = one_chunk p V (omega arith)

-- the rest is unchanged
pub rest_part : (at k : ℕ) (R V : List ℕ) → V ≡ put_chunk 0 R (map lowered_byte (take at R)) → at ≤ length R → at + k ≡ length V → mid_of at k V ≡ drop at R
rest_part at k R V done room e =
    let long : at ≡ length (map lowered_byte (take at R)) = omega (arith, length-map (take at R) lowered_byte, length-take-le at R room) in
    take_all k (drop at V) (omega (arith, length-drop at V)) ∙ put_left at R V (map lowered_byte (take at R)) done long
