-- SPDX-License-Identifier: Apache-2.0
-- Lemmas on 6-bit registers in lanes.
use Rattle.std.proofs.Common.{◌≡◌, ℕ, ◌+◌, ◌*◌, ◌/◌, ◌%◌, ◌^◌, ◌<◌, ◌≤◌, zero, suc, List, [], ◌∷◌, ◌++◌, length, get_or, take, drop, replicate, max, All, bit_and, refl, sym, ap, subst, ◌∙◌, arith}
use Rattle.std.specs.List.{flat_map}
use Rattle.std.specs.Simd.Lanes.{pick_l, zip2, chunk, put_chunk, number_l, digits_l, Each1}
use Rattle.std.proofs.Math.ListN.{set}
use Rattle.std.proofs.Math.Seq.{take-add}
use Rattle.std.proofs.lemmas.List.{length-append, length-drop, length-take-le, take_all}
use Rattle.std.proofs.lemmas.List.Elements.{All-tail, All-append, All-take, All-drop}
use Rattle.std.proofs.lemmas.Nat.{and_mask}
use Rattle.std.proofs.lemmas.Simd.{Each1-chunk, Each1-zip2, Each2-all, pick_l_whole}
use Rattle.hll_base.specs.Join.{join}
use Rattle.hll_kernels.specs.Groups.{IsGroup, group_fields, registers_in}
use Rattle.hll_kernels.specs.Lanes.{max_at, words_of, pairs_of, fields_of_pairs, numbers_of, groups_of}
use Rattle.hll_kernels.specs.Packed.{group_bytes, field_bytes, fields}
use Rattle.hll_kernels.proofs.Grouping.{small-group_fields, group_fields-group_bytes, field_bytes-registers_in}
use Rattle.hll_kernels.proofs.Parts.{max_more}
use mathlib.Core.List.{map}

-- ---- 32-bit numbers and their bytes

pub digits_words : (n : ℕ) (xs : List ℕ) → length xs ≡ 4 * n → Each1 (λ x. x < 256) xs → digits_l 4294967296 n (number_l 256 xs) ≡ words_of xs
digits_words zero [] e h = refl
digits_words zero (a ∷ xs) e h = absurd (omega arith)
digits_words (suc n) [] e h = absurd (omega arith)
digits_words (suc n) (a ∷ []) e h = absurd (omega arith)
digits_words (suc n) (a ∷ b ∷ []) e h = absurd (omega arith)
digits_words (suc n) (a ∷ b ∷ c ∷ []) e h = absurd (omega arith)
digits_words (suc n) (a ∷ b ∷ c ∷ d ∷ xs) e h =
    let m : ℕ = number_l 256 xs in
    let ha : a < 256 = h.0 in
    let hb : b < 256 = h.1.0 in
    let hc : c < 256 = h.1.1.0 in
    let hd : d < 256 = h.1.1.1.0 in
    let low : (a + 256 * (b + 256 * (c + 256 * (d + 256 * m)))) % 4294967296 ≡ a + 256 * b + 65536 * c + 16777216 * d = omega arith in
    let high : (a + 256 * (b + 256 * (c + 256 * (d + 256 * m)))) / 4294967296 ≡ m = omega arith in
    (λ i. low i ∷ digits_l 4294967296 n (high i)) ∙ ap (λ S. (a + 256 * b + 65536 * c + 16777216 * d) ∷ S) (digits_words n xs (omega arith) h.1.1.1.1)

pub digits_pairs : (n : ℕ) (xs : List ℕ) → length xs ≡ 2 * n → Each1 (λ x. x < 256) xs → digits_l 65536 n (number_l 256 xs) ≡ pairs_of xs
digits_pairs zero [] e h = refl
digits_pairs zero (a ∷ xs) e h = absurd (omega arith)
digits_pairs (suc n) [] e h = absurd (omega arith)
digits_pairs (suc n) (a ∷ []) e h = absurd (omega arith)
digits_pairs (suc n) (a ∷ b ∷ xs) e h =
    let m : ℕ = number_l 256 xs in
    let ha : a < 256 = h.0 in
    let hb : b < 256 = h.1.0 in
    let low : (a + 256 * (b + 256 * m)) % 65536 ≡ a + 256 * b = omega arith in
    let high : (a + 256 * (b + 256 * m)) / 65536 ≡ m = omega arith in
    (λ i. low i ∷ digits_l 65536 n (high i)) ∙ ap (λ S. (a + 256 * b) ∷ S) (digits_pairs n xs (omega arith) h.1.1)

-- the two bytes of each 16-bit number, the lower byte first
abbrev pub bytes_of_pairs : List ℕ → List ℕ
bytes_of_pairs [] = []
bytes_of_pairs (w ∷ ws) = (w % 256) ∷ (w / 256 % 256) ∷ bytes_of_pairs ws

pub digits_bytes : (m : ℕ) (ws : List ℕ) → m ≡ 2 * length ws → Each1 (λ w. w < 65536) ws → digits_l 256 m (number_l 65536 ws) ≡ bytes_of_pairs ws
digits_bytes zero [] e h = refl
digits_bytes zero (w ∷ ws) e h = absurd (omega arith)
digits_bytes (suc m) [] e h = absurd (omega arith)
digits_bytes (suc zero) (w ∷ ws) e h = absurd (omega arith)
digits_bytes (suc (suc m)) (w ∷ ws) e h =
    let n : ℕ = number_l 65536 ws in
    let hw : w < 65536 = h.0 in
    let t : ℕ = w + 65536 * n in
    let one : t % 256 ≡ w % 256 = omega arith in
    let two : t / 256 % 256 ≡ w / 256 % 256 = omega arith in
    let high : t / 256 / 256 ≡ n = omega arith in
    (λ i. one i ∷ two i ∷ digits_l 256 m (high i)) ∙ ap (λ S. (w % 256) ∷ (w / 256 % 256) ∷ S) (digits_bytes m ws (omega arith) h.1)

-- six bits of each 32-bit number
pub field_lanes : (n from : ℕ) (ws : List ℕ) → length ws ≡ n → zip2 bit_and (zip2 (λ a b. a / 2 ^ b) ws (replicate n from)) (replicate n 63) ≡ map (λ w. w / 2 ^ from % 64) ws
field_lanes zero from [] e = refl
field_lanes zero from (w ∷ ws) e = absurd (omega arith)
field_lanes (suc n) from [] e = refl
field_lanes (suc n) from (w ∷ ws) e = λ i. and_mask (w / 2 ^ from) 6 i ∷ field_lanes n from ws (omega arith) i

-- ---- unpacking

-- the second of each three bytes twice
abbrev twice : List ℕ → List ℕ
twice (a ∷ b ∷ c ∷ rest) = a ∷ b ∷ b ∷ c ∷ twice rest
twice _ = []

fields_of-twice : (k : ℕ) (xs : List ℕ) → length xs ≡ 3 * k → Each1 (λ x. x < 256) xs → fields_of_pairs (twice xs) ≡ fields xs
fields_of-twice zero [] e h = refl
fields_of-twice zero (a ∷ xs) e h = absurd (omega arith)
fields_of-twice (suc k) [] e h = absurd (omega arith)
fields_of-twice (suc k) (a ∷ []) e h = absurd (omega arith)
fields_of-twice (suc k) (a ∷ b ∷ []) e h = absurd (omega arith)
fields_of-twice (suc k) (a ∷ b ∷ c ∷ xs) e h =
    let ha : a < 256 = h.0 in
    let hb : b < 256 = h.1.0 in
    let g : ℕ = a + 256 * b + 65536 * c in
    let first : a % 64 ≡ g % 64 = omega arith in
    let second : (a + 256 * b) / 64 % 64 ≡ g / 64 % 64 = omega arith in
    let third : (b + 256 * c) / 16 % 64 ≡ g / 4096 % 64 = omega arith in
    let fourth : c / 4 ≡ g / 262144 = omega arith in
    λ i. first i ∷ second i ∷ third i ∷ fourth i ∷ fields_of-twice k xs (omega arith) h.1.1.1 i

-- sixteen lanes with the second byte of each of four groups twice
pub pairs-swizzle : (xs : List ℕ) → length xs ≡ 16 → Each1 (λ x. x < 256) xs →
    fields_of_pairs (pick_l 0 (xs ++ xs) (0 ∷ 1 ∷ 1 ∷ 2 ∷ 3 ∷ 4 ∷ 4 ∷ 5 ∷ 6 ∷ 7 ∷ 7 ∷ 8 ∷ 9 ∷ 10 ∷ 10 ∷ 11 ∷ [])) ≡ fields (take 12 xs)
pairs-swizzle xs e h =
    subst (λ ys. fields_of_pairs (pick_l 0 (ys ++ ys) (0 ∷ 1 ∷ 1 ∷ 2 ∷ 3 ∷ 4 ∷ 4 ∷ 5 ∷ 6 ∷ 7 ∷ 7 ∷ 8 ∷ 9 ∷ 10 ∷ 10 ∷ 11 ∷ [])) ≡ fields_of_pairs (twice (take 12 ys))) (pick_l_whole 0 xs 16 e) refl
    ∙ fields_of-twice 4 (take 12 xs) (length-take-le 12 xs (omega (arith, e))) (Each1-chunk (λ x. x < 256) 0 12 xs h)

pub pairs-swizzle_last : (xs : List ℕ) → length xs ≡ 16 → Each1 (λ x. x < 256) xs →
    fields_of_pairs (pick_l 0 (xs ++ xs) (4 ∷ 5 ∷ 5 ∷ 6 ∷ 7 ∷ 8 ∷ 8 ∷ 9 ∷ 10 ∷ 11 ∷ 11 ∷ 12 ∷ 13 ∷ 14 ∷ 14 ∷ 15 ∷ [])) ≡ fields (take 12 (drop 4 xs))
pairs-swizzle_last xs e h =
    subst (λ ys. fields_of_pairs (pick_l 0 (ys ++ ys) (4 ∷ 5 ∷ 5 ∷ 6 ∷ 7 ∷ 8 ∷ 8 ∷ 9 ∷ 10 ∷ 11 ∷ 11 ∷ 12 ∷ 13 ∷ 14 ∷ 14 ∷ 15 ∷ [])) ≡ fields_of_pairs (twice (take 12 (drop 4 ys)))) (pick_l_whole 0 xs 16 e) refl
    ∙ fields_of-twice 4 (take 12 (drop 4 xs)) (length-take-le 12 (drop 4 xs) (omega (arith, e, length-drop 4 xs))) (Each1-chunk (λ x. x < 256) 4 12 xs h)

pub fields_of_pairs-append : (k : ℕ) (xs ys : List ℕ) → length xs ≡ 4 * k → fields_of_pairs (xs ++ ys) ≡ fields_of_pairs xs ++ fields_of_pairs ys
fields_of_pairs-append zero [] ys e = refl
fields_of_pairs-append zero (a ∷ xs) ys e = absurd (omega arith)
fields_of_pairs-append (suc k) [] ys e = absurd (omega arith)
fields_of_pairs-append (suc k) (a ∷ []) ys e = absurd (omega arith)
fields_of_pairs-append (suc k) (a ∷ b ∷ []) ys e = absurd (omega arith)
fields_of_pairs-append (suc k) (a ∷ b ∷ c ∷ []) ys e = absurd (omega arith)
fields_of_pairs-append (suc k) (a ∷ b ∷ c ∷ d ∷ xs) ys e =
    ap (λ S. (a % 64) ∷ ((a + 256 * b) / 64 % 64) ∷ ((c + 256 * d) / 16 % 64) ∷ (d / 4) ∷ S) (fields_of_pairs-append k xs ys (omega arith))

-- ---- the registers of pairs

-- a value for each of two pairs, n times
abbrev splats : ℕ → ℕ → List ℕ
splats zero v = []
splats (suc n) v = v ∷ v ∷ splats n v

abbrev factors : ℕ → List ℕ
factors zero = []
factors (suc n) = 16 ∷ 1 ∷ factors n

-- the pairs of n groups, with their registers in the high twelve bits
abbrev aligned : ℕ → List ℕ → List ℕ
aligned n ws = zip2 (λ a b. a * b % 65536) ws (factors n)

-- the lower and the upper register of each pair, a byte each
abbrev pub spread_pairs : ℕ → List ℕ → List ℕ
spread_pairs n ws = zip2 (λ a b. (a + b) % 65536) (zip2 bit_and (zip2 (λ a b. a / 2 ^ b) (aligned n ws) (splats n 4)) (splats n 63))
    (zip2 (λ a b. a * 2 ^ b % 65536) (zip2 (λ a b. a / 2 ^ b) (aligned n ws) (splats n 10)) (splats n 8))

-- the two registers of a pair whose registers are its high twelve bits
one_pair : (p : ℕ) → p < 65536 → let s = (bit_and (p / 16) 63 + p / 1024 * 256 % 65536) % 65536 in (s % 256 ≡ p / 16 % 64) × (s / 256 % 256 ≡ p / 1024)
one_pair p h =
    let low : ℕ = p / 16 % 64 in
    let high : ℕ = p / 1024 in
    let is : (bit_and (p / 16) 63 + p / 1024 * 256 % 65536) % 65536 ≡ low + 256 * high = ap (λ m. (m + p / 1024 * 256 % 65536) % 65536) (and_mask (p / 16) 6) ∙ omega arith in
    let parts : (l u : ℕ) → l < 64 → u < 64 → ((l + 256 * u) % 256 ≡ l) × ((l + 256 * u) / 256 % 256 ≡ u) = λ l u hl hu. (omega arith, omega arith) in
    let two = parts low high (omega arith) (omega arith) in
    (ap (λ s. s % 256) is ∙ two.0, ap (λ s. s / 256 % 256) is ∙ two.1)

-- the registers of the first pair of a group, and of the second
first_pair : (a b : ℕ) → a < 256 → b < 256 → let p = (a + 256 * b) * 16 % 65536 in (p / 16 % 64 ≡ a % 64) × (p / 1024 ≡ (a + 256 * b) / 64 % 64)
first_pair a b ha hb = (omega arith, omega arith)

second_pair : (c d : ℕ) → c < 256 → d < 256 → let p = (c + 256 * d) * 1 % 65536 in (p / 16 % 64 ≡ (c + 256 * d) / 16 % 64) × (p / 1024 ≡ d / 4)
second_pair c d hc hd = (omega arith, omega arith)

bytes_of-spread : (n : ℕ) (xs : List ℕ) → length xs ≡ 4 * n → Each1 (λ x. x < 256) xs → bytes_of_pairs (spread_pairs n (pairs_of xs)) ≡ fields_of_pairs xs
bytes_of-spread zero [] e h = refl
bytes_of-spread zero (a ∷ xs) e h = absurd (omega arith)
bytes_of-spread (suc n) [] e h = absurd (omega arith)
bytes_of-spread (suc n) (a ∷ []) e h = absurd (omega arith)
bytes_of-spread (suc n) (a ∷ b ∷ []) e h = absurd (omega arith)
bytes_of-spread (suc n) (a ∷ b ∷ c ∷ []) e h = absurd (omega arith)
bytes_of-spread (suc n) (a ∷ b ∷ c ∷ d ∷ xs) e h =
    let p : ℕ = (a + 256 * b) * 16 % 65536 in
    let q : ℕ = (c + 256 * d) * 1 % 65536 in
    let ps = one_pair p (omega arith) in
    let qs = one_pair q (omega arith) in
    let first = first_pair a b h.0 h.1.0 in
    let second = second_pair c d h.1.1.0 h.1.1.1.0 in
    λ i. (ps.0 ∙ first.0) i ∷ (ps.1 ∙ first.1) i ∷ (qs.0 ∙ second.0) i ∷ (qs.1 ∙ second.1) i ∷ bytes_of-spread n xs (omega arith) h.1.1.1.1 i

length-spread : (n : ℕ) (xs : List ℕ) → length xs ≡ 4 * n → length (spread_pairs n (pairs_of xs)) ≡ 2 * n
length-spread zero [] e = refl
length-spread zero (a ∷ xs) e = absurd (omega arith)
length-spread (suc n) [] e = absurd (omega arith)
length-spread (suc n) (a ∷ []) e = absurd (omega arith)
length-spread (suc n) (a ∷ b ∷ []) e = absurd (omega arith)
length-spread (suc n) (a ∷ b ∷ c ∷ []) e = absurd (omega arith)
length-spread (suc n) (a ∷ b ∷ c ∷ d ∷ xs) e = omega (arith, length-spread n xs (omega arith))

-- four registers of each group, a byte each
pub fields_of-spread : (xs : List ℕ) → length xs ≡ 64 → Each1 (λ x. x < 256) xs → digits_l 256 64 (number_l 65536 (spread_pairs 16 (pairs_of xs))) ≡ fields_of_pairs xs
fields_of-spread xs e h =
    let small : (n : ℕ) → n % 65536 < 65536 = λ n. omega arith in
    digits_bytes 64 (spread_pairs 16 (pairs_of xs)) (omega (arith, length-spread 16 xs e))
    (Each1-zip2 (λ a b. (a + b) % 65536) (λ w. w < 65536) _ _ (Each2-all (λ a b. (a + b) % 65536 < 65536) (λ a b. small (a + b)) _ _))
    ∙ bytes_of-spread 16 xs e h

-- ---- fields of bytes

pub length-fields : (k : ℕ) (xs : List ℕ) → length xs ≡ 3 * k → length (fields xs) ≡ 4 * k
length-fields zero [] e = refl
length-fields zero (a ∷ xs) e = absurd (omega arith)
length-fields (suc k) [] e = absurd (omega arith)
length-fields (suc k) (a ∷ []) e = absurd (omega arith)
length-fields (suc k) (a ∷ b ∷ []) e = absurd (omega arith)
length-fields (suc k) (a ∷ b ∷ c ∷ xs) e = omega (arith, length-fields k xs (omega arith))

pub length-fields-le : (xs : List ℕ) → length (fields xs) ≤ 2 * length xs
length-fields-le [] = omega arith
length-fields-le (a ∷ []) = omega arith
length-fields-le (a ∷ b ∷ []) = omega arith
length-fields-le (a ∷ b ∷ c ∷ xs) = omega (arith, length-fields-le xs)

pub fields-append : (k : ℕ) (xs ys : List ℕ) → length xs ≡ 3 * k → fields (xs ++ ys) ≡ fields xs ++ fields ys
fields-append zero [] ys e = refl
fields-append zero (a ∷ xs) ys e = absurd (omega arith)
fields-append (suc k) [] ys e = absurd (omega arith)
fields-append (suc k) (a ∷ []) ys e = absurd (omega arith)
fields-append (suc k) (a ∷ b ∷ []) ys e = absurd (omega arith)
fields-append (suc k) (a ∷ b ∷ c ∷ xs) ys e =
    let g : ℕ = a + 256 * b + 65536 * c in
    ap (λ S. (g % 64) ∷ (g / 64 % 64) ∷ (g / 4096 % 64) ∷ (g / 262144) ∷ S) (fields-append k xs ys (omega arith))

-- one group
pub fields-group : (g : List ℕ) → length g ≡ 3 → fields g ≡ group_fields g
fields-group [] e = absurd (omega arith)
fields-group (a ∷ []) e = absurd (omega arith)
fields-group (a ∷ b ∷ []) e = absurd (omega arith)
fields-group (a ∷ b ∷ c ∷ []) e = refl
fields-group (a ∷ b ∷ c ∷ d ∷ g) e = absurd (omega arith)

-- the bytes of consecutive groups
pub fields-flat_map : (G : List (List ℕ)) → ((k : ℕ) → k < length G → length (get_or G k []) ≡ 3) → fields (flat_map (λ g. g) G) ≡ registers_in G
fields-flat_map [] h = refl
fields-flat_map (g ∷ G) h =
    let long : length g ≡ 3 = h 0 (omega arith) in
    fields-append 1 g (flat_map (λ x. x) G) long
    ∙ (λ i. fields-group g long i ++ fields-flat_map G (λ k l. h (suc k) (omega arith)) i)

-- the four parts of a block
pub fields-parts : (xs : List ℕ) → length xs ≡ 48 → ((fields (chunk 0 12 xs) ++ fields (chunk 12 12 xs)) ++ fields (chunk 24 12 xs)) ++ fields (chunk 36 12 xs) ≡ fields xs
fields-parts xs e =
    let a : fields (take 24 xs) ≡ fields (take 12 xs) ++ fields (chunk 12 12 xs) = ap fields (take-add 12 12 xs) ∙ fields-append 4 (take 12 xs) (chunk 12 12 xs) (length-take-le 12 xs (omega arith)) in
    let b : fields (take 36 xs) ≡ fields (take 24 xs) ++ fields (chunk 24 12 xs) = ap fields (take-add 24 12 xs) ∙ fields-append 8 (take 24 xs) (chunk 24 12 xs) (length-take-le 24 xs (omega arith)) in
    let c : fields (take 48 xs) ≡ fields (take 36 xs) ++ fields (chunk 36 12 xs) = ap fields (take-add 36 12 xs) ∙ fields-append 12 (take 36 xs) (chunk 36 12 xs) (length-take-le 36 xs (omega arith)) in
    let whole : take 48 xs ≡ xs = take_all 48 xs (omega arith) in
    sym (sym (ap fields whole) ∙ c ∙ ap (λ S. S ++ fields (chunk 36 12 xs)) (b ∙ ap (λ S. S ++ fields (chunk 24 12 xs)) a))

-- the registers in bytes are at most 63
pub small-fields : (k : ℕ) (xs : List ℕ) → length xs ≡ 3 * k → All (λ b. b < 256) xs → All (λ v. v ≤ 63) (fields xs)
small-fields zero [] e h = λ j d l. absurd (omega arith)
small-fields zero (a ∷ xs) e h = absurd (omega arith)
small-fields (suc k) [] e h = absurd (omega arith)
small-fields (suc k) (a ∷ []) e h = absurd (omega arith)
small-fields (suc k) (a ∷ b ∷ []) e h = absurd (omega arith)
small-fields (suc k) (a ∷ b ∷ c ∷ xs) e h =
    let group : IsGroup (a ∷ b ∷ c ∷ []) = record { three = refl; bytes = All-take (λ x. x < 256) 3 (a ∷ b ∷ c ∷ xs) h } in
    All-append (λ v. v ≤ 63) (group_fields (a ∷ b ∷ c ∷ [])) (fields xs) (small-group_fields (a ∷ b ∷ c ∷ []) group)
    (small-fields k xs (omega arith) (All-drop (λ x. x < 256) 3 (a ∷ b ∷ c ∷ xs) h))

-- the maximum of zeros and some values is these values
pub join_zeros : (n k : ℕ) (Q : List ℕ) → k ≤ n → length Q ≡ k → join (take k (replicate n 0)) Q ≡ Q
join_zeros n zero [] h e = refl
join_zeros n zero (q ∷ Q) h e = absurd (omega arith)
join_zeros zero (suc k) Q h e = absurd (omega arith)
join_zeros (suc n) (suc k) [] h e = absurd (omega arith)
join_zeros (suc n) (suc k) (q ∷ Q) h e = λ i. (let top : max 0 q ≡ q = omega arith in top) i ∷ join_zeros n k Q (omega arith) (omega arith) i

-- four parts, one after the other
pub max_four : (at n1 n2 n3 m : ℕ) (R P0 P1 P2 P3 : List ℕ) → length P0 ≡ m → length P1 ≡ m → length P2 ≡ m → n1 ≡ at + m → n2 ≡ at + 2 * m → n3 ≡ at + 3 * m → n3 ≤ length R →
    max_at n3 (max_at n2 (max_at n1 (max_at at R P0) P1) P2) P3 ≡ max_at at R (((P0 ++ P1) ++ P2) ++ P3)
max_four at n1 n2 n3 m R P0 P1 P2 P3 l0 l1 l2 e1 e2 e3 h =
    let l01 : length (P0 ++ P1) ≡ 2 * m = omega (arith, length-append P0 P1, l0, l1) in
    let l02 : length ((P0 ++ P1) ++ P2) ≡ 3 * m = omega (arith, length-append (P0 ++ P1) P2, l01, l2) in
    ap (λ S. max_at n3 (max_at n2 S P2) P3) (max_more at n1 R P0 P1 (omega (arith, l0)) (omega arith))
    ∙ ap (λ S. max_at n3 S P3) (max_more at n2 R (P0 ++ P1) P2 (omega (arith, l01)) (omega arith))
    ∙ max_more at n3 R ((P0 ++ P1) ++ P2) P3 (omega (arith, l02)) h

-- ---- packing

-- four registers as one 32-bit number
one_number : (a b c d : ℕ) → a ≤ 63 → b ≤ 63 → c ≤ 63 → d ≤ 63 →
    let w = a + 256 * b + 65536 * c + 16777216 * d in
    ((w / 1 % 64 + w / 256 % 64 * 64 % 4294967296) % 4294967296 + (w / 65536 % 64 * 4096 % 4294967296 + w / 16777216 % 64 * 262144 % 4294967296) % 4294967296) % 4294967296 ≡ a + 64 * b + 4096 * c + 262144 * d
one_number a b c d ha hb hc hd =
    let w : ℕ = a + 256 * b + 65536 * c + 16777216 * d in
    let e0 : w / 1 % 64 ≡ a = omega arith in
    let e1 : w / 256 % 64 ≡ b = omega arith in
    let e2 : w / 65536 % 64 ≡ c = omega arith in
    let e3 : w / 16777216 % 64 ≡ d = omega arith in
    (λ i. ((e0 i + e1 i * 64 % 4294967296) % 4294967296 + (e2 i * 4096 % 4294967296 + e3 i * 262144 % 4294967296) % 4294967296) % 4294967296) ∙ omega arith

-- the tail after four registers
All-four : (a b c d : ℕ) (R : List ℕ) → All (λ v. v ≤ 63) (a ∷ b ∷ c ∷ d ∷ R) → All (λ v. v ≤ 63) R
All-four a b c d R h = All-tail (λ v. v ≤ 63) d R (All-tail (λ v. v ≤ 63) c (d ∷ R) (All-tail (λ v. v ≤ 63) b (c ∷ d ∷ R) (All-tail (λ v. v ≤ 63) a (b ∷ c ∷ d ∷ R) h)))

pub number_lanes : (n : ℕ) (xs : List ℕ) → length xs ≡ 4 * n → All (λ v. v ≤ 63) xs →
    zip2 (λ a b. (a + b) % 4294967296)
    (zip2 (λ a b. (a + b) % 4294967296) (map (λ w. w / 2 ^ 0 % 64) (words_of xs)) (zip2 (λ a b. a * 2 ^ b % 4294967296) (map (λ w. w / 2 ^ 8 % 64) (words_of xs)) (replicate n 6)))
    (zip2 (λ a b. (a + b) % 4294967296) (zip2 (λ a b. a * 2 ^ b % 4294967296) (map (λ w. w / 2 ^ 16 % 64) (words_of xs)) (replicate n 12)) (zip2 (λ a b. a * 2 ^ b % 4294967296) (map (λ w. w / 2 ^ 24 % 64) (words_of xs)) (replicate n 18)))
    ≡ numbers_of xs
number_lanes zero [] e h = refl
number_lanes zero (a ∷ xs) e h = absurd (omega arith)
number_lanes (suc n) [] e h = absurd (omega arith)
number_lanes (suc n) (a ∷ []) e h = absurd (omega arith)
number_lanes (suc n) (a ∷ b ∷ []) e h = absurd (omega arith)
number_lanes (suc n) (a ∷ b ∷ c ∷ []) e h = absurd (omega arith)
number_lanes (suc n) (a ∷ b ∷ c ∷ d ∷ xs) e h =
    λ i. one_number a b c d (h 0 0 (omega arith)) (h 1 0 (omega arith)) (h 2 0 (omega arith)) (h 3 0 (omega arith)) i ∷ number_lanes n xs (omega arith) (All-four a b c d xs h) i

-- the groups of four numbers
pub groups_of-numbers : (xs : List ℕ) → length xs ≡ 16 → All (λ v. v ≤ 63) xs →
    map (λ n. (n % 256) ∷ (n / 256 % 256) ∷ (n / 65536 % 256) ∷ []) (numbers_of xs) ≡ groups_of xs
groups_of-numbers xs e h = by_fours 4 xs e h
  where
    by_fours : (n : ℕ) (ys : List ℕ) → length ys ≡ 4 * n → All (λ v. v ≤ 63) ys → map (λ n. (n % 256) ∷ (n / 256 % 256) ∷ (n / 65536 % 256) ∷ []) (numbers_of ys) ≡ groups_of ys
    by_fours zero [] e h = refl
    by_fours zero (a ∷ ys) e h = absurd (omega arith)
    by_fours (suc n) [] e h = absurd (omega arith)
    by_fours (suc n) (a ∷ []) e h = absurd (omega arith)
    by_fours (suc n) (a ∷ b ∷ []) e h = absurd (omega arith)
    by_fours (suc n) (a ∷ b ∷ c ∷ []) e h = absurd (omega arith)
    by_fours (suc n) (a ∷ b ∷ c ∷ d ∷ ys) e h =
        let g : ℕ = a + 64 * b + 4096 * c + 262144 * d in
        let ha : a ≤ 63 = h 0 0 (omega arith) in
        let hb : b ≤ 63 = h 1 0 (omega arith) in
        let hc : c ≤ 63 = h 2 0 (omega arith) in
        let hd : d ≤ 63 = h 3 0 (omega arith) in
        let last : g / 65536 % 256 ≡ g / 65536 = omega arith in
        λ i. ((g % 256) ∷ (g / 256 % 256) ∷ last i ∷ []) ∷ by_fours n ys (omega arith) (All-four a b c d ys h) i

pub length-numbers_of : (k : ℕ) (xs : List ℕ) → length xs ≡ 4 * k → length (numbers_of xs) ≡ k
length-numbers_of zero [] e = refl
length-numbers_of zero (a ∷ xs) e = absurd (omega arith)
length-numbers_of (suc k) [] e = absurd (omega arith)
length-numbers_of (suc k) (a ∷ []) e = absurd (omega arith)
length-numbers_of (suc k) (a ∷ b ∷ []) e = absurd (omega arith)
length-numbers_of (suc k) (a ∷ b ∷ c ∷ []) e = absurd (omega arith)
length-numbers_of (suc k) (a ∷ b ∷ c ∷ d ∷ xs) e = ap suc (length-numbers_of k xs (omega arith))

pub length-groups_of : (k : ℕ) (xs : List ℕ) → length xs ≡ 4 * k → length (groups_of xs) ≡ k
length-groups_of zero [] e = refl
length-groups_of zero (a ∷ xs) e = absurd (omega arith)
length-groups_of (suc k) [] e = absurd (omega arith)
length-groups_of (suc k) (a ∷ []) e = absurd (omega arith)
length-groups_of (suc k) (a ∷ b ∷ []) e = absurd (omega arith)
length-groups_of (suc k) (a ∷ b ∷ c ∷ []) e = absurd (omega arith)
length-groups_of (suc k) (a ∷ b ∷ c ∷ d ∷ xs) e = ap suc (length-groups_of k xs (omega arith))

pub groups_of-append : (k : ℕ) (xs ys : List ℕ) → length xs ≡ 4 * k → groups_of (xs ++ ys) ≡ groups_of xs ++ groups_of ys
groups_of-append zero [] ys e = refl
groups_of-append zero (a ∷ xs) ys e = absurd (omega arith)
groups_of-append (suc k) [] ys e = absurd (omega arith)
groups_of-append (suc k) (a ∷ []) ys e = absurd (omega arith)
groups_of-append (suc k) (a ∷ b ∷ []) ys e = absurd (omega arith)
groups_of-append (suc k) (a ∷ b ∷ c ∷ []) ys e = absurd (omega arith)
groups_of-append (suc k) (a ∷ b ∷ c ∷ d ∷ xs) ys e = ap (λ S. group_bytes a b c d ∷ S) (groups_of-append k xs ys (omega arith))

-- the registers of the groups of registers
pub registers_in-groups_of : (k : ℕ) (xs : List ℕ) → length xs ≡ 4 * k → All (λ v. v ≤ 63) xs → registers_in (groups_of xs) ≡ xs
registers_in-groups_of zero [] e h = refl
registers_in-groups_of zero (a ∷ xs) e h = absurd (omega arith)
registers_in-groups_of (suc k) [] e h = absurd (omega arith)
registers_in-groups_of (suc k) (a ∷ []) e h = absurd (omega arith)
registers_in-groups_of (suc k) (a ∷ b ∷ []) e h = absurd (omega arith)
registers_in-groups_of (suc k) (a ∷ b ∷ c ∷ []) e h = absurd (omega arith)
registers_in-groups_of (suc k) (a ∷ b ∷ c ∷ d ∷ xs) e h =
    λ i. group_fields-group_bytes a b c d (h 0 0 (omega arith)) (h 1 0 (omega arith)) (h 2 0 (omega arith)) (h 3 0 (omega arith)) i ++ registers_in-groups_of k xs (omega arith) (All-four a b c d xs h) i

one_group_bytes : (a b c d : ℕ) → a ≤ 63 → b ≤ 63 → c ≤ 63 → d ≤ 63 → IsGroup (group_bytes a b c d)
one_group_bytes a b c d ha hb hc hd = record { three = refl; bytes = at }
  where
    at : All (λ x. x < 256) (group_bytes a b c d)
    at zero e l = omega arith
    at (suc zero) e l = omega arith
    at (suc (suc zero)) e l = omega arith
    at (suc (suc (suc k))) e l = absurd (omega arith)

All-cons : (g : List ℕ) (G : List (List ℕ)) → IsGroup g → All IsGroup G → All IsGroup (g ∷ G)
All-cons g G is all zero d l = is
All-cons g G is all (suc j) d l = all j d (omega arith)

pub IsGroup-groups_of : (k : ℕ) (xs : List ℕ) → length xs ≡ 4 * k → All (λ v. v ≤ 63) xs → All IsGroup (groups_of xs)
IsGroup-groups_of zero [] e h = λ j d l. absurd (omega arith)
IsGroup-groups_of zero (a ∷ xs) e h = absurd (omega arith)
IsGroup-groups_of (suc k) [] e h = absurd (omega arith)
IsGroup-groups_of (suc k) (a ∷ []) e h = absurd (omega arith)
IsGroup-groups_of (suc k) (a ∷ b ∷ []) e h = absurd (omega arith)
IsGroup-groups_of (suc k) (a ∷ b ∷ c ∷ []) e h = absurd (omega arith)
IsGroup-groups_of (suc k) (a ∷ b ∷ c ∷ d ∷ xs) e h =
    All-cons (group_bytes a b c d) (groups_of xs) (one_group_bytes a b c d (h 0 0 (omega arith)) (h 1 0 (omega arith)) (h 2 0 (omega arith)) (h 3 0 (omega arith)))
    (IsGroup-groups_of k xs (omega arith) (All-four a b c d xs h))

-- four groups, one after the other
pub put_four : {X : Type 0} (at : ℕ) (G : List X) (a b c d : X) → at + 4 ≤ length G → set (set (set (set G at a) (at + 1) b) (at + 2) c) (at + 3) d ≡ put_chunk at G (a ∷ b ∷ c ∷ d ∷ [])
put_four zero [] a b c d h = absurd (omega arith)
put_four zero (w ∷ []) a b c d h = absurd (omega arith)
put_four zero (w ∷ x ∷ []) a b c d h = absurd (omega arith)
put_four zero (w ∷ x ∷ y ∷ []) a b c d h = absurd (omega arith)
put_four zero (w ∷ x ∷ y ∷ z ∷ []) a b c d h = refl
put_four zero (w ∷ x ∷ y ∷ z ∷ g ∷ G) a b c d h = refl
put_four (suc at) [] a b c d h = absurd (omega arith)
put_four (suc at) (g ∷ G) a b c d h =
    let one : suc at + 1 ≡ suc (at + 1) = omega arith in
    let two : suc at + 2 ≡ suc (at + 2) = omega arith in
    let three : suc at + 3 ≡ suc (at + 3) = omega arith in
    (λ i. set (set (set (g ∷ set G at a) (one i) b) (two i) c) (three i) d) ∙ ap (λ S. g ∷ S) (put_four at G a b c d (omega arith))

-- ---- the bytes of groups

pub length-bytes_of_groups : (G : List (List ℕ)) → All IsGroup G → length (flat_map (λ g. g) G) ≡ 3 * length G
length-bytes_of_groups [] h = refl
length-bytes_of_groups (g ∷ G) h =
    omega (arith, length-append g (flat_map (λ x. x) G), (h 0 [] (omega arith)).three, length-bytes_of_groups G (λ k d l. h (suc k) d (omega arith)))

-- three bytes for each four registers
pub length-packed : (k : ℕ) (xs : List ℕ) → length xs ≡ 4 * k → All (λ v. v ≤ 63) xs → length (flat_map (λ g. g) (groups_of xs)) ≡ 3 * k
length-packed k xs e h = length-bytes_of_groups (groups_of xs) (IsGroup-groups_of k xs e h) ∙ ap (λ n. 3 * n) (length-groups_of k xs e)

-- with a zero byte after them, they are the fields of the registers
pub field_bytes-groups_of : (k : ℕ) (xs : List ℕ) → length xs ≡ 4 * k → All (λ v. v ≤ 63) xs → flat_map (λ g. g) (groups_of xs) ++ 0 ∷ [] ≡ field_bytes xs
field_bytes-groups_of k xs e h = field_bytes-registers_in (groups_of xs) (IsGroup-groups_of k xs e h) ∙ ap field_bytes (registers_in-groups_of k xs e h)
