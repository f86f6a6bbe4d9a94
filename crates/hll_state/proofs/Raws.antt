-- SPDX-License-Identifier: Apache-2.0
-- The raw coupons of elements.
use Rattle.std.proofs.Common.{◌≡◌, ℕ, ◌+◌, ◌-◌, ◌<◌, ◌≤◌, List, [], ◌++◌, length, take, drop, get_or, sym, ap, ◌∙◌, arith}
use Rattle.std.specs.Int.{w32, from_le_bytes}
use Rattle.std.specs.List.Sorted.{IsNonDecreasingBy, IsNonDecreasing}
use Rattle.std.proofs.Math.Seq.{drop-append_seam, paste}
use Rattle.std.proofs.lemmas.List.{length-map, get_or-map, take_all, length-take-le, take-map, map-append, take-take, take-append-le}
use Rattle.std.proofs.lemmas.List.Edits.{take-paste}
use Rattle.hll_state.specs.CouponRun.{raws}

pub length-raws : (xs : List (List ℕ)) → length (raws xs) ≡ length xs
length-raws xs = length-map xs (from_le_bytes w32)

pub get_or-raws : (xs : List (List ℕ)) (i d : ℕ) → i < length xs → get_or (raws xs) i d ≡ from_le_bytes w32 (get_or xs i [])
get_or-raws xs i d l = get_or-map (from_le_bytes w32) xs i [] d l

-- a prefix of the raw coupons of a longer prefix of the elements
pub take-raws_take : (m n : ℕ) (xs : List (List ℕ)) → m ≤ n → take m (raws (take n xs)) ≡ take m (raws xs)
take-raws_take m n xs le = ap (take m) (sym (take-map (from_le_bytes w32) n xs)) ∙ take-take m n (raws xs) le

-- a prefix of the raw coupons if other elements are appended
pub take-raws_append : (n : ℕ) (xs ys : List (List ℕ)) → n ≤ length xs → take n (raws (xs ++ ys)) ≡ take n (raws xs)
take-raws_append n xs ys le = ap (take n) (map-append (from_le_bytes w32) xs ys) ∙ take-append-le n (raws xs) (raws ys) (omega (arith, le, length-raws xs))

-- elements after they were moved to the end
pub moved_to_end : (xs ys : List (List ℕ)) (n : ℕ) → n ≤ length xs → length ys ≡ length xs → ys ≡ paste xs (length xs - n) xs (n - 0) → drop (length xs - n) ys ≡ take n xs
moved_to_end xs ys n within same is =
    let end : ℕ = length xs - n in
    let all : n - 0 ≡ n = omega arith in
    let whole : ys ≡ take end xs ++ take n xs =
    sym (take_all (end + n) ys (omega (arith, same, within))) ∙ ap (take (end + n)) (is ∙ ap (paste xs end xs) all) ∙ take-paste xs end xs n (omega arith) within in
    let front : length (take end xs) ≡ end = length-take-le end xs (omega arith) in
    ap (drop end) whole ∙ ap (λ m. drop m (take end xs ++ take n xs)) (sym front) ∙ drop-append_seam (take end xs) (take n xs)

-- if elements don't descend by their raw coupons, the raw coupons don't descend
pub raws_rise : (xs : List (List ℕ)) → IsNonDecreasingBy (from_le_bytes w32) xs → IsNonDecreasing (raws xs)
raws_rise xs up i j d le within =
    let l : j < length xs = omega (arith, within, length-raws xs) in
    omega (arith, get_or-raws xs i d (omega (arith, l, le)), get_or-raws xs j d l, up i j [] le l)
