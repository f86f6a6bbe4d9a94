-- SPDX-License-Identifier: Apache-2.0
-- The concatenated bytes of elements.
use Rattle.std.proofs.Common.{◌≡◌, ℕ, suc, ◌<◌, List, [], ◌∷◌, ◌++◌, length, drop, get_or, refl, ap, ◌∙◌, arith}
use Rattle.std.specs.Int.{w32, from_le_bytes}
use Rattle.std.specs.List.{flat_map}
use Rattle.hll_coupons.specs.Coupons.{raw_coupons}
use Rattle.hll_state.specs.CouponRun.{raws}

first_word : (g rest : List ℕ) → length g ≡ 4 → raw_coupons 1 (g ++ rest) ≡ from_le_bytes w32 g ∷ []
first_word [] rest e = absurd (omega arith)
first_word (a ∷ []) rest e = absurd (omega arith)
first_word (a ∷ b ∷ []) rest e = absurd (omega arith)
first_word (a ∷ b ∷ c ∷ []) rest e = absurd (omega arith)
first_word (a ∷ b ∷ c ∷ d ∷ []) rest e = refl
first_word (a ∷ b ∷ c ∷ d ∷ x ∷ g) rest e = absurd (omega arith)

after_first : (g rest : List ℕ) → length g ≡ 4 → drop 4 (g ++ rest) ≡ rest
after_first [] rest e = absurd (omega arith)
after_first (a ∷ []) rest e = absurd (omega arith)
after_first (a ∷ b ∷ []) rest e = absurd (omega arith)
after_first (a ∷ b ∷ c ∷ []) rest e = absurd (omega arith)
after_first (a ∷ b ∷ c ∷ d ∷ []) rest e = refl
after_first (a ∷ b ∷ c ∷ d ∷ x ∷ g) rest e = absurd (omega arith)

-- the raw coupons in the bytes of elements are those of the elements
pub raw_coupons-flat_map : (xs : List (List ℕ)) → ((k : ℕ) → k < length xs → length (get_or xs k []) ≡ 4) → raw_coupons (length xs) (flat_map (λ x. x) xs) ≡ raws xs
raw_coupons-flat_map [] four = refl
raw_coupons-flat_map (g ∷ xs) four =
    let rest : List ℕ = flat_map (λ x. x) xs in
    let long : length g ≡ 4 = four 0 (omega arith) in
    (λ i. get_or (first_word g rest long i) 0 0 ∷ raw_coupons (length xs) (after_first g rest long i))
    ∙ ap (λ raws. from_le_bytes w32 g ∷ raws) (raw_coupons-flat_map xs (λ k l. four (suc k) (omega (arith, l))))
