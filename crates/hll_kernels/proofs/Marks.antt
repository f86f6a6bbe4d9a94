-- SPDX-License-Identifier: Apache-2.0
-- Lemmas on nibbles of 15, and on all nibbles.
use Rattle.std.proofs.Common.{◌≡◌, ℕ, ◌+◌, ◌/◌, ◌%◌, ◌<◌, ◌==◌, Bool, true, false, cond, List, [], ◌∷◌, ◌++◌, All, count_by, refl, sym, ap, ◌∙◌, arith}
use Rattle.std.specs.Prelude.{◌&&◌, nat_lt, not}
use Rattle.std.specs.List.{list_all}
use Rattle.std.proofs.lemmas.Bool.Decides.{nat_tests}
use Rattle.std.proofs.lemmas.List.Elements.{All-tail}
use Rattle.std.proofs.lemmas.List.Sums.{sum_by-append, sum_by-cons}
use Rattle.hll_kernels.specs.Packed.{mark_nibbles}
use Rattle.hll_kernels.proofs.NibbleWeights.{low_of, high_of}

pub mark_nibbles-append : (xs ys : List ℕ) → mark_nibbles (xs ++ ys) ≡ mark_nibbles xs + mark_nibbles ys
mark_nibbles-append xs ys = omega (arith, sum_by-append (λ b. cond (b % 16 == 15) 1 0) xs ys, sum_by-append (λ b. cond (b / 16 == 15) 1 0) xs ys)

-- ---- blocks without a nibble of 15

one_more : (t : Bool) (n : ℕ) → (cond (not t) 1 0 + n == 0) ≡ (t && (n == 0))
one_more true n = grind (arith, nat_tests)
one_more false n = grind (arith, nat_tests)

sum_zero : (m n : ℕ) → (m + n == 0) ≡ ((m == 0) && (n == 0))
sum_zero m n = grind (arith, nat_tests)

low_test : (b : ℕ) → (b % 16 == 15) ≡ not (nat_lt (b % 16) 15)
low_test b = grind (arith, nat_tests)

high_test : (b : ℕ) → b < 256 → (b / 16 == 15) ≡ not (nat_lt (b / 16) 15)
high_test b h = grind (arith, nat_tests)

none_low : (B : List ℕ) → list_all (λ n. nat_lt n 15) (low_of B) ≡ (count_by (λ b. b % 16 == 15) B == 0)
none_low [] = refl
none_low (b ∷ B) =
    let n : ℕ = count_by (λ c. c % 16 == 15) B in
    ap (λ r. nat_lt (b % 16) 15 && r) (none_low B) ∙ sym (one_more (nat_lt (b % 16) 15) n) ∙ ap (λ t. cond t 1 0 + n == 0) (sym (low_test b)) ∙ ap (λ m. m == 0) (sym (sum_by-cons (λ c. cond (c % 16 == 15) 1 0) b B))

none_high : (B : List ℕ) → All (λ b. b < 256) B → list_all (λ n. nat_lt n 15) (high_of B) ≡ (count_by (λ b. b / 16 == 15) B == 0)
none_high [] all = refl
none_high (b ∷ B) all =
    let n : ℕ = count_by (λ c. c / 16 == 15) B in
    ap (λ r. nat_lt (b / 16) 15 && r) (none_high B (All-tail (λ c. c < 256) b B all)) ∙ sym (one_more (nat_lt (b / 16) 15) n) ∙ ap (λ t. cond t 1 0 + n == 0) (sym (high_test b (all 0 0 (omega arith))))
    ∙ ap (λ m. m == 0) (sym (sum_by-cons (λ c. cond (c / 16 == 15) 1 0) b B))

pub none_marked : (B : List ℕ) → All (λ b. b < 256) B → (list_all (λ n. nat_lt n 15) (low_of B) && list_all (λ n. nat_lt n 15) (high_of B)) ≡ (mark_nibbles B == 0)
none_marked B all =
    (λ i. none_low B i && none_high B all i) ∙ sym (sum_zero (count_by (λ b. b % 16 == 15) B) (count_by (λ b. b / 16 == 15) B))
