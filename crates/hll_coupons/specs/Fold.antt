-- SPDX-License-Identifier: Apache-2.0
-- Folds of sets of pairs, and registers (docs/MODEL.md, "Folds" and "Registers").
use Rattle.std.specs.Prelude.{ℕ, ◌+◌, ◌%◌, ◌^◌, ◌==◌, if◌then◌else◌, List, [], ◌∷◌, map, max}
use Rattle.std.specs.List.{range_with_len}
use Rattle.std.specs.FinSet.{items, from_list}
use Rattle.hll_coupons.specs.Pair.{Pairs, slot_of, value_of, pair}

-- the greatest of f over a list, or 0
abbrev pub greatest : (ℕ → ℕ) → List ℕ → ℕ
greatest f [] = 0
greatest f (c ∷ cs) = max (f c) (greatest f cs)

-- the value of a pair if its slot folds to s at e, else 0
abbrev pub value_at : ℕ → ℕ → ℕ → ℕ
value_at e s c = if slot_of c % 2 ^ e == s then value_of c else 0

-- the fold of a set to e: at each slot below 2^e the greatest value of the pairs that fold to it, or 0
abbrev pub fold_to : Pairs → ℕ → List ℕ
fold_to P e = map (λ s. greatest (value_at e s) (items P)) (range_with_len 0 (2 ^ e))

-- the pairs of registers, in ascending slots, the first of which is s
abbrev pub raw_coupons_from : ℕ → List ℕ → List ℕ
raw_coupons_from s [] = []
raw_coupons_from s (r ∷ R) = if r == 0 then raw_coupons_from (s + 1) R else pair s r ∷ raw_coupons_from (s + 1) R

-- all pairs of a slot and its register, if that is above 0
abbrev pub pairs : List ℕ → Pairs
pairs R = from_list (raw_coupons_from 0 R)
