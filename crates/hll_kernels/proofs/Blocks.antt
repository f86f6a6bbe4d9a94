-- SPDX-License-Identifier: Apache-2.0
-- Lemmas on the blocks of a list.
use Rattle.std.proofs.Common.{◌≡◌, ℕ, ◌+◌, ◌*◌, ◌<◌, ◌≤◌, zero, suc, List, ◌++◌, All, length, get_or, take, drop, sym, ap, subst, ◌∙◌, arith}
use Rattle.std.specs.Simd.{first_chunks}
use Rattle.std.proofs.Math.Seq.{take-add}
use Rattle.std.proofs.Math.Nat.{suc-mul}
use Rattle.std.proofs.lemmas.List.{drop-drop}
use Rattle.std.proofs.lemmas.List.Elements.{All-take, All-drop}
use Rattle.std.proofs.lemmas.Simd.{length-chunk}

pub get_or-first_chunks : {X : Type 0} (n k : ℕ) (xs : List X) (i : ℕ) (d : List X) → i < k → get_or (first_chunks n k xs) i d ≡ take n (drop (i * n) xs)
get_or-first_chunks n zero xs i d h = absurd (omega arith)
get_or-first_chunks n (suc k) xs zero d h = let none : 0 ≡ zero * n = omega arith in ap (λ (j : ℕ). take n (drop j xs)) none
get_or-first_chunks n (suc k) xs (suc i) d h =
    get_or-first_chunks n k (drop n xs) i d (omega arith) ∙ ap (take n) (drop-drop (i * n) n xs)
    ∙ (let next : n + i * n ≡ suc i * n = omega (arith, suc-mul i n) in ap (λ (j : ℕ). take n (drop j xs)) next)

-- the i-th of the first k blocks of n elements
module _ {X : Type 0} (n k : ℕ) (xs : List X) (blocks : List (List X)) (i : ℕ) (d : List X) (are : blocks ≡ first_chunks n k xs) (inside : i < k) where
  pub get_or-blocks : get_or blocks i d ≡ take n (drop (i * n) xs)
  get_or-blocks = ap (λ bs. get_or bs i d) are ∙ get_or-first_chunks n k xs i d inside

  -- one more block
  pub take_block : take ((i + 1) * n) xs ≡ take (i * n) xs ++ get_or blocks i d
  take_block =
      let more : (i + 1) * n ≡ i * n + n = omega arith in
      ap (λ (j : ℕ). take j xs) more ∙ take-add (i * n) n xs ∙ ap (λ ys. take (i * n) xs ++ ys) (sym get_or-blocks)

  pub length-block : (i + 1) * n ≤ length xs → length (get_or blocks i d) ≡ n
  length-block room = ap length get_or-blocks ∙ length-chunk (i * n) n xs (omega (arith, suc-mul i n))

  pub All-block : (P : X → Type 0) → All P xs → All P (get_or blocks i d)
  All-block P all = subst (All P) (sym get_or-blocks) (All-take P n (drop (i * n) xs) (All-drop P (i * n) xs all))
