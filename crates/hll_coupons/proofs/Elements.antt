-- SPDX-License-Identifier: Apache-2.0
-- Raw coupons as elements of four bytes.
use Rattle.std.proofs.Common.{◌≡◌, ℕ, ◌*◌, ◌≤◌, zero, suc, List, [], ◌∷◌, length, map, take, drop, refl, arith}
use Rattle.std.specs.Int.{w32, from_le_bytes}
use Rattle.std.specs.Simd.{first_chunks}
use Rattle.std.proofs.lemmas.List.{length-drop}
use Rattle.hll_coupons.specs.Coupons.{raw_coupons}

first_number : (b : List ℕ) → 4 ≤ length b → from_le_bytes w32 (take 4 b) ≡ from_le_bytes w32 b
first_number [] there = absurd (omega arith)
first_number (w ∷ []) there = absurd (omega arith)
first_number (w ∷ x ∷ []) there = absurd (omega arith)
first_number (w ∷ x ∷ y ∷ []) there = absurd (omega arith)
first_number (w ∷ x ∷ y ∷ z ∷ b) there = refl

-- the first elements of some bytes
pub raws-chunks : (n m : ℕ) (b : List ℕ) → n ≤ m → 4 * m ≤ length b → map (from_le_bytes w32) (take n (first_chunks 4 m b)) ≡ raw_coupons n b
raws-chunks zero m b le there = refl
raws-chunks (suc n) zero b le there = absurd (omega (arith, le))
raws-chunks (suc n) (suc m) b le there =
    let more : map (from_le_bytes w32) (take n (first_chunks 4 m (drop 4 b))) ≡ raw_coupons n (drop 4 b) = raws-chunks n m (drop 4 b) (omega (arith, le)) (omega (arith, there, length-drop 4 b)) in
    λ i. first_number b (omega (arith, there)) i ∷ more i
