-- SPDX-License-Identifier: Apache-2.0
use Rattle.std.proofs.Common.{◌≡◌, ℕ, ◌+◌, ◌-◌, ◌*◌, ◌/◌, ◌^◌, ◌<◌, ◌≤◌, List, [], ◌∷◌, length, take, drop, get_or, arith}
use Rattle.std.specs.Int.{w32, w64, from_le_bytes}
use Rattle.hll_base.proofs.halves.some_bytes.Goals as goal

overlapping : (xs : List ℕ) (a b : ℕ) → 4 ≤ length xs → length xs ≤ 7 → ((k : ℕ) → k < length xs → get_or xs k 0 < 256) → a ≡ from_le_bytes w32 (take 4 xs) → b ≡ from_le_bytes w32 (drop (length xs - 4) xs)
    → a + b / 2 ^ (8 * (8 - length xs)) * 4294967296 ≡ from_le_bytes w64 xs
overlapping [] a b least most fits a_is b_is = absurd (omega (arith, least))
overlapping (c0 ∷ []) a b least most fits a_is b_is = absurd (omega (arith, least))
overlapping (c0 ∷ c1 ∷ []) a b least most fits a_is b_is = absurd (omega (arith, least))
overlapping (c0 ∷ c1 ∷ c2 ∷ []) a b least most fits a_is b_is = absurd (omega (arith, least))
overlapping (c0 ∷ c1 ∷ c2 ∷ c3 ∷ []) a b least most fits a_is b_is = omega (arith, a_is, b_is, fits 0 (omega arith), fits 1 (omega arith), fits 2 (omega arith), fits 3 (omega arith))
overlapping (c0 ∷ c1 ∷ c2 ∷ c3 ∷ c4 ∷ []) a b least most fits a_is b_is = omega (arith, a_is, b_is, fits 1 (omega arith), fits 2 (omega arith), fits 3 (omega arith), fits 4 (omega arith))
overlapping (c0 ∷ c1 ∷ c2 ∷ c3 ∷ c4 ∷ c5 ∷ []) a b least most fits a_is b_is = omega (arith, a_is, b_is, fits 2 (omega arith), fits 3 (omega arith), fits 4 (omega arith), fits 5 (omega arith))
overlapping (c0 ∷ c1 ∷ c2 ∷ c3 ∷ c4 ∷ c5 ∷ c6 ∷ []) a b least most fits a_is b_is = omega (arith, a_is, b_is, fits 3 (omega arith), fits 4 (omega arith), fits 5 (omega arith), fits 6 (omega arith))
overlapping (c0 ∷ c1 ∷ c2 ∷ c3 ∷ c4 ∷ c5 ∷ c6 ∷ c7 ∷ rest) a b least most fits a_is b_is = absurd (omega (arith, most))

pub returns : goal.returns
returns c = overlapping c.args.bytes.now c.first_four.result c.last_four.result c.if-bytes-lt4.false c.requires (λ k within. omega (arith, c.type_inv.bytes k)) c.first_four.ensures.number c.last_four.ensures.number
