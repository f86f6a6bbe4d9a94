-- SPDX-License-Identifier: Apache-2.0
use Rattle.std.proofs.Common.{◌≡◌, ℕ, ◌+◌, ◌-◌, ◌*◌, ◌/◌, ◌^◌, ◌<◌, ◌≤◌, List, [], ◌∷◌, length, take, drop, get_or, arith}
use Rattle.std.specs.Int.{w64, from_le_bytes}
use Rattle.hll_base.specs.Hash.{second_word}
use Rattle.hll_base.proofs.halves.end_of_tail.Goals as goal

-- the low bytes of a number are shifted out
overlapping : (xs : List ℕ) (b : ℕ) → 8 < length xs → length xs < 16 → ((k : ℕ) → k < length xs → get_or xs k 0 < 256) → b ≡ from_le_bytes w64 (drop (length xs - 8) xs)
    → b / 2 ^ (8 * (16 - length xs)) ≡ second_word xs
overlapping [] b more few fits is = absurd (omega (arith, more))
overlapping (c0 ∷ []) b more few fits is = absurd (omega (arith, more))
overlapping (c0 ∷ c1 ∷ []) b more few fits is = absurd (omega (arith, more))
overlapping (c0 ∷ c1 ∷ c2 ∷ []) b more few fits is = absurd (omega (arith, more))
overlapping (c0 ∷ c1 ∷ c2 ∷ c3 ∷ []) b more few fits is = absurd (omega (arith, more))
overlapping (c0 ∷ c1 ∷ c2 ∷ c3 ∷ c4 ∷ []) b more few fits is = absurd (omega (arith, more))
overlapping (c0 ∷ c1 ∷ c2 ∷ c3 ∷ c4 ∷ c5 ∷ []) b more few fits is = absurd (omega (arith, more))
overlapping (c0 ∷ c1 ∷ c2 ∷ c3 ∷ c4 ∷ c5 ∷ c6 ∷ []) b more few fits is = absurd (omega (arith, more))
overlapping (c0 ∷ c1 ∷ c2 ∷ c3 ∷ c4 ∷ c5 ∷ c6 ∷ c7 ∷ []) b more few fits is = absurd (omega (arith, more))
overlapping (c0 ∷ c1 ∷ c2 ∷ c3 ∷ c4 ∷ c5 ∷ c6 ∷ c7 ∷ c8 ∷ []) b more few fits is = omega (arith, is, fits 1 (omega arith), fits 2 (omega arith), fits 3 (omega arith), fits 4 (omega arith), fits 5 (omega arith), fits 6 (omega arith), fits 7 (omega arith), fits 8 (omega arith))
overlapping (c0 ∷ c1 ∷ c2 ∷ c3 ∷ c4 ∷ c5 ∷ c6 ∷ c7 ∷ c8 ∷ c9 ∷ []) b more few fits is = omega (arith, is, fits 2 (omega arith), fits 3 (omega arith), fits 4 (omega arith), fits 5 (omega arith), fits 6 (omega arith), fits 7 (omega arith), fits 8 (omega arith), fits 9 (omega arith))
overlapping (c0 ∷ c1 ∷ c2 ∷ c3 ∷ c4 ∷ c5 ∷ c6 ∷ c7 ∷ c8 ∷ c9 ∷ c10 ∷ []) b more few fits is = omega (arith, is, fits 3 (omega arith), fits 4 (omega arith), fits 5 (omega arith), fits 6 (omega arith), fits 7 (omega arith), fits 8 (omega arith), fits 9 (omega arith), fits 10 (omega arith))
overlapping (c0 ∷ c1 ∷ c2 ∷ c3 ∷ c4 ∷ c5 ∷ c6 ∷ c7 ∷ c8 ∷ c9 ∷ c10 ∷ c11 ∷ []) b more few fits is = omega (arith, is, fits 4 (omega arith), fits 5 (omega arith), fits 6 (omega arith), fits 7 (omega arith), fits 8 (omega arith), fits 9 (omega arith), fits 10 (omega arith), fits 11 (omega arith))
overlapping (c0 ∷ c1 ∷ c2 ∷ c3 ∷ c4 ∷ c5 ∷ c6 ∷ c7 ∷ c8 ∷ c9 ∷ c10 ∷ c11 ∷ c12 ∷ []) b more few fits is = omega (arith, is, fits 5 (omega arith), fits 6 (omega arith), fits 7 (omega arith), fits 8 (omega arith), fits 9 (omega arith), fits 10 (omega arith), fits 11 (omega arith), fits 12 (omega arith))
overlapping (c0 ∷ c1 ∷ c2 ∷ c3 ∷ c4 ∷ c5 ∷ c6 ∷ c7 ∷ c8 ∷ c9 ∷ c10 ∷ c11 ∷ c12 ∷ c13 ∷ []) b more few fits is = omega (arith, is, fits 6 (omega arith), fits 7 (omega arith), fits 8 (omega arith), fits 9 (omega arith), fits 10 (omega arith), fits 11 (omega arith), fits 12 (omega arith), fits 13 (omega arith))
overlapping (c0 ∷ c1 ∷ c2 ∷ c3 ∷ c4 ∷ c5 ∷ c6 ∷ c7 ∷ c8 ∷ c9 ∷ c10 ∷ c11 ∷ c12 ∷ c13 ∷ c14 ∷ []) b more few fits is = omega (arith, is, fits 7 (omega arith), fits 8 (omega arith), fits 9 (omega arith), fits 10 (omega arith), fits 11 (omega arith), fits 12 (omega arith), fits 13 (omega arith), fits 14 (omega arith))
overlapping (c0 ∷ c1 ∷ c2 ∷ c3 ∷ c4 ∷ c5 ∷ c6 ∷ c7 ∷ c8 ∷ c9 ∷ c10 ∷ c11 ∷ c12 ∷ c13 ∷ c14 ∷ c15 ∷ rest) b more few fits is = absurd (omega (arith, few))

pub returns : goal.returns
returns c = overlapping c.args.rest.now c.last_eight.result c.requires.more c.requires.few (λ k within. omega (arith, c.type_inv.rest k)) c.last_eight.ensures
