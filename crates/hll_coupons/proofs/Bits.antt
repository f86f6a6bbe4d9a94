-- SPDX-License-Identifier: Apache-2.0
-- Bits in blocks of 64: changing a bit, and finding the first bit that is set.
use Rattle.std.proofs.Common.{◌≡◌, ℕ, ◌+◌, ◌-◌, ◌*◌, ◌/◌, ◌%◌, ◌<◌, ◌≤◌, List, length, get_or, set, refl, sym, ap, ◌∙◌, arith, inl, inr}
use Rattle.std.specs.Prelude.{◌==◌, if◌then◌else◌}
use Rattle.std.specs.Int.{bit_at}
use Rattle.std.proofs.lemmas.Bool.{cases_eq, cases_lt}
use Rattle.std.proofs.lemmas.Nat.Bits.{bit_at-zero}
use Rattle.std.proofs.lemmas.List.{get_or-set_same, get_or-set_other, get_or_past}
use Rattle.hll_coupons.specs.Blocks.{bit_of, IsNext, IsSummary}

-- ---- one bit is changed

-- the bit that was set
pub bit_of-set_same : (blocks : List ℕ) (b v bit : ℕ) → b < 64 * length blocks → bit_at v (b % 64) ≡ bit → bit_of (set blocks (b / 64) v) b ≡ bit
bit_of-set_same blocks b v bit h e = ap (λ w. bit_at w (b % 64)) (get_or-set_same blocks (b / 64) v 0 (omega arith)) ∙ e

-- another bit
pub bit_of-set_other : (blocks : List ℕ) (b v j : ℕ) → b < 64 * length blocks → ((i : ℕ) → i < 64 → (i ≡ b % 64 → ⊥) → bit_at v i ≡ bit_at (get_or blocks (b / 64) 0) i) →
    (j ≡ b → ⊥) → bit_of (set blocks (b / 64) v) j ≡ bit_of blocks j
bit_of-set_other blocks b v j h same other = elim (cases_eq (j / 64) (b / 64)) [
  | inl e ↦
      ap (λ q. bit_at (get_or (set blocks (b / 64) v) q 0) (j % 64)) e ∙ ap (λ w. bit_at w (j % 64)) (get_or-set_same blocks (b / 64) v 0 (omega arith))
      ∙ same (j % 64) (omega arith) (λ r. other (omega arith)) ∙ ap (λ q. bit_at (get_or blocks q 0) (j % 64)) (sym e)
  | inr o ↦ ap (λ w. bit_at w (j % 64)) (get_or-set_other blocks (b / 64) (j / 64) v 0 o)
]

-- ---- the first that is set

-- the next bit is in this block
pub next_in_block : (blocks : List ℕ) (from k p : ℕ) → k < length blocks → p < 64 → from ≤ 64 * k + p → bit_at (get_or blocks k 0) p ≡ 1 →
    ((j : ℕ) → from ≤ 64 * k + j → j < p → bit_at (get_or blocks k 0) j ≡ 0) → ((j : ℕ) → from ≤ j → j < 64 * k → bit_of blocks j ≡ 0) → IsNext blocks from (64 * k + p)
next_in_block blocks from k p inside small low here before earlier = record {
  low = low;
  within = omega arith;
  set = at p small ∙ here;
  before = λ i l h. elim (cases_lt i (64 * k)) [
    | inl e ↦ earlier i l e
    | inr o ↦
        let there : i ≡ 64 * k + (i - 64 * k) = omega arith in
        ap (bit_of blocks) there ∙ at (i - 64 * k) (omega arith) ∙ before (i - 64 * k) (omega arith) (omega arith)
  ];
}
  where
    at : (j : ℕ) → j < 64 → bit_of blocks (64 * k + j) ≡ bit_at (get_or blocks k 0) j
    at j l =
        let block : (64 * k + j) / 64 ≡ k = omega arith in
        let bit : (64 * k + j) % 64 ≡ j = omega arith in
        ap (λ q. bit_at (get_or blocks q 0) ((64 * k + j) % 64)) block ∙ ap (bit_at (get_or blocks k 0)) bit

-- no bit of a block of 0 is set
pub none_in_zero : (blocks : List ℕ) (k j : ℕ) → get_or blocks k 0 ≡ 0 → j / 64 ≡ k → bit_of blocks j ≡ 0
none_in_zero blocks k j z e = ap (λ q. bit_at (get_or blocks q 0) (j % 64)) e ∙ ap (λ w. bit_at w (j % 64)) z ∙ bit_at-zero (j % 64)

-- no bit of the first block is set, from a bit on
pub none_in_rest : (blocks : List ℕ) (from r : ℕ) → ((j : ℕ) → from % 64 ≤ j → j < 64 → bit_at r j ≡ bit_at (get_or blocks (from / 64) 0) j) → r ≡ 0 →
    (j : ℕ) → from ≤ j → j < 64 * (from / 64 + 1) → bit_of blocks j ≡ 0
none_in_rest blocks from r high z j l h =
    let block : j / 64 ≡ from / 64 = omega arith in
    ap (λ q. bit_at (get_or blocks q 0) (j % 64)) block ∙ sym (high (j % 64) (omega arith) (omega arith)) ∙ ap (λ w. bit_at w (j % 64)) z ∙ bit_at-zero (j % 64)

-- ---- by a summary

zero_of : (p b : ℕ) → b ≡ (if p == 0 then 0 else 1) → b ≡ 0 → p ≡ 0
zero_of p b e h = grind arith

some_of : (p b : ℕ) → b ≡ (if p == 0 then 0 else 1) → b ≡ 1 → p ≡ 0 → ⊥
some_of p b e h z = grind arith

-- the next bit is in the next block that the summary shows
pub next_in_summary : (blocks summary : List ℕ) (from i p : ℕ) → IsSummary blocks summary → ((j : ℕ) → from ≤ j → j < 64 * (from / 64 + 1) → bit_of blocks j ≡ 0) →
    IsNext summary (from / 64 + 1) i → p < 64 → bit_at (get_or blocks i 0) p ≡ 1 → ((j : ℕ) → j < p → bit_at (get_or blocks i 0) j ≡ 0) → IsNext blocks from (64 * i + p)
next_in_summary blocks summary from i p s rest n small here before =
    let full : get_or blocks i 0 ≡ 0 → ⊥ = some_of (get_or blocks i 0) (bit_of summary i) (s.bits i n.within) n.set in
    let inside : i < length blocks = elim (cases_lt i (length blocks)) [ inl l ↦ l | inr g ↦ absurd (full (get_or_past blocks i 0 g)) ] in
    next_in_block blocks from i p inside small (omega (arith, n.low)) here (λ j l h. before j h)
    (λ j l h. elim (cases_lt j (64 * (from / 64 + 1))) [
      | inl first ↦ rest j l first
      | inr later ↦
          let k : ℕ = j / 64 in
          let low : from / 64 + 1 ≤ k = omega arith in
          let high : k < i = omega arith in
          none_in_zero blocks k j (zero_of (get_or blocks k 0) (bit_of summary k) (s.bits k (omega (arith, n.within))) (n.before k low high)) refl
    ])
