-- SPDX-License-Identifier: Apache-2.0
-- The table, or the registers, that have the coupons of two tables.
use Rattle.std.proofs.Common.{◌≡◌, ℕ, ◌+◌, ◌-◌, ◌*◌, ◌^◌, ◌≤◌, ◌<◌, true, false, cond, ◌&&◌, leb, eqb, List, [], ◌∷◌, Some, sym, ap, ◌∙◌, arith, inl, inr}
use Rattle.std.specs.FinSet.{insert, union}
use Rattle.std.proofs.lemmas.Bool.{cases_Bool, and_parts, cond-false, ne_eqb, true≢false}
use borrow.Author.Tests.{leb-true}
use Rattle.std.proofs.lemmas.Nat.{pow_pos}
use Rattle.hll_coupons.specs.Pair.{Pairs, set_of}
use Rattle.hll_coupons.proofs.Unions.{from_list_cons, insert-union, union_assoc, union_none}
use Rattle.hll_registers.specs.Store.{Stored}
use Rattle.hll_sketch.specs.Laws.{add_in_turn}
use Rattle.hll_sketch.specs.Layout.{IsSize}
use Rattle.hll_sketch.specs.Stage.{can_hold, stage}
use Rattle.hll_sketch.specs.Union.{sketch_of_registers}
use Rattle.hll_sketch.proofs.LegalSketches.{found_in_range}
use Rattle.hll_sketch.proofs.Promoting.{folded, folded-more}

-- a size for n coupons, after one that doesn't hold them
pub record IsLarger (k n q : ℕ) : Type 0 where
  pub low : 5 ≤ q
  pub high : q + 3 ≤ k
  pub few : n < 2 ^ q

held_few : (q n : ℕ) → 5 ≤ q → can_hold q n ≡ true → n < 2 ^ q
held_few q n low holds =
    let other : eqb q 3 ≡ false = ne_eqb q 3 (λ e. omega (arith, low, e)) in
    let test : leb (4 * n) (3 * 2 ^ q) ≡ true = sym (ap (λ b. cond b (leb n 7) (leb (4 * n) (3 * 2 ^ q))) other) ∙ holds in
    omega (arith, leb-true (4 * n) (3 * 2 ^ q) test, pow_pos q)

pub larger : (k p n q : ℕ) → IsSize k p → can_hold p n ≡ false → stage k p n ≡ Some q → IsLarger k n q
larger k p n q size overflows e = elim (cases_Bool (leb p 3 && can_hold 3 n)) [
  | inl first ↦
      let parts = and_parts (leb p 3) (can_hold 3 n) first in
      absurd (elim size [
        | inl three ↦ true≢false (sym parts.1 ∙ ap (λ m. can_hold m n) (sym three) ∙ overflows)
        | inr set ↦ omega (arith, set.0, leb-true p 3 parts.0)
      ])
  | inr later ↦
      let found = found_in_range (λ size. leb p size && can_hold size n) 5 (k - 7) q (sym (cond-false (leb p 3 && can_hold 3 n) (Some 3) _ later) ∙ e) in
      record { low = found.0; high = omega (arith, found.0, found.1); few = held_few q n found.0 (and_parts (leb p q) (can_hold q n) found.2).1 }
]

-- registers raised by coupons in turn
pub raised : (k : ℕ) (P : Pairs) (order : List ℕ) → add_in_turn (sketch_of_registers (folded k P)) order ≡ sketch_of_registers (folded k (union P (set_of order)))
raised k P [] = ap (λ Q. sketch_of_registers (folded k Q)) (sym (union_none P))
raised k P (c ∷ cs) =
    ap (λ (x : Stored). add_in_turn (sketch_of_registers x) cs) (folded-more k P c) ∙ raised k (insert P c) cs
    ∙ ap (λ Q. sketch_of_registers (folded k Q)) (ap (λ Q. union Q (set_of cs)) (insert-union P c) ∙ union_assoc P (set_of (c ∷ [])) (set_of cs) ∙ ap (union P) (sym (from_list_cons c cs)))
