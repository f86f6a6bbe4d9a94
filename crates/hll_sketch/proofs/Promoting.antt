-- SPDX-License-Identifier: Apache-2.0
-- Registers that a table of coupons becomes.
use Rattle.std.proofs.Common.{◌≡◌, ℕ, ◌^◌, List, [], ◌∷◌, ◌++◌, Option, Some, None, replicate, sym, ap, ◌∙◌}
use Rattle.std.proofs.lemmas.List.{append-nil}
use Rattle.std.specs.FinSet.{empty, insert}
use Rattle.hll_coupons.specs.Pair.{Pairs, set_of}
use Rattle.hll_coupons.specs.Fold.{fold_to}
use Rattle.hll_base.specs.Join.{join}
use Rattle.hll_coupons.proofs.Folds.{fold_to-union, fold_to-empty}
use Rattle.hll_coupons.proofs.Members.{set_of-between}
use Rattle.hll_registers.specs.State.{cleared_state}
use Rattle.hll_registers.specs.Store.{Stored, zero_registers, update_with_coupon}
use Rattle.hll_registers.proofs.States.{state_after-cleared_state}
use Rattle.hll_sketch.specs.Promotion.{with_more}
use Rattle.hll_coupons.proofs.Unions.{insert-union, set_of-nil, union-empty}

-- registers of pairs, with the cleared estimate state
abbrev pub folded : ℕ → Pairs → Stored
folded k P = record { lg_k = k; registers = fold_to P k; state = cleared_state }

pub folded-none : (k : ℕ) → zero_registers k ≡ folded k (set_of [])
folded-none k = λ i. record { lg_k = k; registers = (fold_to-empty k ∙ ap (λ P. fold_to P k) (sym set_of-nil)) i; state = cleared_state }

-- one more coupon
pub folded-more : (k : ℕ) (P : Pairs) (c : ℕ) → update_with_coupon (folded k P) c ≡ folded k (insert P c)
folded-more k P c = λ i. record {
  lg_k = k;
  registers = (sym (fold_to-union P (set_of (c ∷ [])) k) ∙ ap (λ Q. fold_to Q k) (sym (insert-union P c))) i;
  state = state_after-cleared_state (fold_to P k) (join (fold_to P k) (fold_to (set_of (c ∷ [])) k)) i;
}

-- one more coupon, or none
pub folded-with_one : (k : ℕ) (P : Pairs) (c : ℕ) (o : Option ℕ) (a b : Stored) → o ≡ Some c → a ≡ folded k P → b ≡ update_with_coupon a c → b ≡ folded k (with_more P o)
folded-with_one k P c o a b one held put = put ∙ ap (λ x. update_with_coupon x c) held ∙ folded-more k P c ∙ ap (λ q. folded k (with_more P q)) (sym one)

pub folded-with_none : (k : ℕ) (P : Pairs) (o : Option ℕ) (a : Stored) → o ≡ None → a ≡ folded k P → a ≡ folded k (with_more P o)
folded-with_none k P o a none held = held ∙ ap (λ q. folded k (with_more P q)) (sym none)

-- after others
pub folded-after : (k : ℕ) (order : List ℕ) (c : ℕ) → update_with_coupon (folded k (set_of order)) c ≡ folded k (set_of (order ++ c ∷ []))
folded-after k order c = folded-more k (set_of order) c ∙ ap (folded k) (sym (set_of-between order [] c ∙ ap (λ xs. insert (set_of xs) c) (append-nil order)))

-- the maximum of registers of 0 and the fold of pairs is that fold
pub join-zeros : (k : ℕ) (P : Pairs) → join (replicate (2 ^ k) 0) (fold_to P k) ≡ fold_to P k
join-zeros k P = ap (λ R. join R (fold_to P k)) (fold_to-empty k) ∙ sym (fold_to-union empty P k) ∙ ap (λ Q. fold_to Q k) (union-empty P)
