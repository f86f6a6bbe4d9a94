-- SPDX-License-Identifier: Apache-2.0
-- Registers raised by coupons in turn, from registers that are 0.
use Rattle.std.proofs.Common.{◌≡◌, ℕ, ◌+◌, ◌*◌, ◌^◌, ◌<◌, ◌≤◌, zero, suc, List, [], ◌∷◌, length, drop, get_or, replicate, refl, sym, ap, ◌∙◌, arith}
use Rattle.std.proofs.lemmas.List.{drop_more, drop_all}
use Rattle.hll_base.specs.Join.{join}
use Rattle.hll_coupons.specs.Fold.{fold_to}
use Rattle.hll_coupons.specs.Pair.{Pairs, set_of}
use Rattle.hll_coupons.proofs.Folds.{fold_to-union, fold_to-empty}
use Rattle.hll_coupons.proofs.Unions.{union-empty}
use Rattle.hll_sketch.proofs.MaxBytes.{joined-nil, joined-more}
use Rattle.hll_state.specs.Registers.{values}

-- ---- coupons in turn

-- one coupon was added
pub coupons_more : (k : ℕ) (now next coupons : List ℕ) (i : ℕ) (all : List ℕ) → i < length coupons → join now (fold_to (set_of (drop i coupons)) k) ≡ all
    → next ≡ join now (fold_to (set_of (get_or coupons i 0 ∷ [])) k) → join next (fold_to (set_of (drop (i + 1) coupons)) k) ≡ all
coupons_more k now next coupons i all inside same is =
    joined-more now next (get_or coupons i 0) (drop (i + 1) coupons) k is ∙ ap (λ cs. join now (fold_to (set_of cs) k)) (sym (drop_more coupons i 0 inside)) ∙ same

-- all coupons were added
pub coupons_all : (k : ℕ) (now coupons : List ℕ) (i : ℕ) (all : List ℕ) → length coupons ≤ i → length now ≡ 2 ^ k → join now (fold_to (set_of (drop i coupons)) k) ≡ all → now ≡ all
coupons_all k now coupons i all past size same = joined-nil now k size ∙ ap (λ cs. join now (fold_to (set_of cs) k)) (sym (drop_all i coupons past)) ∙ same

-- ---- registers that are 0

pub values-zeros : (n : ℕ) → values (replicate n (0 ∷ 0 ∷ 0 ∷ 0 ∷ [])) ≡ replicate (4 * n) 0
values-zeros zero = refl
values-zeros (suc n) =
    let more : suc (suc (suc (suc (4 * n)))) ≡ 4 * suc n = omega arith in
    ap (λ (R : List ℕ). 0 ∷ 0 ∷ 0 ∷ 0 ∷ R) (values-zeros n) ∙ ap (λ m. replicate {A = ℕ} m 0) more

pub join_zeros : (P : Pairs) (k : ℕ) → join (replicate (2 ^ k) 0) (fold_to P k) ≡ fold_to P k
join_zeros P k = ap (λ R. join R (fold_to P k)) (fold_to-empty k) ∙ sym (fold_to-union _ P k) ∙ ap (λ S. fold_to S k) (union-empty P)
