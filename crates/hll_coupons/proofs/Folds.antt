-- SPDX-License-Identifier: Apache-2.0
-- The fold of a union, at each slot and as registers.
use Rattle.std.proofs.Common.{◌≡◌, ℕ, ◌^◌, ◌<◌, ◌≤◌, List, length, get_or, replicate, sym, ◌∙◌, arith}
use Rattle.std.specs.Prelude.{max}
use Rattle.std.specs.Ordering.{nat_cmp}
use Rattle.std.specs.FinSet.{items, empty, union, contains-empty}
use Rattle.std.proofs.lemmas.Bool.{true≢false}
use Rattle.std.proofs.lemmas.List.{ext_get_or, length-replicate, get_or-replicate}
use Rattle.std.proofs.lemmas.List.FromFn.{length-map-range_with_len, get_or-map-range_with_len}
use Rattle.hll_coupons.specs.Pair.{Pairs}
use Rattle.hll_coupons.specs.Fold.{fold_to, greatest, value_at}
use Rattle.hll_base.specs.Join.{join}
use Rattle.hll_base.proofs.Joins.{length-join, get_or-join}
use Rattle.hll_coupons.proofs.Greatest.{bounded, greatest-union}

pub length-fold_to : (P : Pairs) (e : ℕ) → length (fold_to P e) ≡ 2 ^ e
length-fold_to P e = length-map-range_with_len (λ s. greatest (value_at e s) (items P)) 0 (2 ^ e)

pub get_or-fold_to : (P : Pairs) (e s : ℕ) → s < 2 ^ e → get_or (fold_to P e) s 0 ≡ greatest (value_at e s) (items P)
get_or-fold_to P e s h = get_or-map-range_with_len (λ s. greatest (value_at e s) (items P)) 0 (2 ^ e) s s 0 h (omega arith)

-- registers are a fold if they are at each slot
pub is_fold_to : (R : List ℕ) (P : Pairs) (e : ℕ) → length R ≡ 2 ^ e → ((s : ℕ) → s < 2 ^ e → get_or R s 0 ≡ greatest (value_at e s) (items P)) → R ≡ fold_to P e
is_fold_to R P e len each = ext_get_or 0 R (fold_to P e) (len ∙ sym (length-fold_to P e)) (λ s h.
    let within : s < 2 ^ e = omega (arith, len) in each s within ∙ sym (get_or-fold_to P e s within))

pub fold_to-empty : (e : ℕ) → replicate (2 ^ e) 0 ≡ fold_to empty e
fold_to-empty e = is_fold_to (replicate (2 ^ e) 0) empty e (length-replicate (2 ^ e) 0) (λ s h.
    let none : greatest (value_at e s) (items empty) ≤ 0 = bounded (value_at e s) 0 empty (λ c t. absurd (true≢false (sym t ∙ contains-empty nat_cmp c))) in
    get_or-replicate (2 ^ e) s 0 0 h ∙ omega arith)

pub fold_to-union : (P Q : Pairs) (e : ℕ) → fold_to (union P Q) e ≡ join (fold_to P e) (fold_to Q e)
fold_to-union P Q e = sym (is_fold_to (join (fold_to P e) (fold_to Q e)) (union P Q) e
    (length-join (fold_to P e) (fold_to Q e) (length-fold_to P e ∙ sym (length-fold_to Q e)) ∙ length-fold_to P e)
    (λ s h. get_or-join (fold_to P e) (fold_to Q e) s
    ∙ (λ i. max (get_or-fold_to P e s h i) (get_or-fold_to Q e s h i))
    ∙ sym (greatest-union (value_at e s) P Q)))
