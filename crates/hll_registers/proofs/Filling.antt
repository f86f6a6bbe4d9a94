-- SPDX-License-Identifier: Apache-2.0
-- Lemmas on registers that are set in ascending slots.
use Rattle.std.proofs.Common.{◌≡◌, ℕ, ◌+◌, ◌-◌, ◌%◌, ◌^◌, ◌<◌, ◌≤◌, suc, List, [], ◌∷◌, ◌++◌, length, take, get_or, replicate, sym, ap, ◌∙◌, arith, append_assoc}
use Rattle.std.proofs.Math.ListN.{set}
use Rattle.std.proofs.Math.Seq.{set-append_seam, get_or-append_seam, take-suc}
use Rattle.std.proofs.Math.Nat.{mod-eq_of_lt}
use Rattle.std.proofs.lemmas.Nat.{pow_below}
use Rattle.std.proofs.lemmas.Simd.{length-replicate}
use Rattle.std.proofs.lemmas.List.{length-append, length-take-le, get_or-replicate}
use Rattle.hll_coupons.specs.Pair.{slot_of, value_of, pair, set_of}
use Rattle.hll_coupons.specs.Fold.{fold_to}
use Rattle.hll_base.specs.Join.{join}
use Rattle.hll_base.proofs.Joins.{is_join}
use Rattle.hll_coupons.proofs.Registers.{slot_of-pair, value_of-pair, fold_to-pairs}
use Rattle.hll_registers.specs.State.{cleared_state}
use Rattle.hll_registers.specs.Store.{Stored, zero_registers, update_with_coupon, merge_with}
use Rattle.hll_registers.proofs.Raising.{join-high}
use Rattle.hll_registers.proofs.States.{state_after-cleared_state}

-- the first s of some registers, and 0 for the others
abbrev pub filled : ℕ → ℕ → List ℕ → Stored
filled k s V = record { lg_k = k; registers = take s V ++ replicate (length V - s) 0; state = cleared_state }

-- the pair of the next register puts it
pub filled-next : (k s c : ℕ) (V : List ℕ) → k ≤ 21 → length V ≡ 2 ^ k → s < length V → c ≡ pair (slot_of s) (get_or V s 0) →
    update_with_coupon (filled k s V) c ≡ filled k (s + 1) V
filled-next k s c V small size within is =
    let v : ℕ = get_or V s 0 in
    let m : ℕ = length V - (s + 1) in
    let P : List ℕ = take s V in
    let Z : List ℕ = replicate m 0 in
    let R : List ℕ = P ++ replicate (length V - s) 0 in
    let J : List ℕ = join R (fold_to (set_of (c ∷ [])) k) in
    let one_more : length V - s ≡ suc m = omega (arith, within) in
    let split : R ≡ P ++ 0 ∷ Z = ap (λ n. P ++ replicate n 0) one_more in
    let front : length P ≡ s = length-take-le s V (omega (arith, within)) in
    let whole : length R ≡ length V = length-append P (replicate (length V - s) 0) ∙ omega (arith, front, length-replicate {A = ℕ} (length V - s) 0, within) in
    let bound : s < 2 ^ k = omega (arith, size, within) in
    let far : s < 2 ^ 26 = omega (arith, bound, pow_below k 26 (omega arith)) in
    let there : c ≡ pair s v = is ∙ ap (λ t. pair t v) (mod-eq_of_lt far) in
    let value : value_of c ≡ v = ap value_of there ∙ value_of-pair s v far in
    let at : slot_of c % 2 ^ k ≡ s = ap (λ x. slot_of x % 2 ^ k) there ∙ ap (λ x. x % 2 ^ k) (slot_of-pair s v far) ∙ mod-eq_of_lt bound in
    let zero_there : get_or R (slot_of c % 2 ^ k) 0 ≡ 0 = ap (λ i. get_or R i 0) (at ∙ sym front) ∙ ap (λ xs. get_or xs (length P) 0) split ∙ get_or-append_seam P 0 Z 0 in
    let written : set R (slot_of c % 2 ^ k) (value_of c) ≡ P ++ v ∷ Z =
    (λ i. set (split i) ((at ∙ sym front) i) (value i)) ∙ set-append_seam P 0 Z v in
    let next : suc s ≡ s + 1 = omega arith in
    let more : P ++ v ∷ Z ≡ take (s + 1) V ++ Z = sym (append_assoc P (v ∷ []) Z) ∙ ap (λ xs. xs ++ Z) (sym (take-suc V s 0 within) ∙ ap (λ n. take n V) next) in
    let joined : J ≡ take (s + 1) V ++ Z =
    sym (join-high k R c (whole ∙ size) (omega (arith, at, whole, within)) (omega (arith, zero_there))) ∙ written ∙ more in
    λ i. record { lg_k = k; registers = joined i; state = state_after-cleared_state R J i }

-- zeros after a merge with registers are these registers
pub merge_with-zero_registers : (k : ℕ) (R : List ℕ) → k ≤ 21 → length R ≡ 2 ^ k → merge_with (zero_registers k) R ≡ record { lg_k = k; registers = R; state = cleared_state }
merge_with-zero_registers k R small size =
    let Z : List ℕ = replicate (2 ^ k) 0 in
    let long : length R ≡ length Z = size ∙ sym (length-replicate {A = ℕ} (2 ^ k) 0) in
    let joined : R ≡ join Z R = is_join Z R R (sym long) long (λ s h. omega (arith, get_or-replicate {A = ℕ} (2 ^ k) s 0 0 (omega (arith, h, size)))) in
    λ i. record { lg_k = k; registers = (ap (join Z) (fold_to-pairs R k small size) ∙ sym joined) i; state = cleared_state }
