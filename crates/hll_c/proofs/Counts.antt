-- SPDX-License-Identifier: Apache-2.0
-- Lemmas on counts of registers by their value.
use Rattle.std.proofs.Common.{◌≡◌, ◌≢◌, arith, ℕ, suc, ◌+◌, ◌-◌, ◌^◌, ◌<◌, ◌≤◌, Bool, true, false, cond, nat_eq, List, [], ◌∷◌, length, map, take, get_or, set, replicate, refl, sym, ◌∙◌, ap, subst, inl, inr}
use Rattle.std.specs.List.{count_by}
use Rattle.std.proofs.lemmas.Bool.{cases_Bool, cases_lt}
use Rattle.std.proofs.lemmas.Bool.Decides.{nat_tests}
use Rattle.std.proofs.lemmas.List.{get_or-replicate, get_or-set_same, get_or-set_other, take_all}
use Rattle.std.proofs.lemmas.List.Sums.{count_by_more_no, count_by_more_yes, sum_by-cons}
use Rattle.std.proofs.lemmas.Nat.{pow_below}
use Rattle.hll_coupons.proofs.Registers.{value_of-pair}
use Rattle.hll_coupons.specs.Fold.{raw_coupons_from}
use Rattle.hll_coupons.specs.Pair.{pair, value_of}
use Rattle.hll_c.specs.Info.{AreCountsOf}

pub counts_none : AreCountsOf [] (replicate 64 0)
counts_none = record { each = λ v small. get_or-replicate 64 v 0 0 small }

same_value : (r v : ℕ) → nat_eq r v ≡ true → v ≡ r
same_value r v e = grind (arith, nat_tests)

other_value : (r v : ℕ) → nat_eq r v ≡ false → v ≢ r
other_value r v e = grind (arith, nat_tests)

not_value : (r v : ℕ) → 64 ≤ r → v < 64 → nat_eq r v ≡ false
not_value r v large small = grind (arith, nat_tests)

module _ (registers counts : List ℕ) (i : ℕ) (inside : i < length registers) (are : AreCountsOf (take i registers) counts) where
  -- one register more
  pub counts_more : get_or registers i 0 < 64 → length counts ≡ 64
      → AreCountsOf (take (i + 1) registers) (set counts (get_or registers i 0) (get_or counts (get_or registers i 0) 0 + 1))
  counts_more small size = record {
    each = λ v v_small. of v v_small (nat_eq (get_or registers i 0) v) refl;
  }
    where
      r : ℕ
      r = get_or registers i 0

      of : (v : ℕ) → v < 64 → (t : Bool) → nat_eq (get_or registers i 0) v ≡ t
          → get_or (set counts (get_or registers i 0) (get_or counts (get_or registers i 0) 0 + 1)) v 0 ≡ count_by (λ x. nat_eq x v) (take (i + 1) registers)
      of v v_small true e =
          let here = same_value (get_or registers i 0) v e in
          subst (λ w. get_or (set counts (get_or registers i 0) (get_or counts (get_or registers i 0) 0 + 1)) w 0 ≡ get_or counts w 0 + 1) (sym here)
          (get_or-set_same counts (get_or registers i 0) (get_or counts (get_or registers i 0) 0 + 1) 0 (let fits : get_or registers i 0 < length counts = omega (arith, small, size) in fits))
          ∙ ap (λ n. n + 1) (are.each v v_small) ∙ sym (count_by_more_yes (λ x. nat_eq x v) registers i 0 inside e)
      of v v_small false e =
          get_or-set_other counts (get_or registers i 0) v (get_or counts (get_or registers i 0) 0 + 1) 0 (other_value (get_or registers i 0) v e)
          ∙ are.each v v_small ∙ sym (count_by_more_no (λ x. nat_eq x v) registers i 0 inside e)

  -- one register that has no such value
  pub counts_skip : 64 ≤ get_or registers i 0 → AreCountsOf (take (i + 1) registers) counts
  counts_skip large = record {
    each = λ v small. are.each v small ∙ sym (count_by_more_no (λ x. nat_eq x v) registers i 0 inside (not_value (get_or registers i 0) v large small));
  }

pub counts_all : (registers counts : List ℕ) (i : ℕ) → length registers ≤ i → AreCountsOf (take i registers) counts → AreCountsOf registers counts
counts_all registers counts i all are = subst (λ R. AreCountsOf R counts) (take_all i registers all) are

-- ---- registers above 0, as raw coupons

other_than : (r v : ℕ) → r ≢ v → nat_eq r v ≡ false
other_than r v other = grind (arith, nat_tests)

-- as many have a value above 0, and those of 0 are all others
pub count_nonzero : (v s : ℕ) (R : List ℕ) → 0 < v → s + length R ≤ 2 ^ 26 → count_by (λ r. nat_eq r v) (map value_of (raw_coupons_from s R)) ≡ count_by (λ r. nat_eq r v) R
count_nonzero v s [] above fits = refl
count_nonzero v s (r ∷ R) above fits =
    let rest : count_by (λ r. nat_eq r v) (map value_of (raw_coupons_from (s + 1) R)) ≡ count_by (λ r. nat_eq r v) R = count_nonzero v (s + 1) R above (omega (arith, fits)) in
    elim (cases_Bool (nat_eq r 0)) [
      | inl none ↦
          let zero : r ≡ 0 = sym (same_value r 0 none) in
          ap (λ b. count_by (λ r. nat_eq r v) (map value_of (cond b (raw_coupons_from (s + 1) R) (pair s r ∷ raw_coupons_from (s + 1) R)))) none ∙ rest
          ∙ (let e : 0 + count_by (λ r. nat_eq r v) R ≡ count_by (λ r. nat_eq r v) R = omega arith in sym e)
          ∙ ap (λ b. cond b 1 0 + count_by (λ r. nat_eq r v) R) (sym (other_than r v (λ e. omega (arith, zero, e, above))))
          ∙ sym (sum_by-cons (λ r. cond (nat_eq r v) 1 0) r R)
      | inr some ↦
          ap (λ b. count_by (λ r. nat_eq r v) (map value_of (cond b (raw_coupons_from (s + 1) R) (pair s r ∷ raw_coupons_from (s + 1) R)))) some
          ∙ sum_by-cons (λ r. cond (nat_eq r v) 1 0) (value_of (pair s r)) (map value_of (raw_coupons_from (s + 1) R))
          ∙ ap (λ w. cond (nat_eq w v) 1 0 + count_by (λ r. nat_eq r v) (map value_of (raw_coupons_from (s + 1) R))) (value_of-pair s r (omega (arith, fits)))
          ∙ ap (λ n. cond (nat_eq r v) 1 0 + n) rest
          ∙ sym (sum_by-cons (λ r. cond (nat_eq r v) 1 0) r R)
    ]

pub count_zeros : (s : ℕ) (R : List ℕ) → count_by (λ r. nat_eq r 0) R + length (raw_coupons_from s R) ≡ length R
count_zeros s [] = refl
count_zeros s (r ∷ R) =
    let rest : count_by (λ r. nat_eq r 0) R + length (raw_coupons_from (s + 1) R) ≡ length R = count_zeros (s + 1) R in
    let one : count_by (λ r. nat_eq r 0) (r ∷ R) ≡ cond (nat_eq r 0) 1 0 + count_by (λ r. nat_eq r 0) R = sum_by-cons (λ r. cond (nat_eq r 0) 1 0) r R in
    elim (cases_Bool (nat_eq r 0)) [
      | inl none ↦
          let more : count_by (λ r. nat_eq r 0) (r ∷ R) ≡ 1 + count_by (λ r. nat_eq r 0) R = one ∙ ap (λ b. cond b 1 0 + count_by (λ r. nat_eq r 0) R) none in
          let same : length (raw_coupons_from s (r ∷ R)) ≡ length (raw_coupons_from (s + 1) R) = ap (λ b. length (cond b (raw_coupons_from (s + 1) R) (pair s r ∷ raw_coupons_from (s + 1) R))) none in
          omega (arith, rest, more, same)
      | inr some ↦
          let more : count_by (λ r. nat_eq r 0) (r ∷ R) ≡ 0 + count_by (λ r. nat_eq r 0) R = one ∙ ap (λ b. cond b 1 0 + count_by (λ r. nat_eq r 0) R) some in
          let same : length (raw_coupons_from s (r ∷ R)) ≡ suc (length (raw_coupons_from (s + 1) R)) = ap (λ b. length (cond b (raw_coupons_from (s + 1) R) (pair s r ∷ raw_coupons_from (s + 1) R))) some in
          omega (arith, rest, more, same)
    ]

-- the counts of all registers, from those of the registers above 0
pub counts_with_zeros : (k : ℕ) (R raws counts : List ℕ) → k ≤ 21 → length R ≡ 2 ^ k → raws ≡ raw_coupons_from 0 R → length counts ≡ 64 → AreCountsOf (map value_of raws) counts
    → AreCountsOf R (set counts 0 (2 ^ k - length raws))
counts_with_zeros k R raws counts small size is full are = record {
  each = λ v v_small. elim (cases_lt 0 v) [
    | inl above ↦
        get_or-set_other counts 0 v (2 ^ k - length raws) 0 (λ e. omega (arith, e, above)) ∙ are.each v v_small
        ∙ ap (λ cs. count_by (λ r. nat_eq r v) (map value_of cs)) is ∙ count_nonzero v 0 R above (omega (arith, size, pow_below k 26 (omega arith)))
    | inr none ↦
        let zero : v ≡ 0 = omega (arith, none) in
        subst (λ w. get_or (set counts 0 (2 ^ k - length raws)) w 0 ≡ count_by (λ r. nat_eq r w) R) (sym zero)
        (get_or-set_same counts 0 (2 ^ k - length raws) 0 (omega (arith, full)) ∙ omega (arith, size, ap length is, count_zeros 0 R))
  ];
}

pub few_nonzero : (k : ℕ) (R raws : List ℕ) → length R ≡ 2 ^ k → raws ≡ raw_coupons_from 0 R → length raws ≤ 2 ^ k
few_nonzero k R raws size is = omega (arith, size, ap length is, count_zeros 0 R)
