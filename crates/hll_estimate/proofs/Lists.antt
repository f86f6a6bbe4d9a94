-- SPDX-License-Identifier: Apache-2.0
-- Lemmas on the two numbers that estimates are computed from, and on estimates of registers.
use Rattle.std.proofs.Common.{◌≡◌, ℕ, zero, suc, ◌+◌, ◌-◌, ◌*◌, ◌^◌, ◌<◌, ◌≤◌, ◌==◌, cond, List, [], ◌∷◌, length, All, inl, inr, refl, sym, ap, subst, ◌∙◌, arith}
use Rattle.std.specs.Prelude.{◌↔◌, max}
use Rattle.std.specs.List.{AllZip}
use Rattle.std.proofs.Math.Pow.{pow_mono}
use Rattle.std.proofs.Math.Nat.{le-max_left}
use Rattle.std.proofs.lemmas.Bool.{cases_eq, cases_lt}
use Rattle.std.proofs.lemmas.Bool.Decides.{nat_tests}
use Rattle.std.proofs.lemmas.Nat.{pow_pos}
use Rattle.std.proofs.lemmas.List.Elements.{All-nil, All-cons, All-head, All-tail}
use Rattle.std.proofs.lemmas.List.Sums.{sum_by-cons, count_by-le-length}
use Rattle.hll_base.specs.Join.{join}
use Rattle.hll_base.proofs.Joins.{join_comm}
use Rattle.hll_kernels.proofs.Registers.{AreRegisters-join}
use Rattle.hll_kernels.specs.Packed.{AreRegisters, zeros, units}
use Rattle.hll_estimate.specs.declared.estimate.Estimate.{Estimate}
use Rattle.hll_estimate.specs.declared.estimate.Estimate.TheVariants.{Finite, Infinite}
use Rattle.hll_estimate.specs.Estimate.{AreOfRegisters, least_estimate}
use Rattle.hll_estimate.specs.FixedPoint.{AreBounded, raw_estimate_of, fixed_point_estimate}
use Rattle.hll_estimate.specs.Monotone.{fixed_point_estimate_of, IsAtMost, RaisingNeverLowers, UnionNeverBelowParts}
use Rattle.hll_estimate.proofs.Monotone.{raised_any}

-- ---- one register, and all of them

-- 1 if a register is 0, else 0
abbrev is_zero : ℕ → ℕ
is_zero v = cond (v == 0) 1 0

not_zero : (v : ℕ) → is_zero (suc v) ≡ 0
not_zero v = grind (arith, nat_tests)

zeros-cons : (v : ℕ) (R : List ℕ) → zeros (v ∷ R) ≡ is_zero v + zeros R
zeros-cons v R = sum_by-cons (λ x. cond (x == 0) 1 0) v R

units-cons : (v : ℕ) (R : List ℕ) → units (v ∷ R) ≡ 2 ^ (63 - v) + units R
units-cons v R = sum_by-cons (λ x. 2 ^ (63 - x)) v R

-- one register
one_low : (v : ℕ) → is_zero v * 2 ^ 63 + (1 - is_zero v) ≤ 2 ^ (63 - v)
one_low zero = omega arith
one_low (suc v) = omega (arith, pow_pos (63 - suc v), not_zero v)

one_high : (v : ℕ) → 2 ^ (63 - v) ≤ is_zero v * 2 ^ 63 + (1 - is_zero v) * 2 ^ 62
one_high zero = omega arith
one_high (suc v) = let p : 2 ^ (63 - suc v) ≤ 2 ^ 62 = pow_mono (let e : 63 - suc v ≤ 62 = omega arith in e) in omega (arith, p, not_zero v)

one_most : (v : ℕ) → is_zero v ≤ 1
one_most zero = omega arith
one_most (suc v) = omega (arith, not_zero v)

one_raised : (v w : ℕ) → v ≤ w → (is_zero w ≤ is_zero v) × (2 ^ (63 - w) + is_zero v * 2 ^ 62 ≤ 2 ^ (63 - v) + is_zero w * 2 ^ 62)
one_raised zero zero le = (omega arith, omega arith)
one_raised (suc v) zero le = absurd (omega arith)
one_raised zero (suc w) le = let p : 2 ^ (63 - suc w) ≤ 2 ^ 62 = pow_mono (let e : 63 - suc w ≤ 62 = omega arith in e) in (omega (arith, not_zero w), omega (arith, p, not_zero w))
one_raised (suc v) (suc w) le = let p : 2 ^ (63 - suc w) ≤ 2 ^ (63 - suc v) = pow_mono (let e : 63 - suc w ≤ 63 - suc v = omega arith in e) in (omega (arith, not_zero v, not_zero w), omega (arith, p, not_zero v, not_zero w))

-- all registers
low_units : (R : List ℕ) → zeros R * 2 ^ 63 + length R ≤ units R + zeros R
low_units [] = omega arith
low_units (v ∷ R) = let rest = low_units R in omega (arith, rest, zeros-cons v R, units-cons v R, one_low v, one_most v)

high_units : (R : List ℕ) → units R + zeros R * 2 ^ 62 ≤ zeros R * 2 ^ 63 + length R * 2 ^ 62
high_units [] = omega arith
high_units (v ∷ R) = let rest = high_units R in omega (arith, rest, zeros-cons v R, units-cons v R, one_high v, one_most v)

-- ---- the bounds of both numbers

bounded : (k : ℕ) (R : List ℕ) → 4 ≤ k → k ≤ 21 → AreRegisters k R → zeros R < 2 ^ k → AreBounded k (zeros R) (units R)
bounded k R least most a some = record {
  least = least;
  most = most;
  some = some;
  low = omega (arith, low_units R, a.size, some);
  high = omega (arith, high_units R, a.size, some);
}

zeros_most : (k : ℕ) (R : List ℕ) → AreRegisters k R → zeros R ≤ 2 ^ k
zeros_most k R a = let size : zeros R ≤ length R = count_by-le-length (λ v. v == 0) R in omega (arith, size, a.size)

units_least : (k : ℕ) (R : List ℕ) → AreRegisters k R → 2 ^ k ≤ units R
units_least k R a = omega (arith, low_units R, a.size)

pub bounded_of : (k c u : ℕ) → AreOfRegisters k c u → c < 2 ^ k → AreBounded k c u
bounded_of k c u a some = rw (a.zero_count, a.weight) (bounded k a.registers a.least a.most a.are_registers (rw a.zero_count at some))

pub zero_count_most : (k c u : ℕ) → AreOfRegisters k c u → c ≤ 2 ^ k
zero_count_most k c u a = rw a.zero_count (zeros_most k a.registers a.are_registers)

pub weight_least : (k c u : ℕ) → AreOfRegisters k c u → 2 ^ k ≤ u
weight_least k c u a = rw a.weight (units_least k a.registers a.are_registers)

-- ---- the estimate by cases

pub estimate_none : (k c u : ℕ) → c ≡ 2 ^ k → fixed_point_estimate k c u ≡ Finite 0
estimate_none k c u e = grind (arith, nat_tests)

pub estimate_infinite : (k c u : ℕ) → c < 2 ^ k → u ≡ 2 ^ k → fixed_point_estimate k c u ≡ Infinite
estimate_infinite k c u lt e = grind (arith, nat_tests)

pub estimate_finite : (k c u : ℕ) → c < 2 ^ k → 2 ^ k < u → fixed_point_estimate k c u ≡ Finite (max (raw_estimate_of k c u) (least_estimate k c))
estimate_finite k c u lt more = grind (arith, nat_tests)

-- ---- registers that are all 0, and all 63

is_none : (v : ℕ) → is_zero v ≡ 1 → v ≡ 0
is_none zero e = refl
is_none (suc v) e = absurd (omega (arith, not_zero v, e))

none-cons : (v : ℕ) (R : List ℕ) → zeros (v ∷ R) ≡ length (v ∷ R) → (v ≡ 0) × (zeros R ≡ length R)
none-cons v R e =
    let size : zeros R ≤ length R = count_by-le-length (λ v. v == 0) R in
    (is_none v (omega (arith, e, zeros-cons v R, one_most v, size)), omega (arith, e, zeros-cons v R, one_most v, size))

all_none : (R : List ℕ) → zeros R ≡ length R → All (λ v. v ≡ 0) R
all_none [] e = All-nil (λ v. v ≡ 0)
all_none (v ∷ R) e = let b = none-cons v R e in All-cons (λ v. v ≡ 0) v R b.0 (all_none R b.1)

none_all : (R : List ℕ) → All (λ v. v ≡ 0) R → zeros R ≡ length R
none_all [] all = refl
none_all (v ∷ R) all =
    let first : v ≡ 0 = All-head (λ v. v ≡ 0) v R all in
    let one : is_zero v ≡ 1 = ap is_zero first in
    omega (arith, zeros-cons v R, one, none_all R (All-tail (λ v. v ≡ 0) v R all))

is_greatest : (v : ℕ) → v ≤ 63 → 2 ^ (63 - v) ≤ 1 → v ≡ 63
is_greatest v small le = elim (cases_lt v 63) [
  | inl less ↦ let p : 2 ^ 1 ≤ 2 ^ (63 - v) = pow_mono (let e : 1 ≤ 63 - v = omega arith in e) in absurd (omega (arith, p, le))
  | inr more ↦ omega arith
]

one_least : (R : List ℕ) → length R ≤ units R
one_least [] = omega arith
one_least (v ∷ R) = omega (arith, units-cons v R, one_least R, pow_pos (63 - v))

all_greatest : (R : List ℕ) → All (λ v. v ≤ 63) R → units R ≡ length R → All (λ v. v ≡ 63) R
all_greatest [] small e = All-nil (λ v. v ≡ 63)
all_greatest (v ∷ R) small e =
    let rest : units R ≡ length R = omega (arith, e, units-cons v R, one_least R, pow_pos (63 - v)) in
    let one : 2 ^ (63 - v) ≤ 1 = omega (arith, e, units-cons v R, rest) in
    All-cons (λ v. v ≡ 63) v R (is_greatest v (All-head (λ v. v ≤ 63) v R small) one) (all_greatest R (All-tail (λ v. v ≤ 63) v R small) rest)

greatest_all : (R : List ℕ) → All (λ v. v ≡ 63) R → units R ≡ length R
greatest_all [] all = refl
greatest_all (v ∷ R) all =
    let one : 2 ^ (63 - v) ≡ 2 ^ (63 - 63) = ap (λ v. 2 ^ (63 - v)) (All-head (λ v. v ≡ 63) v R all) in
    omega (arith, units-cons v R, one, greatest_all R (All-tail (λ v. v ≡ 63) v R all))

-- the estimate is 0 only for registers of 0, and infinite only for registers of 63

abbrev units_in : Estimate → ℕ
units_in (Finite n) = n
units_in Infinite = 0

abbrev is_finite : Estimate → Type 0
is_finite (Finite n) = Unit {0}
is_finite Infinite = ⊥

finite_not_infinite : {n : ℕ} → Finite n ≡ Infinite → ⊥
finite_not_infinite e = subst is_finite e tt

-- the weight of 0 is greater than that of 63
not_none : (k : ℕ) (R : List ℕ) → AreRegisters k R → units R ≡ 2 ^ k → zeros R < 2 ^ k
not_none k R a e = omega (arith, low_units R, a.size, e, pow_pos k)

finite_some : (k c u : ℕ) → c < 2 ^ k → 2 ^ k < u → fixed_point_estimate k c u ≡ Finite 0 → ⊥
finite_some k c u few heavy e =
    let same : Finite (max (raw_estimate_of k c u) (least_estimate k c)) ≡ Finite 0 = sym (estimate_finite k c u few heavy) ∙ e in
    let none : max (raw_estimate_of k c u) (least_estimate k c) ≡ 0 = ap units_in same in
    omega (arith, few, none)

pub zero_means : (k : ℕ) (R : List ℕ) → AreRegisters k R → (fixed_point_estimate_of k R ≡ Finite 0) ↔ All (λ v. v ≡ 0) R
zero_means k R a = (
  λ e. elim (cases_eq (zeros R) (2 ^ k)) [
    | inl all ↦ all_none R (all ∙ sym a.size)
    | inr few ↦
        let some : zeros R < 2 ^ k = let m = zeros_most k R a in omega (arith, m, few) in
        elim (cases_eq (units R) (2 ^ k)) [
          | inl greatest ↦ absurd (finite_not_infinite (sym e ∙ estimate_infinite k (zeros R) (units R) some greatest))
          | inr other ↦ absurd (finite_some k (zeros R) (units R) some (let m = units_least k R a in omega (arith, m, other)) e)
        ]
  ],
  λ all. estimate_none k (zeros R) (units R) (none_all R all ∙ a.size),
)

pub infinite_means : (k : ℕ) (R : List ℕ) → AreRegisters k R → (fixed_point_estimate_of k R ≡ Infinite) ↔ All (λ v. v ≡ 63) R
infinite_means k R a = (
  λ e. elim (cases_eq (zeros R) (2 ^ k)) [
    | inl all ↦ absurd (finite_not_infinite (sym (estimate_none k (zeros R) (units R) all) ∙ e))
    | inr few ↦
        let some : zeros R < 2 ^ k = let m = zeros_most k R a in omega (arith, m, few) in
        elim (cases_eq (units R) (2 ^ k)) [
          | inl greatest ↦ all_greatest R a.small (greatest ∙ sym a.size)
          | inr other ↦ absurd (finite_not_infinite (sym (estimate_finite k (zeros R) (units R) some (let m = units_least k R a in omega (arith, m, other))) ∙ e))
        ]
  ],
  λ all.
      let greatest : units R ≡ 2 ^ k = greatest_all R all ∙ a.size in
      estimate_infinite k (zeros R) (units R) (not_none k R a greatest) greatest,
)

-- ---- registers that get greater

raised_lists : (R Q : List ℕ) → AllZip (λ v w. v ≤ w) R Q → (zeros Q ≤ zeros R) × (units Q + zeros R * 2 ^ 62 ≤ units R + zeros Q * 2 ^ 62)
raised_lists [] [] z = (omega arith, omega arith)
raised_lists [] (w ∷ Q) z = absurd z
raised_lists (v ∷ R) [] z = absurd z
raised_lists (v ∷ R) (w ∷ Q) z =
    let first = one_raised v w z.0 in
    let rest = raised_lists R Q z.1 in
    (omega (arith, first.0, rest.0, zeros-cons v R, zeros-cons w Q), omega (arith, first.1, rest.1, zeros-cons v R, zeros-cons w Q, units-cons v R, units-cons w Q))

max_grows : (a b c d : ℕ) → a ≤ c → b ≤ d → max a b ≤ max c d
max_grows a b c d first second = omega (arith, first, second)

at_most_infinite : (x : Estimate) → IsAtMost x Infinite
at_most_infinite Infinite = tt
at_most_infinite (Finite n) = tt

none_at_most : (x : Estimate) → IsAtMost (Finite 0) x
none_at_most Infinite = tt
none_at_most (Finite n) = omega arith

pub raising_never_lowers : RaisingNeverLowers
raising_never_lowers k R Q least most a b z = elim (cases_eq (zeros R) (2 ^ k)) [
  | inl all ↦ rw (estimate_none k (zeros R) (units R) all) (none_at_most (fixed_point_estimate_of k Q))
  | inr few ↦
      let some : zeros R < 2 ^ k = let m = zeros_most k R a in omega (arith, m, few) in
      let r = raised_lists R Q z in
      let less : zeros Q < 2 ^ k = omega (arith, r.0, some) in
      elim (cases_eq (units Q) (2 ^ k)) [
        | inl greatest ↦ rw (estimate_infinite k (zeros Q) (units Q) less greatest) (at_most_infinite (fixed_point_estimate_of k R))
        | inr other ↦
            let more : 2 ^ k < units Q = let m = units_least k Q b in omega (arith, m, other) in
            let heavier : 2 ^ k < units R = omega (arith, more, r.0, r.1) in
            let raw : raw_estimate_of k (zeros R) (units R) ≤ raw_estimate_of k (zeros Q) (units Q) = raised_any k (zeros R) (units R) (zeros Q) (units Q) (bounded k R least most a some)
            (record { bounded = bounded k Q least most b less; zero_count = r.0; lighter = omega (arith, r.0, r.1) }) in
            rw (estimate_finite k (zeros R) (units R) some heavier, estimate_finite k (zeros Q) (units Q) less more)
            (max_grows _ _ _ _ raw (let l : least_estimate k (zeros R) ≤ least_estimate k (zeros Q) = omega (arith, r.0) in l))
      ]
]

-- ---- the union

join_first : (R Q : List ℕ) → length R ≡ length Q → AllZip (λ v w. v ≤ w) R (join R Q)
join_first [] [] e = tt
join_first [] (q ∷ Q) e = absurd (omega (arith, e))
join_first (r ∷ R) [] e = absurd (omega (arith, e))
join_first (r ∷ R) (q ∷ Q) e = (le-max_left r q, join_first R Q (omega (arith, e)))

parts : (k : ℕ) (R Q : List ℕ) → 4 ≤ k → k ≤ 21 → AreRegisters k R → AreRegisters k Q → IsAtMost (fixed_point_estimate_of k R) (fixed_point_estimate_of k (join R Q))
parts k R Q least most a b =
    let same : length R ≡ length Q = a.size ∙ sym b.size in
    raising_never_lowers k R (join R Q) least most a (AreRegisters-join k R Q (join R Q) a same b.small refl) (join_first R Q same)

pub union_never_below_parts : UnionNeverBelowParts
union_never_below_parts k R Q least most a b = record {
  first = parts k R Q least most a b;
  second = rw (join_comm R Q) (parts k Q R least most b a);
}
