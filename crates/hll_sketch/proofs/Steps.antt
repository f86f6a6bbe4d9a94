-- SPDX-License-Identifier: Apache-2.0
-- One step is enough: a size that holds the coupons is kept, else the next size holds them, or they become registers.
use Rattle.std.proofs.Common.{◌≡◌, ℕ, ◌+◌, ◌-◌, ◌*◌, ◌^◌, ◌≤◌, ◌<◌, zero, suc, Bool, true, false, ◌&&◌, eqb, leb, length, Some, None, refl, sym, ap, subst, ◌∙◌, arith, inl, inr}
use Rattle.std.specs.Prelude.{find}
use Rattle.std.specs.List.{range_with_len}
use Rattle.std.proofs.Math.Nat.{pow-suc}
use Rattle.std.proofs.lemmas.Nat.{pow_pos}
use Rattle.std.proofs.lemmas.Bool.{le-leb, lt-leb, cases_lt, and_from, and_left, and_right, cond-true, cond-false}
use Rattle.std.proofs.lemmas.Bool.Decides.{nat_tests}
use Rattle.std.specs.FinSet.{insert, len}
use Rattle.hll_coupons.proofs.Unions.{len-insert_le}
use Rattle.hll_coupons.proofs.Sought.{find_least}
use Rattle.hll_coupons.specs.Table.{Table, coupons_in, coupons_of, IsTable}
use Rattle.hll_sketch.specs.Stage.{can_hold, stage}
use Rattle.hll_sketch.specs.Layout.{IsSize, AtMost, size_after, OneStepSuffices}

abbrev fits : ℕ → ℕ → ℕ → Bool
fits p n q = leb p q && can_hold q n

none_at : (f : ℕ → Bool) (a c : ℕ) → ((y : ℕ) → a ≤ y → y < a + c → f y ≡ false) → find f (range_with_len a c) ≡ None
none_at f a zero before = refl
none_at f a (suc c) before = cond-false (f a) (Some a) (find f (range_with_len (a + 1) c)) (before a (omega arith) (omega arith))
    ∙ none_at f (a + 1) c (λ y l h. before y (omega arith) (omega arith))

smaller : (p n q : ℕ) → q < p → fits p n q ≡ false
smaller p n q l = and_left (leb p q) (can_hold q n) (lt-leb p q l)

too_many : (p n : ℕ) → can_hold p n ≡ false → fits p n p ≡ false
too_many p n many = and_right (leb p p) (can_hold p n) many

past_three : (k p n : ℕ) → fits p n 3 ≡ false → stage k p n ≡ find (fits p n) (range_with_len 5 (k - 7))
past_three k p n e = cond-false (fits p n 3) (Some 3) (find (fits p n) (range_with_len 5 (k - 7))) e

-- coupons that a table holds keep their table
pub stage_stays : (k p n : ℕ) → IsSize k p → can_hold p n ≡ true → stage k p n ≡ Some p
stage_stays k p n (inl e) = subst (λ q. can_hold q n ≡ true → stage k q n ≡ Some q) (sym e) list
  where
    list : can_hold 3 n ≡ true → stage k 3 n ≡ Some 3
    list h = cond-true (fits 3 n 3) (Some 3) (find (fits 3 n) (range_with_len 5 (k - 7))) (and_from (leb 3 3) (can_hold 3 n) refl h)
stage_stays k p n (inr (low, high)) = λ h.
    past_three k p n (smaller p n 3 (omega arith))
    ∙ find_least (fits p n) 5 (k - 7) p low (omega arith) (λ y l u. smaller p n y u) (and_from (leb p p) (can_hold p n) (le-leb p p (omega arith)) h)

not_three : (q : ℕ) → 3 < q → eqb q 3 ≡ false
not_three q h = grind (arith, nat_tests)

-- the size above 3 holds three quarters of its buckets
holds_quarters : (q n : ℕ) → 3 < q → 4 * n ≤ 3 * 2 ^ q → can_hold q n ≡ true
holds_quarters q n above few = cond-false (eqb q 3) (leb n 7) (leb (4 * n) (3 * 2 ^ q)) (not_three q above) ∙ le-leb (4 * n) (3 * 2 ^ q) few

after_set : (p : ℕ) → 5 ≤ p → size_after p ≡ p + 1
after_set p low = cond-false (eqb p 3) 5 (p + 1) (not_three p (omega (arith, low)))

-- coupons that it doesn't hold get the next size
pub stage_next : (k p n q : ℕ) → IsSize k p → can_hold p n ≡ false → AtMost p n → q ≡ size_after p → q + 3 ≤ k → stage k p n ≡ Some q
stage_next k p n q (inl three) = subst (λ p. can_hold p n ≡ false → AtMost p n → q ≡ size_after p → q + 3 ≤ k → stage k p n ≡ Some q) (sym three) list
  where
    list : can_hold 3 n ≡ false → AtMost 3 n → q ≡ 5 → q + 3 ≤ k → stage k 3 n ≡ Some q
    list many few e fit =
        past_three k 3 n (too_many 3 n many)
        ∙ find_least (fits 3 n) 5 (k - 7) q (omega (arith, e)) (omega arith) (λ y l u. absurd (omega (arith, e)))
        (ap (fits 3 n) e ∙ and_from (leb 3 5) (can_hold 5 n) refl (holds_quarters 5 n (omega arith) (omega (arith, few.0 refl))))
stage_next k p n q (inr (low, high)) = λ many few e fit.
    let is : q ≡ p + 1 = e ∙ after_set p low in
    let twice : 2 ^ (p + 1) ≡ 2 * 2 ^ p = ap (λ m. 2 ^ m) (let s : p + 1 ≡ suc p = omega arith in s) ∙ omega (arith, pow-suc 2 p) in
    let coupons_in : can_hold (p + 1) n ≡ true = holds_quarters (p + 1) n (omega arith) (omega (arith, few.1 low, twice)) in
    past_three k p n (smaller p n 3 (omega arith))
    ∙ find_least (fits p n) 5 (k - 7) q (omega arith) (omega arith)
    (λ y l u. elim (cases_lt y p) [
      | inl below ↦ smaller p n y below
      | inr above ↦ let same : y ≡ p = omega arith in ap (fits p n) same ∙ too_many p n many
    ])
    (ap (fits p n) is ∙ and_from (leb p (p + 1)) (can_hold (p + 1) n) (le-leb p (p + 1) (omega arith)) coupons_in)

-- and if there is none, they become registers
pub stage_last : (k p n : ℕ) → IsSize k p → can_hold p n ≡ false → k < size_after p + 3 → stage k p n ≡ None
stage_last k p n (inl three) = subst (λ p. can_hold p n ≡ false → k < size_after p + 3 → stage k p n ≡ None) (sym three) list
  where
    list : can_hold 3 n ≡ false → k < 8 → stage k 3 n ≡ None
    list many last =
        past_three k 3 n (too_many 3 n many) ∙ ap (λ m. find (fits 3 n) (range_with_len 5 m)) (let none : k - 7 ≡ 0 = omega arith in none)
stage_last k p n (inr (low, high)) = λ many last.
    past_three k p n (smaller p n 3 (omega arith))
    ∙ none_at (fits p n) 5 (k - 7) (λ y l u. elim (cases_lt y p) [
      | inl below ↦ smaller p n y below
      | inr above ↦ let same : y ≡ p = omega (arith, after_set p low) in ap (fits p n) same ∙ too_many p n many
    ])

-- and they are fewer than the next size has buckets
pub fewer : (k p n : ℕ) → IsSize k p → AtMost p n → n < 2 ^ size_after p
fewer k p n (inl three) few = subst (λ p. n < 2 ^ size_after p) (sym three) (let below : n < 32 = omega (arith, few.0 three) in below)
fewer k p n (inr (low, high)) few =
    let twice : 2 ^ (p + 1) ≡ 2 * 2 ^ p = ap (λ m. 2 ^ m) (let s : p + 1 ≡ suc p = omega arith in s) ∙ omega (arith, pow-suc 2 p) in
    subst (λ q. n < 2 ^ q) (sym (after_set p low)) (omega (arith, twice, few.1 low, pow_pos p))

pub from_five : (k p : ℕ) → IsSize k p → 5 ≤ size_after p
from_five k p (inl three) = subst (λ p. 5 ≤ size_after p) (sym three) (let five : 5 ≤ 5 = omega arith in five)
from_five k p (inr (low, high)) = omega (arith, after_set p low)

-- ---- a table and one more coupon

pub AtMost-with : (t : Table) (c n : ℕ) → IsTable t → length (coupons_in t.buckets) ≤ 2 ^ t.lg_size → (5 ≤ t.lg_size → length (coupons_in t.buckets) < 2 ^ t.lg_size) →
    n ≡ len (insert (coupons_of t) c) → AtMost t.lg_size n
AtMost-with t c n table within room count =
    let more : len (insert (coupons_of t) c) ≤ len (coupons_of t) + 1 = len-insert_le (coupons_of t) c in (
      λ three. let eight : 2 ^ t.lg_size ≡ 8 = ap (λ q. 2 ^ q) three in omega (arith, count, more, table.distinct, within, eight),
      λ low. omega (arith, count, more, table.distinct, room low),
    )

pub one_step_suffices : OneStepSuffices
one_step_suffices = record {
  stays = stage_stays;
  next = λ k p n size many few fit. stage_next k p n (size_after p) size many few refl fit;
  last = stage_last;
}
