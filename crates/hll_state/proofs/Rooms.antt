-- SPDX-License-Identifier: Apache-2.0
-- How many coupons stay coupons, and the elements that are enough for them.
use Rattle.std.proofs.Common.{◌≡◌, ◌≢◌, ℕ, suc, ◌+◌, ◌-◌, ◌*◌, ◌^◌, ◌<◌, ◌≤◌, true, false, leb, eqb, ◌&&◌, Option, Some, None, get_or, refl, sym, ap, subst, ◌∙◌, arith, inl, inr}
use Rattle.std.specs.Prelude.{max}
use Rattle.std.specs.Option.{is_some}
use Rattle.std.specs.List.{range_with_len}
use Rattle.std.proofs.Math.Pow.{pow_mono}
use Rattle.std.proofs.lemmas.Bool.{leb-true, le-leb, lt-leb, cases_Bool, cases_lt, and_parts, and_from, cond-true, cond-false, true≢false, ne_eqb}
use Rattle.std.proofs.lemmas.List.FromFn.{get_or-range_with_len, length-range_with_len}
use Rattle.hll_coupons.proofs.Listed.{has, has-head, has-tail, has-at, at_index, finds, finds_none}
use Rattle.hll_sketch.proofs.Stages.{holds_fewer}
use Rattle.hll_sketch.specs.Layout.{IsSize}
use Rattle.hll_sketch.specs.Stage.{can_hold, sizes, stage}
use Rattle.hll_sketch.specs.Value.{IsTableFor}
use Rattle.hll_state.specs.Header.{greatest_size, are_few, most_used, most_elements, most_few, elements_for, IsHeldWithin, IsWithin, HasRoom, HasRoomFor}
use Rattle.hll_state.specs.Merged.{used_in}
use Rattle.hll_state.specs.declared.header.Header.{Header}
use Rattle.hll_state.specs.declared.header.Held.{Held}
use Rattle.hll_state.specs.declared.header.Held.TheVariants.{Coupons, Registers}

-- fewer coupons are few too
pub fewer_few : (k n m : ℕ) → n ≤ m → are_few k m ≡ true → are_few k n ≡ true
fewer_few k n m le few = holds_fewer (greatest_size k) n m le few

greatest_low : (k : ℕ) → k ≤ 7 → greatest_size k ≡ 3
greatest_low k low = cond-true (leb k 7) 3 (k - 3) (le-leb k 7 low)

greatest_high : (k : ℕ) → 8 ≤ k → greatest_size k ≡ k - 3
greatest_high k high = cond-false (leb k 7) 3 (k - 3) (lt-leb k 7 (omega (arith, high)))

-- the greatest size is one of the sizes
has_greatest : (k : ℕ) → has (greatest_size k) (sizes k) ≡ true
has_greatest k = elim (cases_lt k 8) [
  | inl low ↦ ap (λ q. has q (sizes k)) (greatest_low k (omega (arith, low))) ∙ has-head 3 (range_with_len 5 (k - 7))
  | inr high ↦
      let at : k - 8 < k - 7 = omega (arith, high) in
      let is : get_or (range_with_len 5 (k - 7)) (k - 8) 0 ≡ k - 3 = get_or-range_with_len 5 (k - 7) (k - 8) 0 at ∙ omega (arith, high) in
      ap (λ q. has q (sizes k)) (greatest_high k (omega (arith, high)))
      ∙ has-tail (k - 3) 3 (range_with_len 5 (k - 7))
      (ap (λ q. has q (range_with_len 5 (k - 7))) (sym is) ∙ has-at (range_with_len 5 (k - 7)) (k - 8) (omega (arith, at, length-range_with_len 5 (k - 7))))
]

-- no size is above it
size_below : (k p : ℕ) → IsSize k p → p ≤ greatest_size k
size_below k p (inl three) = elim (cases_lt k 8) [
  | inl low ↦ omega (arith, three, greatest_low k (omega (arith, low)))
  | inr high ↦ omega (arith, three, high, greatest_high k (omega (arith, high)))
]
size_below k p (inr set) = omega (arith, set.0, set.1, greatest_high k (omega (arith, set.0, set.1)))

-- few coupons have a table
pub few_stay : (k p n : ℕ) → IsSize k p → are_few k n ≡ true → stage k p n ≢ None
few_stay k p n is few none =
    finds_none (λ q. leb p q && can_hold q n) (sizes k) (greatest_size k) none (has_greatest k)
    (and_from (leb p (greatest_size k)) (can_hold (greatest_size k) n) (le-leb p (greatest_size k) (size_below k p is)) few)

-- what a table holds is less than its buckets
held_below : (q n : ℕ) → 3 ≤ q → can_hold q n ≡ true → n < 2 ^ q
held_below q n least holds = elim (cases_Bool (eqb q 3)) [
  | inl three ↦
      let seven : leb n 7 ≡ true = sym (cond-true (eqb q 3) (leb n 7) (leb (4 * n) (3 * 2 ^ q)) three) ∙ holds in
      let eight : 2 ^ 3 ≤ 2 ^ q = pow_mono least in
      omega (arith, leb-true n 7 seven, eight)
  | inr other ↦
      let fits : leb (4 * n) (3 * 2 ^ q) ≡ true = sym (cond-false (eqb q 3) (leb n 7) (leb (4 * n) (3 * 2 ^ q)) other) ∙ holds in
      let some : 2 ^ 3 ≤ 2 ^ q = pow_mono least in
      omega (arith, leb-true (4 * n) (3 * 2 ^ q) fits, some)
]

-- and a size is at most the number of elements that may be in use
size_small : (k q : ℕ) → has q (sizes k) ≡ true → (3 ≤ q) × (2 ^ q ≤ most_used k)
size_small k q h =
    let r = at_index (sizes k) q h in
    elim (cases_lt r.0 1) [
      | inl first ↦
          let is : 3 ≡ q = ap (λ i. get_or (sizes k) i 0) (let zero_is : 0 ≡ r.0 = omega (arith, first) in zero_is) ∙ r.2 in
          let up : 2 ^ 3 ≤ 2 ^ max 4 (k - 3) = pow_mono {i = 3} {j = max 4 (k - 3)} (omega arith) in
          (omega (arith, is), subst (λ q. 2 ^ q ≤ most_used k) is up)
      | inr later ↦
          let i : ℕ = r.0 - 1 in
          let inside : i < k - 7 = omega (arith, later, r.1, length-range_with_len 5 (k - 7)) in
          let is : 5 + i ≡ q = sym (get_or-range_with_len 5 (k - 7) i 0 inside) ∙ ap (λ j. get_or (sizes k) j 0) (let next : suc i ≡ r.0 = omega (arith, later) in next) ∙ r.2 in
          let up : 2 ^ (5 + i) ≤ 2 ^ max 4 (k - 3) = pow_mono {i = 5 + i} {j = max 4 (k - 3)} (omega (arith, inside)) in
          (omega (arith, is), subst (λ q. 2 ^ q ≤ most_used k) is up)
    ]

-- coupons that have a table are fewer than may be in use
pub staged_below : (k p n q : ℕ) → stage k p n ≡ Some q → n < most_used k
staged_below k p n q e =
    let r = finds (λ q. leb p q && can_hold q n) (sizes k) q e in
    let small = size_small k q r.0 in
    omega (arith, held_below q n small.0 (and_parts (leb p q) (can_hold q n) r.1).1, small.1)

pub few_below : (k n : ℕ) → are_few k n ≡ true → n < most_used k
few_below k n few =
    let small = size_small k (greatest_size k) (has_greatest k) in
    omega (arith, held_below (greatest_size k) n small.0 few, small.1)

-- few coupons are at most as many as never become registers, for which there is always room
four_each : (k : ℕ) → 8 ≤ k → 4 * 2 ^ (k - 5) ≡ 2 ^ (k - 3)
four_each k high =
    let twice : 4 * 2 ^ (k - 5) ≡ 2 ^ suc (suc (k - 5)) = omega arith in
    twice ∙ ap (λ n. 2 ^ n) (let e : suc (suc (k - 5)) ≡ k - 3 = omega (arith, high) in e)

pub few_most : (k n : ℕ) → are_few k n ≡ true → n ≤ most_few k
few_most k n few = elim (cases_lt k 8) [
  | inl low ↦
      let seven : leb n 7 ≡ true = ap (λ q. can_hold q n) (sym (greatest_low k (omega (arith, low)))) ∙ few in
      omega (arith, leb-true n 7 seven, cond-true (leb k 7) 7 (3 * 2 ^ (k - 5)) (le-leb k 7 (omega (arith, low))))
  | inr high ↦
      let holds : can_hold (k - 3) n ≡ true = ap (λ q. can_hold q n) (sym (greatest_high k (omega (arith, high)))) ∙ few in
      let fits : leb (4 * n) (3 * 2 ^ (k - 3)) ≡ true =
      sym (cond-false (eqb (k - 3) 3) (leb n 7) (leb (4 * n) (3 * 2 ^ (k - 3))) (ne_eqb (k - 3) 3 (λ e. omega (arith, e, high)))) ∙ holds in
      omega (arith, leb-true (4 * n) (3 * 2 ^ (k - 3)) fits, four_each k (omega (arith, high)), cond-false (leb k 7) 7 (3 * 2 ^ (k - 5)) (lt-leb k 7 (omega (arith, high))))
]

pub most_few_small : (k : ℕ) → 4 ≤ k → most_few k ≤ most_elements k
most_few_small k low = elim (cases_lt k 8) [
  | inl few ↦
      let up : 2 ^ 4 ≤ 2 ^ max 4 (k - 3) = pow_mono {i = 4} {j = max 4 (k - 3)} (omega arith) in
      omega (arith, up, cond-true (leb k 7) 7 (3 * 2 ^ (k - 5)) (le-leb k 7 (omega (arith, few))))
  | inr high ↦
      let up : 2 ^ (k - 3) ≤ 2 ^ (k - 2) = pow_mono {i = k - 3} {j = k - 2} (omega arith) in
      omega (arith, up, four_each k (omega (arith, high)), cond-false (leb k 7) 7 (3 * 2 ^ (k - 5)) (lt-leb k 7 (omega (arith, high))))
]

-- enough elements for more coupons are enough for fewer
pub elements_mono : (k n m : ℕ) → n ≤ m → elements_for k n ≤ elements_for k m
elements_mono k n m le = elim (cases_Bool (are_few k m)) [
  | inl few ↦ omega (arith, le, cond-true (are_few k m) m (most_elements k) few, cond-true (are_few k n) n (most_elements k) (fewer_few k n m le few))
  | inr many ↦ omega (arith, cond-false (are_few k m) m (most_elements k) many, below)
]
  where
    below : elements_for k n ≤ most_elements k
    below = elim (cases_Bool (are_few k n)) [
      | inl few ↦ omega (arith, cond-true (are_few k n) n (most_elements k) few, few_below k n few)
      | inr many ↦ omega (arith, cond-false (are_few k n) n (most_elements k) many)
    ]

-- there are at least as many elements as coupons in use
pub used_within : (k n room : ℕ) → n ≤ most_used k → elements_for k n ≤ room → n ≤ room
used_within k n room most enough = elim (cases_Bool (are_few k n)) [
  | inl few ↦ omega (arith, enough, cond-true (are_few k n) n (most_elements k) few)
  | inr many ↦ omega (arith, enough, most, cond-false (are_few k n) n (most_elements k) many)
]

-- coupons without a table have room to become registers
pub promotes_within : (k p n m room : ℕ) → IsSize k p → n ≤ m → m ≤ most_used k → elements_for k m ≤ room → stage k p n ≡ None → 2 ^ (k - 2) + n ≤ room
promotes_within k p n m room is le most enough none = elim (cases_Bool (are_few k m)) [
  | inl few ↦ absurd (few_stay k p n is (fewer_few k n m le few) none)
  | inr many ↦ omega (arith, le, most, enough, cond-false (are_few k m) m (most_elements k) many)
]

-- ---- numbers of a header are small

pub size_fits : (k p : ℕ) → k ≤ 21 → IsSize k p → p < 32
size_fits k p most (inl three) = omega (arith, three)
size_fits k p most (inr set) = omega (arith, most, set.1)

pub most_fits : (k n : ℕ) → k ≤ 21 → n ≤ most_used k → n < 2 ^ 32
most_fits k n most within = let up : 2 ^ max 4 (k - 3) ≤ 2 ^ 18 = pow_mono {i = max 4 (k - 3)} {j = 18} (omega (arith, most)) in omega (arith, within, up)

pub none_of : {X : Type 0} (o : Option X) → is_some o ≡ false → o ≡ None
none_of (Some x) e = absurd (true≢false e)
none_of None e = refl

-- a number with a table is less than may be in use
pub some_below : (k p n : ℕ) → is_some (stage k p n) ≡ true → n < most_used k
some_below k p n e = of (stage k p n) refl e
  where
    of : (o : Option ℕ) → stage k p n ≡ o → is_some o ≡ true → n < most_used k
    of (Some q) is t = staged_below k p n q is
    of None is t = absurd (true≢false (sym t))

-- a size of a table that is found is one for this number of coupons
pub staged_table : (k p n q : ℕ) → stage k p n ≡ Some q → IsTableFor k n q
staged_table k p n q e =
    let r = finds (λ q. leb p q && can_hold q n) (sizes k) q e in
    let holds : can_hold q n ≡ true = (and_parts (leb p q) (can_hold q n) r.1).1 in
    let at = at_index (sizes k) q r.0 in
    elim (cases_lt at.0 1) [
      | inl first ↦
          let is : 3 ≡ q = ap (λ i. get_or (sizes k) i 0) (let zero_is : 0 ≡ at.0 = omega (arith, first) in zero_is) ∙ at.2 in
          let seven : leb n 7 ≡ true = ap (λ q. can_hold q n) is ∙ holds in
          inl (sym is, omega (arith, leb-true n 7 seven))
      | inr later ↦
          let i : ℕ = at.0 - 1 in
          let inside : i < k - 7 = omega (arith, later, at.1, length-range_with_len 5 (k - 7)) in
          let is : 5 + i ≡ q = sym (get_or-range_with_len 5 (k - 7) i 0 inside) ∙ ap (λ j. get_or (sizes k) j 0) (let next : suc i ≡ at.0 = omega (arith, later) in next) ∙ at.2 in
          inr (omega (arith, is), omega (arith, is, inside), held_below q n (omega (arith, is)) holds)
    ]

-- room for more coupons is room for fewer
pub room_fewer : (h : Header) (n m room : ℕ) → n ≤ m → HasRoom h m room → HasRoom h n room
room_fewer h n m room le has = of h.held has
  where
    of : (held : Held) → HasRoomFor h.lg_k held m room → HasRoomFor h.lg_k held n room
    of (Coupons c) has = omega (arith, has, elements_mono h.lg_k (c.run.used + n) (c.run.used + m) (omega (arith, le)))
    of (Registers s) has = has

-- at most as many elements are in use in addition to registers as may be
pub used_most : (h : Header) (room : ℕ) → IsWithin h room → used_in h.held ≤ most_used h.lg_k
used_most h room within = of h.held within.held
  where
    of : (held : Held) → IsHeldWithin h.lg_k held room → used_in held ≤ most_used h.lg_k
    of (Coupons c) are = are.used
    of (Registers s) are = omega arith
