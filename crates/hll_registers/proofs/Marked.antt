-- SPDX-License-Identifier: Apache-2.0
-- Nibbles of 15 and exceptions: if each exception has such a nibble, and there are equally many of both, no other nibble is 15.
use Rattle.std.proofs.Common.{◌≡◌, ◌≢◌, ℕ, zero, suc, ◌+◌, ◌*◌, ◌/◌, ◌%◌, ◌^◌, ◌<◌, ◌≤◌, ◌==◌, ◌⊎◌, ◌&&◌, Bool, true, false, cond, List, [], ◌∷◌, All, Option, Some, None, length, map, get_or, refl, sym, ap, subst, ◌∙◌, arith, inl, inr}
use Rattle.std.specs.Prelude.{nat_le}
use Rattle.std.specs.List.{list_all}
use Rattle.std.specs.FinSet.{contains, len, len-empty}
use Rattle.std.specs.Ordering.{nat_cmp, eq_by_cmp}
use Rattle.std.proofs.lemmas.Bool.{cases_Bool, eq-eqb, eqb-true, leb-true, le-leb, or_cases, true≢false}
use Rattle.std.proofs.lemmas.List.{get_or_default}
use Rattle.std.proofs.lemmas.List.Elements.{All-tail}
use Rattle.std.proofs.lemmas.List.Sums.{AllPass-from_list_all, list_all-from_AllPass, sum_by-cons}
use Rattle.hll_coupons.specs.AuxMap.{ExceptionMap}
use Rattle.hll_coupons.specs.Pair.{set_of, slot_of, value_of}
use Rattle.hll_coupons.specs.Table.{coupons_in}
use Rattle.hll_coupons.proofs.Greatest.{same_raw_coupon}
use Rattle.hll_coupons.proofs.Listed.{has, contains-has, has-head, has-map, has-tail, has-from_map, From}
use Rattle.hll_coupons.proofs.MapChanges.{IsEntry, entry_of_value}
use Rattle.hll_coupons.proofs.Maps.{distinct_slots, value_found}
use Rattle.hll_coupons.proofs.Members.{len-between}
use Rattle.hll_coupons.proofs.Sizes.{len-part}
use Rattle.hll_kernels.specs.Packed.{nibble_at, mark_nibbles}
use Rattle.hll_kernels.proofs.SingleNibbles.{nibble_at-high, nibble_at-low, nibble_at-small, nibble_at-tail}
use Rattle.hll_registers.specs.FourBits.{exception_in, exceptions_in, IsMapFor}
use Rattle.hll_registers.specs.Payload.{Agrees}
use Rattle.hll_registers.proofs.FourBitChanges.{slot_within}
use Rattle.hll_registers.proofs.FourBitReading.{agrees_either, both_true, exception_small}

-- ---- the slots of nibbles of 15

abbrev put : Bool → ℕ → List ℕ → List ℕ
put true s xs = s ∷ xs
put false s xs = xs

-- the slots of nibbles of 15 in bytes whose first slot is s
abbrev marked : ℕ → List ℕ → List ℕ
marked s [] = []
marked s (b ∷ bs) = put (b % 16 == 15) s (put (b / 16 == 15) (s + 1) (marked (s + 2) bs))

from_put : (t : Bool) (s q : ℕ) (xs : List ℕ) → has q (put t s xs) ≡ true → ((t ≡ true) × (q ≡ s)) ⊎ (has q xs ≡ true)
from_put true s q xs h = elim (or_cases (eq_by_cmp nat_cmp q s) (has q xs) h) [ inl e ↦ inl (refl, same_raw_coupon q s e) | inr l ↦ inr l ]
from_put false s q xs h = inr h

put_here : (t : Bool) (s : ℕ) (xs : List ℕ) → t ≡ true → has s (put t s xs) ≡ true
put_here true s xs h = has-head s xs
put_here false s xs h = absurd (true≢false (sym h))

put_there : (t : Bool) (s q : ℕ) (xs : List ℕ) → has q xs ≡ true → has q (put t s xs) ≡ true
put_there true s q xs h = has-tail q s xs h
put_there false s q xs h = h

lacks : (xs : List ℕ) (s : ℕ) → (has s xs ≡ true → ⊥) → contains (set_of xs) s ≡ false
lacks xs s h = contains-has xs s ∙ elim (cases_Bool (has s xs)) [ inl t ↦ absurd (h t) | inr f ↦ f ]

len-put : (t : Bool) (s : ℕ) (xs : List ℕ) → (has s xs ≡ true → ⊥) → len (set_of (put t s xs)) ≡ cond t 1 0 + len (set_of xs)
len-put true s xs fresh = omega (arith, len-between [] xs s (lacks xs s fresh))
len-put false s xs fresh = omega arith

not_below : (s q : ℕ) (bs : List ℕ) → has q (marked s bs) ≡ true → s ≤ q
not_below s q [] h = absurd (true≢false (sym h))
not_below s q (b ∷ bs) h = elim (from_put (b % 16 == 15) s q (put (b / 16 == 15) (s + 1) (marked (s + 2) bs)) h) [
  | inl low ↦ omega (arith, low.1)
  | inr other ↦ elim (from_put (b / 16 == 15) (s + 1) q (marked (s + 2) bs) other) [
    | inl high ↦ omega (arith, high.1)
    | inr rest ↦ omega (arith, not_below (s + 2) q bs rest)
  ]
]

-- their number is the number of nibbles of 15
len-marked : (s : ℕ) (bs : List ℕ) → len (set_of (marked s bs)) ≡ mark_nibbles bs
len-marked s [] = len-empty nat_cmp
len-marked s (b ∷ bs) =
    let rest : List ℕ = marked (s + 2) bs in
    let second : List ℕ = put (b / 16 == 15) (s + 1) rest in
    let high : len (set_of second) ≡ cond (b / 16 == 15) 1 0 + len (set_of rest) = len-put (b / 16 == 15) (s + 1) rest (λ h. omega (arith, not_below (s + 2) (s + 1) bs h)) in
    let low : len (set_of (put (b % 16 == 15) s second)) ≡ cond (b % 16 == 15) 1 0 + len (set_of second) = len-put (b % 16 == 15) s second (λ h.
    elim (from_put (b / 16 == 15) (s + 1) s rest h) [ inl at ↦ omega (arith, at.1) | inr after ↦ omega (arith, not_below (s + 2) s bs after) ]) in
    omega (arith, low, high, len-marked (s + 2) bs, sum_by-cons (λ b. cond (b % 16 == 15) 1 0) b bs, sum_by-cons (λ b. cond (b / 16 == 15) 1 0) b bs)

-- the slot of each nibble of 15 is among them
has-marked : (s q : ℕ) (bs : List ℕ) → All (λ b. b < 256) bs → q < 2 * length bs → nibble_at bs q ≡ 15 → has (s + q) (marked s bs) ≡ true
has-marked s q [] fits l mark = absurd (omega (arith, l))
has-marked s zero (b ∷ bs) fits l mark =
    let at : s ≡ s + 0 = omega arith in
    ap (λ n. has n (marked s (b ∷ bs))) (sym at) ∙ put_here (b % 16 == 15) s _ (eq-eqb (b % 16) 15 (sym (nibble_at-low b bs) ∙ mark))
has-marked s (suc zero) (b ∷ bs) fits l mark =
    put_there (b % 16 == 15) s (s + 1) _ (put_here (b / 16 == 15) (s + 1) _ (eq-eqb (b / 16) 15 (sym (nibble_at-high b bs (fits 0 0 (omega arith))) ∙ mark)))
has-marked s (suc (suc q)) (b ∷ bs) fits l mark =
    let at : s + 2 + q ≡ s + suc (suc q) = omega arith in
    let there : has (s + 2 + q) (marked (s + 2) bs) ≡ true = has-marked (s + 2) q bs (All-tail (λ b. b < 256) b bs fits) (omega (arith, l)) (sym (nibble_at-tail b bs q) ∙ mark) in
    put_there (b % 16 == 15) s (s + suc (suc q)) _ (put_there (b / 16 == 15) (s + 1) (s + suc (suc q)) (marked (s + 2) bs) (ap (λ n. has n (marked (s + 2) bs)) (sym at) ∙ there))

record IsMarked (s q : ℕ) (bs : List ℕ) : Type 0 where
  index : ℕ
  is : q ≡ s + index
  within : index < 2 * length bs
  mark : nibble_at bs index ≡ 15

from_marked : (s q : ℕ) (bs : List ℕ) → All (λ b. b < 256) bs → has q (marked s bs) ≡ true → IsMarked s q bs
from_marked s q [] fits h = absurd (true≢false (sym h))
from_marked s q (b ∷ bs) fits h = elim (from_put (b % 16 == 15) s q (put (b / 16 == 15) (s + 1) (marked (s + 2) bs)) h) [
  | inl low ↦ record { index = 0; is = omega (arith, low.1); within = omega arith; mark = nibble_at-low b bs ∙ eqb-true (b % 16) 15 low.0 }
  | inr other ↦ elim (from_put (b / 16 == 15) (s + 1) q (marked (s + 2) bs) other) [
    | inl high ↦ record { index = 1; is = high.1; within = omega arith; mark = nibble_at-high b bs (fits 0 0 (omega arith)) ∙ eqb-true (b / 16) 15 high.0 }
    | inr rest ↦
        let r : IsMarked (s + 2) q bs = from_marked (s + 2) q bs (All-tail (λ b. b < 256) b bs fits) rest in
        record { index = suc (suc r.index); is = omega (arith, r.is); within = omega (arith, r.within); mark = nibble_at-tail b bs r.index ∙ r.mark }
  ]
]

-- ---- the slots of exceptions

abbrev slots_in : Option ExceptionMap → List ℕ
slots_in None = []
slots_in (Some t) = map slot_of (coupons_in t.table.buckets)

len-slots : (k : ℕ) (e : Option ExceptionMap) → IsMapFor k e → len (set_of (slots_in e)) ≡ len (exceptions_in e)
len-slots k None is = refl
len-slots k (Some t) (legal, lg, some) = distinct_slots t.table legal.table legal.probed ∙ sym legal.table.distinct

from_slots : (k : ℕ) (e : Option ExceptionMap) → IsMapFor k e → (q : ℕ) → has q (slots_in e) ≡ true → (v : ℕ) × (exception_in e q ≡ Some v)
from_slots k None is q h = absurd (true≢false (sym h))
from_slots k (Some t) (legal, lg, some) q h =
    let r : From slot_of (coupons_in t.table.buckets) q = has-from_map slot_of (coupons_in t.table.buckets) q h in
    (value_of r.member, ap (exception_in (Some t)) r.is ∙ value_found t legal r.member r.there)

has-slot : (k : ℕ) (e : Option ExceptionMap) → IsMapFor k e → (q v : ℕ) → exception_in e q ≡ Some v → has q (slots_in e) ≡ true
has-slot k None is q v at = cc
has-slot k (Some t) (legal, lg, some) q v at =
    let entry : IsEntry t q v = entry_of_value t legal q v at in
    ap (λ n. has n (slots_in (Some t))) (sym entry.slot) ∙ has-map slot_of (coupons_in t.table.buckets) entry.raw_coupon entry.there

-- ---- equal numbers of nibbles of 15 and exceptions

module _ (k : ℕ) (bytes : List ℕ) (size : 2 * length bytes ≡ 2 ^ k) (fits : All (λ b. b < 256) bytes) where
  has_at : (s : ℕ) → s < 2 ^ k → nibble_at bytes s ≡ 15 → has s (marked 0 bytes) ≡ true
  has_at s l mark =
      let at : s ≡ 0 + s = omega arith in
      ap (λ n. has n (marked 0 bytes)) at ∙ has-marked 0 s bytes fits (omega (arith, l, size)) mark

  -- exceptions, and the list of their slots
  module _ (x : ℕ → Option ℕ) (S : List ℕ) (from : (q : ℕ) → has q S ≡ true → (v : ℕ) × (x q ≡ Some v)) (within : (q v : ℕ) → x q ≡ Some v → q < 2 ^ k) where
    -- if each exception has such a nibble, no other slot has one
    no_other : mark_nibbles bytes ≡ len (set_of S) → ((s v : ℕ) → x s ≡ Some v → nibble_at bytes s ≡ 15) → (s : ℕ) → s < 2 ^ k → x s ≡ None → nibble_at bytes s ≡ 15 → ⊥
    no_other many each s l none mark =
        let new : has s S ≡ true → ⊥ = λ h. let y = from s h in let both : Some y.0 ≡ None = sym y.1 ∙ none in cc in
        let more : len (set_of (s ∷ S)) ≡ len (set_of S) + 1 = len-between [] S s (lacks S s new) in
        let part : len (set_of (s ∷ S)) ≤ len (set_of (marked 0 bytes)) = len-part (s ∷ S) (set_of (marked 0 bytes)) (λ q h.
        contains-has (marked 0 bytes) q ∙ elim (or_cases (eq_by_cmp nat_cmp q s) (has q S) (sym (contains-has (s ∷ S) q) ∙ h)) [
          | inl here ↦ ap (λ n. has n (marked 0 bytes)) (same_raw_coupon q s here) ∙ has_at s l mark
          | inr other ↦ let y = from q other in has_at q (within q y.0 y.1) (each q y.0 y.1)
        ]) in
        omega (arith, more, part, len-marked 0 bytes, many)

    -- then they agree at each slot
    pub agree_each : (m : ℕ) → mark_nibbles bytes ≡ len (set_of S) → ((s : ℕ) → s < 2 * length bytes → nibble_at bytes s < 15 → m + nibble_at bytes s ≤ 63) →
        ((s v : ℕ) → x s ≡ Some v → Agrees m (nibble_at bytes s) (Some v)) → (s : ℕ) → s < 2 ^ k → Agrees m (nibble_at bytes s) (x s)
    agree_each m many plain each s l = agrees_either m (nibble_at bytes s) (x s) (each s) (λ none.
        let other : nibble_at bytes s ≢ 15 = no_other many (λ q v at. (each q v at).0) s l none in
        let below : nibble_at bytes s < 15 = omega (arith, other, nibble_at-small bytes s) in
        (below, plain s (omega (arith, l, size)) below))

module _ (k : ℕ) (bytes : List ℕ) (e : Option ExceptionMap) (size : 2 * length bytes ≡ 2 ^ k) (fits : All (λ b. b < 256) bytes) (is : IsMapFor k e) where
  -- if nibbles and exceptions agree, there are equally many
  pub as_many : (m : ℕ) → ((s : ℕ) → s < 2 ^ k → Agrees m (nibble_at bytes s) (exception_in e s)) → mark_nibbles bytes ≡ len (exceptions_in e)
  as_many m agree =
      let S : List ℕ = slots_in e in
      let M : List ℕ = marked 0 bytes in
      let few : len (set_of M) ≤ len (set_of S) = len-part M (set_of S) (λ q h.
      let r : IsMarked 0 q bytes = from_marked 0 q bytes fits (sym (contains-has M q) ∙ h) in
      let at : r.index ≡ q = omega (arith, r.is) in
      contains-has S q ∙ excepted q (exception_in e q) refl (agree q (omega (arith, at, r.within, size))) (ap (nibble_at bytes) (sym at) ∙ r.mark)) in
      let all : len (set_of S) ≤ len (set_of M) = len-part S (set_of M) (λ q h.
      let x = from_slots k e is q (sym (contains-has S q) ∙ h) in
      let l : q < 2 ^ k = slot_within k e is q x.0 x.1 in
      let here : Agrees m (nibble_at bytes q) (Some x.0) = subst (Agrees m (nibble_at bytes q)) x.1 (agree q l) in
      contains-has M q ∙ has_at k bytes size fits q l here.0) in
      omega (arith, few, all, len-marked 0 bytes, len-slots k e is)
    where
      excepted : (q : ℕ) (o : Option ℕ) → exception_in e q ≡ o → Agrees m (nibble_at bytes q) o → nibble_at bytes q ≡ 15 → has q (slots_in e) ≡ true
      excepted q None at here mark = absurd (omega (arith, here.0, mark))
      excepted q (Some v) at here mark = has-slot k e is q v at

  -- then they agree at each slot
  pub agree_all : (m : ℕ) → mark_nibbles bytes ≡ len (exceptions_in e) → ((s : ℕ) → s < 2 * length bytes → nibble_at bytes s < 15 → m + nibble_at bytes s ≤ 63) →
      ((s v : ℕ) → exception_in e s ≡ Some v → Agrees m (nibble_at bytes s) (Some v)) → (s : ℕ) → s < 2 ^ k → Agrees m (nibble_at bytes s) (exception_in e s)
  agree_all m many plain each = agree_each k bytes size fits (exception_in e) (slots_in e) (from_slots k e is) (slot_within k e is) m (many ∙ sym (len-slots k e is)) plain each

  -- above a minimum of 48 no exception agrees
  pub none_above : (m : ℕ) → 48 < m → ((s : ℕ) → s < 2 ^ k → Agrees m (nibble_at bytes s) (exception_in e s)) → (s : ℕ) → s < 2 * length bytes → m + nibble_at bytes s ≤ 63
  none_above m high agree s l = at (exception_in e s) refl (agree s (omega (arith, l, size)))
    where
      at : (o : Option ℕ) → exception_in e s ≡ o → Agrees m (nibble_at bytes s) o → m + nibble_at bytes s ≤ 63
      at None same here = here.1
      at (Some v) same here = absurd (omega (arith, here.1, exception_small k e is s v same, high))

-- ---- a bound of all nibbles

both_pass : (a b : Bool) → a ≡ true → b ≡ true → (a && b) ≡ true
both_pass true b h i = i
both_pass false b h i = absurd (true≢false (sym h))

module _ (bytes : List ℕ) (g : ℕ) where
  pub nibbles_below : list_all (λ b. nat_le (b % 16) g && nat_le (b / 16) g) bytes ≡ true → (s : ℕ) → s < 2 * length bytes → nibble_at bytes s ≤ g
  nibbles_below all s l =
      let b : ℕ = get_or bytes (s / 2) 0 in
      let parts = both_true _ _ (AllPass-from_list_all (λ b. nat_le (b % 16) g && nat_le (b / 16) g) bytes all (s / 2) 0 (omega (arith, l))) in
      one b (s % 2) (omega arith) (leb-true (b % 16) g parts.0) (leb-true (b / 16) g parts.1)
    where
      one : (b odd : ℕ) → odd < 2 → b % 16 ≤ g → b / 16 ≤ g → b / 16 ^ odd % 16 ≤ g
      one b zero l low high = omega (arith, low)
      one b (suc zero) l low high = omega (arith, high)
      one b (suc (suc odd)) l low high = absurd (omega (arith, l))

  pub all_below : All (λ b. b < 256) bytes → ((s : ℕ) → s < 2 * length bytes → nibble_at bytes s ≤ g) → list_all (λ b. nat_le (b % 16) g && nat_le (b / 16) g) bytes ≡ true
  all_below fits each = list_all-from_AllPass (λ b. nat_le (b % 16) g && nat_le (b / 16) g) bytes (λ i d l.
      let b : ℕ = get_or bytes i 0 in
      let byte : b < 256 = fits i 0 l in
      let low : b % 16 ≤ g = omega (arith, each (2 * i) (omega (arith, l)), low_nibble i) in
      let high : b / 16 ≤ g = omega (arith, each (2 * i + 1) (omega (arith, l)), high_nibble i, byte) in
      ap (λ b. nat_le (b % 16) g && nat_le (b / 16) g) (get_or_default bytes i d 0 l) ∙ both_pass _ _ (le-leb (b % 16) g low) (le-leb (b / 16) g high))
    where
      low_nibble : (p : ℕ) → nibble_at bytes (2 * p) ≡ get_or bytes p 0 % 16
      low_nibble p =
          let half : 2 * p / 2 ≡ p = omega arith in
          let even : 2 * p % 2 ≡ 0 = omega arith in
          (λ i. get_or bytes (half i) 0 / 16 ^ even i % 16) ∙ omega arith

      high_nibble : (p : ℕ) → nibble_at bytes (2 * p + 1) ≡ get_or bytes p 0 / 16 % 16
      high_nibble p =
          let half : (2 * p + 1) / 2 ≡ p = omega arith in
          let odd : (2 * p + 1) % 2 ≡ 1 = omega arith in
          (λ i. get_or bytes (half i) 0 / 16 ^ odd i % 16) ∙ omega arith
