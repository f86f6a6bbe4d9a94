-- SPDX-License-Identifier: Apache-2.0
-- 4-bit registers after a slot gets a greater register.
use Rattle.std.proofs.Common.{◌≡◌, ◌≢◌, ℕ, ◌+◌, ◌-◌, ◌*◌, ◌/◌, ◌%◌, ◌^◌, ◌<◌, ◌≤◌, ◌⊎◌, zero, suc, Bool, true, false, eqb, leb, cond, List, [], ◌∷◌, All, Option, Some, None, length, get_or, set, take, refl, sym, ap, subst, ◌∙◌, arith, inl, inr}
use Rattle.std.specs.Prelude.{min, fold, count_by, nat_eq}
use mir.Val.{bool_byte}
use Rattle.std.proofs.lemmas.Bool.{cases_eq, cases_lt, cond-true, cond-false, eq-eqb, le-leb, lt-leb, true≢false, ne_eqb}
use Rattle.std.proofs.lemmas.List.{length-set, get_or-set_same, get_or-set_other, get_or_default}
use Rattle.std.proofs.lemmas.Nat.{pow_pos}
use Rattle.std.proofs.Math.Pow.{pow_mono}
use Rattle.std.proofs.lemmas.List.Sums.{sum_by-cons, sum_by-set}
use Rattle.hll_registers.specs.FourBits.{exception_of, exception_in, kept_above, fallen, unpacked, has_exception, ExceptionsMove, IsMapFor, IsPacked, NibbleRegisters}
use Rattle.hll_kernels.specs.Packed.{lowered_by, nibble, nibble_at, nibble_bytes_above, minimum, count_at_minimum, zero_nibbles, AreRegisters}
use Rattle.hll_registers.proofs.FourBits.{bytes_of_nibbles, exception_of-high, exception_of-low, minimum_is, minimum_of_front, packed_is_of_registers, unpacked_is}
use Rattle.hll_registers.proofs.Packing.{minimum_le}
use Rattle.hll_kernels.proofs.SingleNibbles.{lowered_by-mark, lowered_by-other}
use Rattle.hll_coupons.specs.AuxMap.{ExceptionMap}
use Rattle.hll_coupons.proofs.MapChanges.{IsEntry, entry_of_value}
use Rattle.hll_coupons.proofs.Maps.{slot_below}

-- the register at each slot
pub at_set : (R : List ℕ) (slot v q : ℕ) → slot < length R → get_or (set R slot v) q 0 ≡ cond (eqb q slot) v (get_or R q 0)
at_set R slot v q within = elim (cases_eq q slot) [
  | inl e ↦ ap (λ i. get_or (set R slot v) i 0) e ∙ get_or-set_same R slot v 0 within ∙ sym (cond-true (eqb q slot) v (get_or R q 0) (eq-eqb q slot e))
  | inr other ↦ get_or-set_other R slot q v 0 other ∙ sym (cond-false (eqb q slot) v (get_or R q 0) (ne_eqb q slot other))
]

through : {X : Type 0} (f : ℕ → X) (b : Bool) (x y : ℕ) → cond b (f x) (f y) ≡ f (cond b x y)
through f true x y = refl
through f false x y = refl

pub registers_set : (k : ℕ) (R : List ℕ) (slot v : ℕ) → AreRegisters k R → slot < 2 ^ k → v ≤ 63 → AreRegisters k (set R slot v)
registers_set k R slot v are within small = record {
  size = length-set R slot v ∙ are.size;
  small = λ i d l.
      let inside : i < length R = omega (arith, l, length-set R slot v) in
      let here : get_or (set R slot v) i d ≡ cond (eqb i slot) v (get_or R i 0) = get_or_default (set R slot v) i d 0 l ∙ at_set R slot v i (omega (arith, within, are.size)) in
      subst (λ n. n ≤ 63) (sym here) (either (eqb i slot) (get_or R i 0) (are.small i 0 inside));
}
  where
    either : (b : Bool) (r : ℕ) → r ≤ 63 → cond b v r ≤ 63
    either true r h = small
    either false r h = h

-- the number of registers at m after one gets a value above m: one less, if it was at m
count_set : (m : ℕ) (R : List ℕ) (slot v : ℕ) → slot < length R → m < v → count_by (λ r. eqb r m) (set R slot v) + cond (eqb (get_or R slot 0) m) 1 0 ≡ count_by (λ r. eqb r m) R
count_set m R slot v within above =
    let gone : ◌≡◌ {A = ℕ} (cond (eqb v m) 1 0) 0 = cond-false (eqb v m) 1 0 (ne_eqb v m (λ e. omega (arith, e, above))) in
    omega (arith, sum_by-set (λ r. cond (eqb r m) 1 0) R slot v 0 within, gone)

pub left_over : (m n left : ℕ) (R : List ℕ) (slot v : ℕ) (b : Bool) → slot < length R → m < v → n ≡ count_by (λ r. eqb r m) R → b ≡ eqb (get_or R slot 0) m → left + cond b 1 0 ≡ n → left ≡ count_by (λ r. eqb r m) (set R slot v)
left_over m n left R slot v b within above count e rest =
    let one : ◌≡◌ {A = ℕ} (cond b 1 0) (cond (eqb (get_or R slot 0) m) 1 0) = ap (λ b. cond b 1 0) e in
    omega (arith, count_set m R slot v within above, count, rest, one)

-- ---- slots with an exception

has_exception-high : (m : ℕ) (R : List ℕ) (s : ℕ) → m ≡ minimum R → m + 15 ≤ get_or R s 0 → has_exception R s ≡ true
has_exception-high m R s least high = le-leb (minimum R + 15) (get_or R s 0) (omega (arith, least, high))

has_exception-low : (m : ℕ) (R : List ℕ) (s : ℕ) → m ≡ minimum R → get_or R s 0 < m + 15 → has_exception R s ≡ false
has_exception-low m R s least low = lt-leb (minimum R + 15) (get_or R s 0) (omega (arith, least, low))

true_other : (a b : Bool) → a ≡ true → b ≡ false → a ≢ b
true_other a b t f same = true≢false (sym t ∙ same ∙ f)

false_other : (a b : Bool) → a ≡ false → b ≡ true → a ≢ b
false_other a b f t same = true_other b a t f (sym same)

-- ---- a greater register, where the minimum stays

module _ (k m n : ℕ) (bytes : List ℕ) (e : Option ExceptionMap) (R : List ℕ) (p : IsPacked k m n bytes e R) (slot v : ℕ) (within : slot < 2 ^ k) (more : get_or R slot 0 < v) (most : v ≤ 63) where
  inside : slot < length R
  inside = omega (arith, within, p.registers.size)

  pub above_minimum : m < v
  above_minimum = omega (arith, p.least slot within, more)

  pub raised_packed : (left : ℕ) (new : List ℕ) (e' : Option ExceptionMap) → left ≡ count_by (λ r. eqb r m) (set R slot v) → 0 < left →
      ((q : ℕ) → nibble_at new q ≡ cond (eqb q slot) (nibble m v) (nibble_at bytes q)) → length new ≡ length bytes → All (λ b. b < 256) new →
      IsMapFor k e' → ((q : ℕ) → q < 2 ^ k → exception_in e' q ≡ cond (eqb q slot) (exception_of m v) (exception_in e q)) → IsPacked k m left new e' (set R slot v)
  raised_packed left new e' count some put len fits is excepted = record {
    registers = registers_set k R slot v p.registers within most;
    least = λ q l. subst (λ r. m ≤ r) (sym (at_set R slot v q inside)) (either (eqb q slot) (get_or R q 0) (p.least q l));
    count = count;
    some = some;
    size = omega (arith, p.size, len);
    fits = fits;
    nibbles = λ q l. put q ∙ ap (cond (eqb q slot) (nibble m v)) (p.nibbles q l) ∙ through (nibble m) (eqb q slot) v (get_or R q 0) ∙ ap (nibble m) (sym (at_set R slot v q inside));
    map_for = is;
    excepted = λ q l. excepted q l ∙ ap (cond (eqb q slot) (exception_of m v)) (p.excepted q l) ∙ through (exception_of m) (eqb q slot) v (get_or R q 0) ∙ ap (exception_of m) (sym (at_set R slot v q inside));
  }
    where
      either : (b : Bool) (r : ℕ) → m ≤ r → m ≤ cond b v r
      either true r h = omega (arith, above_minimum)
      either false r h = h

  -- the exceptions are the same if the register is no exception
  pub excepted_low : v < m + 15 → (q : ℕ) → q < 2 ^ k → exception_in e q ≡ cond (eqb q slot) (exception_of m v) (exception_in e q)
  excepted_low low q l = elim (cases_eq q slot) [
    | inl same ↦
        let none : exception_in e q ≡ None = p.excepted q l ∙ exception_of-low m (get_or R q 0) (omega (arith, low, more, ap (λ i. get_or R i 0) same)) in
        none ∙ sym (cond-true (eqb q slot) (exception_of m v) (exception_in e q) (eq-eqb q slot same) ∙ exception_of-low m v low)
    | inr other ↦ sym (cond-false (eqb q slot) (exception_of m v) (exception_in e q) (ne_eqb q slot other))
  ]

  -- if the register is an exception, the set of exceptions changes if the slot had none
  pub raised_moves : 0 < count_by (λ r. eqb r m) (set R slot v) → m + 15 ≤ v → exception_in e slot ≡ None → ExceptionsMove k R (set R slot v)
  raised_moves some high none =
      let before : m ≡ minimum R = minimum_is m R p.registers.small (λ s l. p.least s (omega (arith, l, p.registers.size))) (omega (arith, p.some, p.count)) in
      let legal = registers_set k R slot v p.registers within most in
      let after : m ≡ minimum (set R slot v) = minimum_is m (set R slot v) legal.small (λ q l. subst (λ r. m ≤ r) (sym (at_set R slot v q inside)) (no_less q (omega (arith, l, legal.size)))) some in
      let now = has_exception-high m (set R slot v) slot after (omega (arith, high, get_or-set_same R slot v 0 inside)) in
      record {
        moved = slot;
        moved_within = within;
        moves = false_other (has_exception R slot) (has_exception (set R slot v) slot) (has_exception-low m R slot before (below (cases_lt (get_or R slot 0) (m + 15)))) now;
        left = slot;
        left_within = within;
        leaves = now;
      }
    where
      no_less : (q : ℕ) → q < 2 ^ k → m ≤ cond (eqb q slot) v (get_or R q 0)
      no_less q l = either (eqb q slot)
        where
          either : (b : Bool) → m ≤ cond b v (get_or R q 0)
          either true = omega (arith, above_minimum)
          either false = p.least q l

      below : (get_or R slot 0 < m + 15) ⊎ (m + 15 ≤ get_or R slot 0) → get_or R slot 0 < m + 15
      below (inl l) = l
      below (inr g) = let both : None ≡ Some (get_or R slot 0) = sym none ∙ p.excepted slot within ∙ exception_of-high m (get_or R slot 0) g in cc

-- ---- the least register

-- the count is above 0 if a register is at m
pub count_some : (m : ℕ) (R : List ℕ) (i : ℕ) → i < length R → get_or R i 0 ≡ m → 0 < count_by (λ r. eqb r m) R
count_some m [] i h e = absurd (omega (arith, h))
count_some m (r ∷ R) zero h e = let one : ◌≡◌ {A = ℕ} (cond (eqb r m) 1 0) 1 = cond-true (eqb r m) 1 0 (eq-eqb r m e) in omega (arith, sum_by-cons (λ r. cond (eqb r m) 1 0) r R, one)
count_some m (r ∷ R) (suc i) h e = omega (arith, sum_by-cons (λ r. cond (eqb r m) 1 0) r R, count_some m R i (omega (arith, h)) e)

-- some register is at the minimum
attained_from : (a : ℕ) (R : List ℕ) → (fold min a R ≡ a) ⊎ ((i : ℕ) × (i < length R) × (get_or R i 0 ≡ fold min a R))
attained_from a [] = inl refl
attained_from a (r ∷ R) = elim (attained_from (min a r) R) [
  | inl e ↦ elim (cases_lt r a) [
    | inl less ↦ inr (0, omega arith, let is : min a r ≡ r = omega (arith, less) in sym (e ∙ is))
    | inr more ↦ inl (let is : min a r ≡ a = omega (arith, more) in e ∙ is)
  ]
  | inr f ↦ inr (suc f.0, omega (arith, f.1), f.2)
]

pub attained : (R : List ℕ) → 0 < length R → All (λ r. r ≤ 63) R → (i : ℕ) × (i < length R) × (get_or R i 0 ≡ minimum R)
attained R some small = elim (attained_from 63 R) [
  | inr f ↦ f
  | inl e ↦ (0, some, let low : minimum R ≤ get_or R 0 0 = minimum_le R 0 some in let high : get_or R 0 0 ≤ 63 = small 0 0 some in omega (arith, low, high, e))
]

-- zero nibbles are the registers at the minimum
nibble_zero : (m r : ℕ) → m ≤ r → eqb (nibble m r) 0 ≡ eqb r m
nibble_zero m r low = elim (cases_eq r m) [
  | inl e ↦ eq-eqb (nibble m r) 0 (let z : nibble m r ≡ 0 = omega (arith, e) in z) ∙ sym (eq-eqb r m e)
  | inr other ↦ ne_eqb (nibble m r) 0 (λ z. omega (arith, z, other, low)) ∙ sym (ne_eqb r m other)
]

pub zero_nibbles_are : (m : ℕ) (bytes R : List ℕ) → bytes ≡ nibble_bytes_above m R → (h : ℕ) → length R ≡ 2 * h → ((s : ℕ) → s < length R → m ≤ get_or R s 0) → zero_nibbles (nibble_bytes_above m R) ≡ count_by (λ r. eqb r m) R
zero_nibbles_are m bytes [] e h even low = refl
zero_nibbles_are m bytes (r ∷ []) e h even low = absurd (omega (arith, even))
zero_nibbles_are m bytes (r ∷ q ∷ R) e zero even low = absurd (omega (arith, even))
zero_nibbles_are m bytes (r ∷ q ∷ R) e (suc h) even low =
    let b : ℕ = nibble m r + 16 * nibble m q in
    let first : b % 16 ≡ nibble m r = omega arith in
    let second : b / 16 ≡ nibble m q = omega arith in
    let one : ◌≡◌ {A = ℕ} (cond (eqb (b % 16) 0) 1 0) (cond (eqb r m) 1 0) = ap (λ n. cond (eqb n 0) 1 0) first ∙ ap (λ c. cond c 1 0) (nibble_zero m r (low 0 (omega arith))) in
    let two : ◌≡◌ {A = ℕ} (cond (eqb (b / 16) 0) 1 0) (cond (eqb q m) 1 0) = ap (λ n. cond (eqb n 0) 1 0) second ∙ ap (λ c. cond c 1 0) (nibble_zero m q (low 1 (omega arith))) in
    let rest : zero_nibbles (nibble_bytes_above m R) ≡ count_by (λ r. eqb r m) R = zero_nibbles_are m (nibble_bytes_above m R) R refl h (omega (arith, even)) (λ s l. low (suc (suc s)) (omega (arith, l))) in
    omega (
      arith,
      sum_by-cons (λ b. cond (eqb (b % 16) 0) 1 0) b (nibble_bytes_above m R),
      sum_by-cons (λ b. cond (eqb (b / 16) 0) 1 0) b (nibble_bytes_above m R),
      sum_by-cons (λ r. cond (eqb r m) 1 0) r (q ∷ R),
      sum_by-cons (λ r. cond (eqb r m) 1 0) q R,
      one,
      two,
      rest,
    )

-- the number of zero nibbles is the number of registers at the minimum
pub counted_zeros : (k m : ℕ) (bytes R : List ℕ) → length R ≡ 2 ^ k → ((s : ℕ) → s < 2 ^ k → m ≤ get_or R s 0) → 2 * length bytes ≡ 2 ^ k → All (λ b. b < 256) bytes →
    ((s : ℕ) → s < 2 ^ k → nibble_at bytes s ≡ nibble m (get_or R s 0)) → zero_nibbles bytes ≡ count_by (λ r. eqb r m) R
counted_zeros k m bytes R long low size fits nibbles =
    let bytes_are : bytes ≡ nibble_bytes_above m R = bytes_of_nibbles m bytes R (size ∙ sym long) fits (λ s l. nibbles s (omega (arith, l, long))) in
    ap zero_nibbles bytes_are ∙ zero_nibbles_are m bytes R bytes_are (length bytes) (omega (arith, size, long)) (λ s l. low s (omega (arith, l, long)))

-- parts above the least register are packed
pub packed_least : (k to count : ℕ) (bytes : List ℕ) (e : Option ExceptionMap) (R : List ℕ) → AreRegisters k R → to ≡ minimum R → 2 * length bytes ≡ 2 ^ k → All (λ b. b < 256) bytes →
    ((s : ℕ) → s < 2 ^ k → nibble_at bytes s ≡ nibble to (get_or R s 0)) → IsMapFor k e → ((s : ℕ) → s < 2 ^ k → exception_in e s ≡ exception_of to (get_or R s 0)) → count ≡ zero_nibbles bytes →
    IsPacked k to count bytes e R
packed_least k to count bytes e R legal least size fits nibbles is excepted zeros =
    let low : (s : ℕ) → s < 2 ^ k → to ≤ get_or R s 0 = λ s l. omega (arith, least, minimum_le R s (omega (arith, l, legal.size))) in
    let counted : count ≡ count_by (λ r. eqb r to) R = zeros ∙ counted_zeros k to bytes R legal.size low size fits nibbles in
    let i = attained R (omega (arith, legal.size, pow_pos k)) legal.small in
    record {
      registers = legal;
      least = low;
      count = counted;
      some = omega (arith, counted, count_some to R i.0 i.1 (i.2 ∙ sym least));
      size = size;
      fits = fits;
      nibbles = nibbles;
      map_for = is;
      excepted = excepted;
    }

-- an exception is that of a slot
pub slot_within : (k : ℕ) (e : Option ExceptionMap) → IsMapFor k e → (s w : ℕ) → exception_in e s ≡ Some w → s < 2 ^ k
slot_within k None u s w is = cc
slot_within k (Some t) (map, lg, some) s w is =
    let entry : IsEntry t s w = entry_of_value t map s w is in
    subst (λ n. s < 2 ^ n) lg (subst (λ i. i < 2 ^ t.lg_k) entry.slot (slot_below t map entry.raw_coupon entry.there))

-- ---- a nibble and an exception above a greater minimum

pub fallen_nibble : (m to r : ℕ) → m ≤ to → to ≤ r → fallen to (exception_of m r) (lowered_by (to - m) (nibble m r)) ≡ nibble to r
fallen_nibble m to r rise enough = of (cases_lt r (m + 15))
  where
    kept_or_not : (r < to + 15) ⊎ (to + 15 ≤ r) → cond (leb (to + 15) r) 15 (r - to) ≡ nibble to r
    kept_or_not (inl low) = cond-false (leb (to + 15) r) 15 (r - to) (lt-leb (to + 15) r low) ∙ (let out : r - to ≡ nibble to r = omega (arith, low) in out)
    kept_or_not (inr up) = cond-true (leb (to + 15) r) 15 (r - to) (le-leb (to + 15) r up) ∙ (let out : 15 ≡ nibble to r = omega (arith, up) in out)

    of : (r < m + 15) ⊎ (m + 15 ≤ r) → fallen to (exception_of m r) (lowered_by (to - m) (nibble m r)) ≡ nibble to r
    of (inl under) =
        let n : nibble m r ≡ r - m = omega (arith, under) in
        let fewer : nibble m r ≢ 15 = λ z. omega (arith, z, n, under, rise, enough) in
        ap (λ o. fallen to o (lowered_by (to - m) (nibble m r))) (exception_of-low m r under) ∙ lowered_by-other (to - m) (nibble m r) fewer
        ∙ (let out : nibble m r - (to - m) ≡ nibble to r = omega (arith, under, rise, enough) in out)
    of (inr over) =
        let n : nibble m r ≡ 15 = omega (arith, over) in
        ap (λ o. fallen to o (lowered_by (to - m) (nibble m r))) (exception_of-high m r over) ∙ ap (λ b. cond (leb (to + 15) r) b (r - to)) (lowered_by-mark (to - m) (nibble m r) n) ∙ kept_or_not (cases_lt r (to + 15))

pub kept_exception : (m to r : ℕ) → m ≤ to → kept_above to (exception_of m r) ≡ exception_of to r
kept_exception m to r rise = elim (cases_lt r (m + 15)) [
  | inl under ↦ ap (kept_above to) (exception_of-low m r under) ∙ sym (exception_of-low to r (omega (arith, under, rise)))
  | inr over ↦ ap (kept_above to) (exception_of-high m r over)
]

-- ---- the only register at the minimum rises

-- an exception is the register of another slot
record IsException (k m : ℕ) (R : List ℕ) (slot s w : ℕ) : Type 0 where
  within : s < 2 ^ k
  over : m + 15 ≤ w
  register : get_or R s 0 ≡ w
  other : s ≢ slot

module _ (k m n : ℕ) (bytes : List ℕ) (e : Option ExceptionMap) (R : List ℕ) (p : IsPacked k m n bytes e R) (slot v to : ℕ) (within : slot < 2 ^ k) (more : get_or R slot 0 < v) (most : v ≤ 63)
    (at : get_or R slot 0 ≡ m) (least : to ≡ minimum (set R slot v)) where
  abbrev Q : List ℕ
  Q = set R slot v

  legal : AreRegisters k Q
  legal = registers_set k R slot v p.registers within most

  there : slot < length R
  there = omega (arith, within, p.registers.size)

  elsewhere : (q : ℕ) → q ≢ slot → get_or Q q 0 ≡ get_or R q 0
  elsewhere q other = get_or-set_other R slot q v 0 other

  before : m ≡ minimum R
  before = minimum_is m R p.registers.small (λ s l. p.least s (omega (arith, l, p.registers.size))) (omega (arith, p.some, p.count))

  pub to_le : (q : ℕ) → q < 2 ^ k → to ≤ get_or Q q 0
  to_le q l = omega (arith, least, minimum_le Q q (omega (arith, l, legal.size)))

  pub to_value : to ≤ v
  to_value = omega (arith, to_le slot within, get_or-set_same R slot v 0 there)

  pub from_to : m ≤ to
  from_to =
      let i = attained Q (omega (arith, legal.size, pow_pos k)) legal.small in
      let l : i.0 < 2 ^ k = omega (arith, i.1, legal.size) in
      elim (cases_eq i.0 slot) [
        | inl same ↦ omega (arith, least, i.2, ap (λ j. get_or Q j 0) same, get_or-set_same R slot v 0 there, more, at)
        | inr other ↦ omega (arith, least, i.2, elsewhere i.0 other, p.least i.0 l)
      ]

  -- what a rise requires of the nibbles
  pub high : (q : ℕ) → q < 2 * length bytes → q ≢ slot → (nibble_at bytes q ≡ 15) ⊎ (to - m ≤ nibble_at bytes q)
  high q l other =
      let inside : q < 2 ^ k = omega (arith, l, p.size) in
      let r : ℕ = get_or R q 0 in
      let enough : to ≤ r = omega (arith, to_le q inside, elsewhere q other) in
      elim (cases_lt r (m + 15)) [
        | inl under ↦ inr (let n : nibble m r ≡ r - m = omega (arith, under) in omega (arith, p.nibbles q inside, n, enough))
        | inr over ↦ inl (let n : nibble m r ≡ 15 = omega (arith, over) in p.nibbles q inside ∙ n)
      ]

  -- each exception is the register of another slot
  exception_is : (s w : ℕ) → exception_in e s ≡ Some w → IsException k m R slot s w
  exception_is s w is = elim (cases_lt (get_or R s 0) (m + 15)) [
    | inl under ↦ let none : Some w ≡ None = sym is ∙ p.excepted s there_too ∙ exception_of-low m (get_or R s 0) under in cc
    | inr over ↦
        let both : Some w ≡ Some (get_or R s 0) = sym is ∙ p.excepted s there_too ∙ exception_of-high m (get_or R s 0) over in
        let value : get_or R s 0 ≡ w = cc in
        record { within = there_too; over = omega (arith, over, value); register = value; other = λ same. omega (arith, over, ap (λ i. get_or R i 0) same, at) }
  ]
    where
      there_too : s < 2 ^ k
      there_too = slot_within k e p.map_for s w is

  -- what a rise requires of the exceptions
  no_exception_here : exception_in e slot ≡ None
  no_exception_here = p.excepted slot within ∙ exception_of-low m (get_or R slot 0) (omega (arith, at))

  pub above : (s w : ℕ) → exception_in e s ≡ Some w → to ≤ w
  above s w is =
      let x : IsException k m R slot s w = exception_is s w is in
      omega (arith, to_le s x.within, elsewhere s x.other, x.register)

  -- the nibbles above the new minimum
  pub risen_nibbles : (new : List ℕ) → ((q : ℕ) → q < 2 * length bytes → nibble_at new q ≡ cond (eqb q slot) (nibble to v) (fallen to (exception_in e q) (lowered_by (to - m) (nibble_at bytes q)))) →
      (q : ℕ) → q < 2 ^ k → nibble_at new q ≡ nibble to (get_or Q q 0)
  risen_nibbles new put q l = elim (cases_eq q slot) [
    | inl same ↦
        put q (omega (arith, l, p.size)) ∙ cond-true (eqb q slot) (nibble to v) (fallen to (exception_in e q) (lowered_by (to - m) (nibble_at bytes q))) (eq-eqb q slot same)
        ∙ ap (nibble to) (sym (ap (λ i. get_or Q i 0) same ∙ get_or-set_same R slot v 0 there))
    | inr other ↦
        let r : ℕ = get_or R q 0 in
        let enough : to ≤ r = omega (arith, to_le q l, elsewhere q other) in
        put q (omega (arith, l, p.size)) ∙ cond-false (eqb q slot) (nibble to v) (fallen to (exception_in e q) (lowered_by (to - m) (nibble_at bytes q))) (ne_eqb q slot other)
        ∙ (λ i. fallen to (p.excepted q l i) (lowered_by (to - m) (p.nibbles q l i))) ∙ fallen_nibble m to r from_to enough ∙ ap (nibble to) (sym (elsewhere q other))
  ]

  -- the exceptions above it
  pub excepted_above : (e' : Option ExceptionMap) → ((q : ℕ) → exception_in e' q ≡ cond (eqb q slot) (exception_of to v) (kept_above to (exception_in e q))) → (q : ℕ) → q < 2 ^ k → exception_in e' q ≡ exception_of to (get_or Q q 0)
  excepted_above e' put q l = elim (cases_eq q slot) [
    | inl same ↦
        put q ∙ cond-true (eqb q slot) (exception_of to v) (kept_above to (exception_in e q)) (eq-eqb q slot same)
        ∙ sym (ap (exception_of to) (ap (λ i. get_or Q i 0) same ∙ get_or-set_same R slot v 0 there))
    | inr other ↦
        put q ∙ cond-false (eqb q slot) (exception_of to v) (kept_above to (exception_in e q)) (ne_eqb q slot other) ∙ ap (kept_above to) (p.excepted q l)
        ∙ kept_exception m to (get_or R q 0) from_to ∙ ap (exception_of to) (sym (elsewhere q other))
  ]

  -- a slot whose exception comes or goes
  slot_moved : (to + 15 ≤ v) ⊎ ((s : ℕ) × (w : ℕ) × (exception_in e s ≡ Some w) × (w < to + 15)) → (s : ℕ) × (s < 2 ^ k) × (has_exception R s ≢ has_exception Q s)
  slot_moved (inl high) =
      (slot, within, false_other (has_exception R slot) (has_exception Q slot) (has_exception-low m R slot before (omega (arith, at))) (has_exception-high to Q slot least (omega (arith, high, get_or-set_same R slot v 0 there))))
  slot_moved (inr (s, w, is, low)) =
      let x : IsException k m R slot s w = exception_is s w is in
      (s, x.within, true_other (has_exception R s) (has_exception Q s) (has_exception-high m R s before (omega (arith, x.over, x.register))) (has_exception-low to Q s least (omega (arith, low, elsewhere s x.other, x.register))))

  -- a slot with an exception afterwards
  slot_left : (to + 15 ≤ v) ⊎ ((s : ℕ) × (w : ℕ) × (exception_in e s ≡ Some w) × (to + 15 ≤ w)) → (s : ℕ) × (s < 2 ^ k) × (has_exception Q s ≡ true)
  slot_left (inl high) = (slot, within, has_exception-high to Q slot least (omega (arith, high, get_or-set_same R slot v 0 there)))
  slot_left (inr (s, w, is, high)) =
      let x : IsException k m R slot s w = exception_is s w is in
      (s, x.within, has_exception-high to Q s least (omega (arith, high, elsewhere s x.other, x.register)))

  pub risen_moves : (to + 15 ≤ v) ⊎ ((s : ℕ) × (w : ℕ) × (exception_in e s ≡ Some w) × (w < to + 15)) → (to + 15 ≤ v) ⊎ ((s : ℕ) × (w : ℕ) × (exception_in e s ≡ Some w) × (to + 15 ≤ w)) → ExceptionsMove k R Q
  risen_moves some stays =
      let a = slot_moved some in
      let b = slot_left stays in
      record { moved = a.0; moved_within = a.1; moves = a.2; left = b.0; left_within = b.1; leaves = b.2 }

  pub risen_packed : (count : ℕ) (new : List ℕ) (e' : Option ExceptionMap) → length new ≡ length bytes → All (λ b. b < 256) new → ((q : ℕ) → q < 2 ^ k → nibble_at new q ≡ nibble to (get_or Q q 0)) → IsMapFor k e' →
      ((q : ℕ) → q < 2 ^ k → exception_in e' q ≡ exception_of to (get_or Q q 0)) → count ≡ zero_nibbles new → IsPacked k to count new e' Q
  risen_packed count new e' len fits nibbles is excepted zeros = packed_least k to count new e' Q legal least (omega (arith, p.size, len)) fits nibbles is excepted zeros

-- ---- what contracts ask, of the parts

-- the view of the parts
abbrev pub seen : ℕ → ℕ → List ℕ → Option ExceptionMap → NibbleRegisters
seen k m bytes e = record { lg_k = k; registers = unpacked k m bytes e; exceptions = e }

-- what contracts require for a greater register at a slot
pub record IsGreaterAt (x : NibbleRegisters) (slot v : ℕ) : Type 0 where
  pub within : slot < 2 ^ x.lg_k
  pub more : get_or x.registers slot 0 < v
  pub most : v ≤ 63

-- the minimum stays
pub record IsLeft (x : NibbleRegisters) (slot v left : ℕ) : Type 0 where
  pub left_is : left ≡ count_by (λ r. eqb r (minimum x.registers)) (set x.registers slot v)
  pub some : 0 < left

module _ (k m n : ℕ) (bytes : List ℕ) (e : Option ExceptionMap) (small : k ≤ 21) (p : IsPacked k m n bytes e (unpacked k m bytes e)) (x : NibbleRegisters) (same : seen k m bytes e ≡ x)
    (slot v : ℕ) (ask : IsGreaterAt x slot v) where
  abbrev R : List ℕ
  R = unpacked k m bytes e

  here : IsGreaterAt (seen k m bytes e) slot v
  here = subst (λ x. IsGreaterAt x slot v) (sym same) ask

  least : m ≡ minimum R
  least = (packed_is_of_registers k m n bytes e R small p).minimum_is

  -- the register is no exception
  pub low_packed : (left : ℕ) (new : List ℕ) → IsLeft x slot v left → v < minimum x.registers + 15 → length new ≡ length bytes → All (λ b. b < 256) new →
      ((q : ℕ) → nibble_at new q ≡ cond (eqb q slot) (v - m) (nibble_at bytes q)) → IsPacked k m left new e (set R slot v)
  low_packed left new count low len fits put =
      let l : IsLeft (seen k m bytes e) slot v left = subst (λ x. IsLeft x slot v left) (sym same) count in
      let under : v < m + 15 = omega (arith, subst (λ (x : NibbleRegisters). v < minimum x.registers + 15) (sym same) low, least) in
      let nib : v - m ≡ nibble m v = omega (arith, under) in
      raised_packed k m n bytes e R p slot v here.within here.more here.most left new e (l.left_is ∙ ap (λ m. count_by (λ r. eqb r m) (set R slot v)) (sym least)) l.some
      (λ q. put q ∙ ap (λ n. cond (eqb q slot) n (nibble_at bytes q)) nib) len fits p.map_for (excepted_low k m n bytes e R p slot v here.within here.more here.most under)

  -- the register is an exception
  pub high_packed : (left : ℕ) (new : List ℕ) (e' : Option ExceptionMap) → IsLeft x slot v left → minimum x.registers + 15 ≤ v → length new ≡ length bytes → All (λ b. b < 256) new →
      ((q : ℕ) → nibble_at new q ≡ cond (eqb q slot) 15 (nibble_at bytes q)) → IsMapFor k e' → ((q : ℕ) → exception_in e' q ≡ cond (eqb q slot) (Some v) (exception_in e q)) → IsPacked k m left new e' (set R slot v)
  high_packed left new e' count high len fits put is noted =
      let l : IsLeft (seen k m bytes e) slot v left = subst (λ x. IsLeft x slot v left) (sym same) count in
      let over : m + 15 ≤ v = omega (arith, subst (λ (x : NibbleRegisters). minimum x.registers + 15 ≤ v) (sym same) high, least) in
      let nib : 15 ≡ nibble m v = omega (arith, over) in
      raised_packed k m n bytes e R p slot v here.within here.more here.most left new e' (l.left_is ∙ ap (λ m. count_by (λ r. eqb r m) (set R slot v)) (sym least)) l.some
      (λ q. put q ∙ ap (λ n. cond (eqb q slot) n (nibble_at bytes q)) nib) len fits is
      (λ q b. noted q ∙ ap (λ o. cond (eqb q slot) o (exception_in e q)) (sym (exception_of-high m v over)))

  pub high_moves : (left : ℕ) → IsLeft x slot v left → minimum x.registers + 15 ≤ v → exception_in e slot ≡ None → ExceptionsMove x.lg_k x.registers (set x.registers slot v)
  high_moves left count high none =
      let l : IsLeft (seen k m bytes e) slot v left = subst (λ x. IsLeft x slot v left) (sym same) count in
      let over : m + 15 ≤ v = omega (arith, subst (λ (x : NibbleRegisters). minimum x.registers + 15 ≤ v) (sym same) high, least) in
      let some : 0 < count_by (λ r. eqb r m) (set R slot v) = omega (arith, l.some, l.left_is, ap (λ m. count_by (λ r. eqb r m) (set R slot v)) least) in
      subst (λ (x : NibbleRegisters). ExceptionsMove x.lg_k x.registers (set x.registers slot v)) same (raised_moves k m n bytes e R p slot v here.within here.more here.most some over none)

  -- how many registers stay at the minimum
  pub left_after : (register byte : ℕ) → register ≡ get_or x.registers slot 0 → byte ≡ bool_byte (nat_eq register m) → n - byte ≡ count_by (λ r. eqb r (minimum x.registers)) (set x.registers slot v)
  left_after register byte read is =
      let b : Bool = nat_eq register m in
      let at : register ≡ get_or R slot 0 = read ∙ ap (λ (x : NibbleRegisters). get_or x.registers slot 0) (sym same) in
      let whole : n - byte + cond b 1 0 ≡ n = rest b byte is in
      left_over m n (n - byte) R slot v b (omega (arith, here.within, p.registers.size)) (above_minimum k m n bytes e R p slot v here.within here.more here.most) p.count (ap (λ r. eqb r m) at) whole
      ∙ ap (λ m. count_by (λ r. eqb r m) (set R slot v)) least ∙ ap (λ (x : NibbleRegisters). count_by (λ r. eqb r (minimum x.registers)) (set x.registers slot v)) same
    where
      rest : (b : Bool) (byte : ℕ) → byte ≡ bool_byte b → n - byte + cond b 1 0 ≡ n
      rest true byte is = omega (arith, is, p.some)
      rest false byte is = omega (arith, is)

  -- no register is left at the minimum after the only one there gets a greater value
  pub none_left : get_or x.registers slot 0 ≡ minimum x.registers → count_at_minimum x.registers ≡ 1 → count_by (λ r. eqb r (minimum x.registers)) (set x.registers slot v) ≡ 0
  none_left at only =
      let one : n ≡ 1 = (packed_is_of_registers k m n bytes e R small p).count_is ∙ ap (λ (x : NibbleRegisters). count_at_minimum x.registers) same ∙ only in
      let there : nat_eq (get_or x.registers slot 0) m ≡ true = eq-eqb (get_or x.registers slot 0) m (at ∙ sym (least ∙ ap (λ (x : NibbleRegisters). minimum x.registers) same)) in
      sym (left_after (get_or x.registers slot 0) 1 refl (ap bool_byte (sym there))) ∙ omega (arith, one)

  -- the least of a prefix, if it is one above the minimum and no register is left there
  pub least_of_front : (i : ℕ) → fold min 63 (take i (set x.registers slot v)) ≡ m + 1 → count_by (λ r. eqb r (minimum x.registers)) (set x.registers slot v) ≡ 0 →
      fold min 63 (take i (set x.registers slot v)) ≡ minimum (set x.registers slot v)
  least_of_front i is none =
      let low : (s : ℕ) → s < length (set R slot v) → m ≤ get_or (set R slot v) s 0 = λ s l.
      subst (λ r. m ≤ r) (sym (at_set R slot v s (omega (arith, here.within, p.registers.size)))) (either (eqb s slot) (get_or R s 0) (p.least s (omega (arith, l, length-set R slot v, p.registers.size)))) in
      minimum_of_front m i (set x.registers slot v) is (subst (λ (x : NibbleRegisters). (s : ℕ) → s < length (set x.registers slot v) → m ≤ get_or (set x.registers slot v) s 0) same low)
      (ap (λ m. count_by (λ r. eqb r m) (set x.registers slot v)) (least ∙ ap (λ (x : NibbleRegisters). minimum x.registers) same) ∙ none)
    where
      above : m < v
      above = above_minimum k m n bytes e R p slot v here.within here.more here.most

      either : (b : Bool) (r : ℕ) → m ≤ r → m ≤ cond b v r
      either true r h = omega (arith, above)
      either false r h = h

  -- few bytes hold the nibbles
  pub few_bytes : length bytes ≤ 1048576
  few_bytes = omega (arith, p.size, pow_mono {i = k} {j = 21} small)

  -- then contracts see the registers after the change
  pub registers_after : (m' left : ℕ) (new : List ℕ) (e' : Option ExceptionMap) → IsPacked k m' left new e' (set R slot v) → unpacked k m' new e' ≡ set x.registers slot v
  registers_after m' left new e' q = unpacked_is k m' left new e' (set R slot v) small q ∙ ap (λ (x : NibbleRegisters). set x.registers slot v) same

-- the register at the minimum rises, and this is the new minimum
pub record IsRise (x : NibbleRegisters) (slot v to : ℕ) : Type 0 where
  pub at : get_or x.registers slot 0 ≡ minimum x.registers
  pub least : to ≡ minimum (set x.registers slot v)

module _ (k m n : ℕ) (bytes : List ℕ) (e : Option ExceptionMap) (small : k ≤ 21) (p : IsPacked k m n bytes e (unpacked k m bytes e)) (x : NibbleRegisters) (same : seen k m bytes e ≡ x)
    (slot v to : ℕ) (ask : IsGreaterAt x slot v) (rise : IsRise x slot v to) where
  abbrev S : List ℕ
  S = unpacked k m bytes e

  asked : IsGreaterAt (seen k m bytes e) slot v
  asked = subst (λ x. IsGreaterAt x slot v) (sym same) ask

  now : IsRise (seen k m bytes e) slot v to
  now = subst (λ x. IsRise x slot v to) (sym same) rise

  seated : get_or S slot 0 ≡ m
  seated = now.at ∙ sym (packed_is_of_registers k m n bytes e S small p).minimum_is

  pub rise_from : m ≤ to
  rise_from = from_to k m n bytes e S p slot v to asked.within asked.more asked.most seated now.least

  pub rise_value : to ≤ v
  rise_value = to_value k m n bytes e S p slot v to asked.within asked.more asked.most seated now.least

  pub rise_high : (borrowed : List ℕ) → borrowed ≡ bytes → (q : ℕ) → q < 2 * length borrowed → q ≢ slot → (nibble_at borrowed q ≡ 15) ⊎ (to - m ≤ nibble_at borrowed q)
  rise_high borrowed is q l other =
      subst (λ bs. (nibble_at bs q ≡ 15) ⊎ (to - m ≤ nibble_at bs q)) (sym is)
      (high k m n bytes e S p slot v to asked.within asked.more asked.most seated now.least q (omega (arith, l, ap length is)) other)

  pub rise_above : (s w : ℕ) → exception_in e s ≡ Some w → to ≤ w
  rise_above = above k m n bytes e S p slot v to asked.within asked.more asked.most seated now.least

  pub rise_none : exception_in e slot ≡ None
  rise_none = no_exception_here k m n bytes e S p slot v to asked.within asked.more asked.most seated now.least

  pub rise_moves : (to + 15 ≤ v) ⊎ ((s : ℕ) × (w : ℕ) × (exception_in e s ≡ Some w) × (w < to + 15)) → (to + 15 ≤ v) ⊎ ((s : ℕ) × (w : ℕ) × (exception_in e s ≡ Some w) × (to + 15 ≤ w)) →
      ExceptionsMove x.lg_k x.registers (set x.registers slot v)
  rise_moves some stays =
      subst (λ (x : NibbleRegisters). ExceptionsMove x.lg_k x.registers (set x.registers slot v)) same
      (risen_moves k m n bytes e S p slot v to asked.within asked.more asked.most seated now.least some stays)

  -- with the exceptions above it
  module _ (count : ℕ) (borrowed new : List ℕ) (is : borrowed ≡ bytes) (len : length new ≡ length borrowed) (fits : All (λ b. b < 256) new)
      (put : (q : ℕ) → q < 2 * length borrowed → nibble_at new q ≡ cond (eqb q slot) (nibble to v) (fallen to (exception_in e q) (lowered_by (to - m) (nibble_at borrowed q)))) (zeros : count ≡ zero_nibbles new) where
    nibbles : (q : ℕ) → q < 2 ^ k → nibble_at new q ≡ nibble to (get_or (set S slot v) q 0)
    nibbles = risen_nibbles k m n bytes e S p slot v to asked.within asked.more asked.most seated now.least new
        (subst (λ bs. (q : ℕ) → q < 2 * length bs → nibble_at new q ≡ cond (eqb q slot) (nibble to v) (fallen to (exception_in e q) (lowered_by (to - m) (nibble_at bs q)))) is put)

    pub rise_packed : (e' : Option ExceptionMap) → IsMapFor k e' → ((q : ℕ) → exception_in e' q ≡ cond (eqb q slot) (exception_of to v) (kept_above to (exception_in e q))) → IsPacked k to count new e' (set S slot v)
    rise_packed e' map noted = risen_packed k m n bytes e S p slot v to asked.within asked.more asked.most seated now.least count new e' (len ∙ ap length is) fits nibbles map
        (excepted_above k m n bytes e S p slot v to asked.within asked.more asked.most seated now.least e' noted) zeros

-- if all exceptions stay above the new minimum, they are the exceptions after the rise
pub stays_above : (e : Option ExceptionMap) (slot v to : ℕ) → exception_in e slot ≡ None → v < to + 15 → ((s w : ℕ) → exception_in e s ≡ Some w → to + 15 ≤ w) →
    (q : ℕ) → exception_in e q ≡ cond (eqb q slot) (exception_of to v) (kept_above to (exception_in e q))
stays_above e slot v to none low all q = elim (cases_eq q slot) [
  | inl same ↦ ap (exception_in e) same ∙ none ∙ sym (cond-true (eqb q slot) (exception_of to v) (kept_above to (exception_in e q)) (eq-eqb q slot same) ∙ exception_of-low to v low)
  | inr other ↦ kept (exception_in e q) refl ∙ sym (cond-false (eqb q slot) (exception_of to v) (kept_above to (exception_in e q)) (ne_eqb q slot other))
]
  where
    kept : (o : Option ℕ) → exception_in e q ≡ o → o ≡ kept_above to o
    kept None is = refl
    kept (Some w) is = sym (exception_of-high to w (all q w is))
