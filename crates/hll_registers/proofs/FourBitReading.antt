-- SPDX-License-Identifier: Apache-2.0
-- 4-bit registers as they are read: nibbles above a minimum, and exceptions that agree with them.
use Rattle.std.proofs.Common.{◌≡◌, ℕ, zero, suc, ◌+◌, ◌-◌, ◌*◌, ◌/◌, ◌%◌, ◌^◌, ◌<◌, ◌≤◌, ◌==◌, Bool, true, false, ◌&&◌, List, All, Option, Some, None, length, take, drop, get_or, refl, sym, ap, subst, ◌∙◌, arith, inl, inr}
use Rattle.std.specs.Prelude.{count_by, nat_eq, nat_le, nat_lt}
use Rattle.std.specs.List.{list_all}
use Rattle.std.proofs.lemmas.Bool.{cases_lt, eq-eqb, eqb-true, leb-true, ltb-true, true≢false}
use Rattle.std.proofs.lemmas.List.Sums.{AllPass-from_list_all, list_all-from_AllPass}
use Rattle.std.proofs.lemmas.List.{get_or_default, get_or-drop, get_or-take, length-drop, length-take}
use Rattle.std.proofs.lemmas.List.FromFn.{length-map-range_with_len, get_or-map-range_with_len}
use Rattle.std.proofs.lemmas.Nat.{mod_below, pow_pos}
use Rattle.std.proofs.Math.Nat.{zero-add, zero-div}
use Rattle.hll_coupons.specs.AuxMap.{ExceptionMap}
use Rattle.hll_coupons.proofs.Pairs.{entries_are, of_value}
use Rattle.hll_registers.specs.FourBits.{exception_in, exception_of, unpacked, IsMapFor, IsPacked}
use Rattle.hll_kernels.specs.Packed.{minimum, nibble, nibble_at, zero_nibbles, zeros, AreRegisters}
use Rattle.hll_registers.specs.Payload.{Agrees, register_of}
use Rattle.hll_registers.proofs.FourBits.{count_above, exception_of-high, exception_of-low, minimum_is}
use Rattle.hll_registers.proofs.FourBitChanges.{counted_zeros, packed_least}

-- ---- registers of parts

pub length-unpacked : (k m : ℕ) (bytes : List ℕ) (e : Option ExceptionMap) → length (unpacked k m bytes e) ≡ 2 ^ k
length-unpacked k m bytes e = length-map-range_with_len _ 0 (2 ^ k)

pub unpacked-at : (k m : ℕ) (bytes : List ℕ) (e : Option ExceptionMap) (s : ℕ) → s < 2 ^ k → get_or (unpacked k m bytes e) s 0 ≡ register_of m (nibble_at bytes s) (exception_in e s)
unpacked-at k m bytes e s within = get_or-map-range_with_len (λ s. register_of m (nibble_at bytes s) (exception_in e s)) 0 (2 ^ k) s s 0 within (zero-add s)

-- an exception is at most 63
pub exception_small : (k : ℕ) (e : Option ExceptionMap) → IsMapFor k e → (s v : ℕ) → exception_in e s ≡ Some v → v ≤ 63
exception_small k None u s v is = cc
exception_small k (Some t) (map, lg, some) s v is = of_value t map (λ p. p.1 ≤ 63) (λ i d l. (entries_are t map i d l).most) s v is

-- a nibble and an exception are those of their register
pub record OfRegister (m n : ℕ) (o : Option ℕ) (r : ℕ) : Type 0 where
  pub small : r ≤ 63
  pub least : m ≤ r
  pub nibble_is : n ≡ nibble m r
  pub exception_is : o ≡ exception_of m r

of_register : (m n : ℕ) (o : Option ℕ) → Agrees m n o → ((v : ℕ) → o ≡ Some v → v ≤ 63) → OfRegister m n o (register_of m n o)
of_register m n None agrees small = record {
  small = agrees.1;
  least = omega arith;
  nibble_is = omega (arith, agrees.0);
  exception_is = sym (exception_of-low m (m + n) (omega (arith, agrees.0)));
}
of_register m n (Some v) agrees small = record {
  small = small v refl;
  least = omega (arith, agrees.1);
  nibble_is = omega (arith, agrees.0, agrees.1);
  exception_is = sym (exception_of-high m v agrees.1);
}

-- a slot has an exception, or none
pub agrees_either : (m n : ℕ) (o : Option ℕ) → ((v : ℕ) → o ≡ Some v → Agrees m n (Some v)) → (o ≡ None → Agrees m n None) → Agrees m n o
agrees_either m n None some none = none refl
agrees_either m n (Some v) some none = some v refl

-- packed registers are read as nibble and exception say
pub agrees-packed : (m r : ℕ) → m ≤ r → r ≤ 63 → Agrees m (nibble m r) (exception_of m r) × (register_of m (nibble m r) (exception_of m r) ≡ r)
agrees-packed m r low small = elim (cases_lt r (m + 15)) [
  | inl under ↦
      let none : exception_of m r ≡ None = exception_of-low m r under in
      let n : nibble m r ≡ r - m = omega (arith, under) in
      subst (λ o. Agrees m (nibble m r) o × (register_of m (nibble m r) o ≡ r)) (sym none) ((omega (arith, n, under), omega (arith, n, low, small)), omega (arith, n, low))
  | inr over ↦
      let some : exception_of m r ≡ Some r = exception_of-high m r over in
      let n : nibble m r ≡ 15 = omega (arith, over) in
      subst (λ o. Agrees m (nibble m r) o × (register_of m (nibble m r) o ≡ r)) (sym some) ((n, over), refl)
]

-- ---- blocks

-- the nibbles of a part of bytes
pub nibble_at-drop : (bytes : List ℕ) (n s : ℕ) → 2 * n ≤ s → nibble_at (drop n bytes) (s - 2 * n) ≡ nibble_at bytes s
nibble_at-drop bytes n s from =
    let index : n + (s - 2 * n) / 2 ≡ s / 2 = omega (arith, from) in
    let odd : (s - 2 * n) % 2 ≡ s % 2 = omega (arith, from) in
    (λ i. (get_or-drop n bytes ((s - 2 * n) / 2) 0 ∙ ap (λ j. get_or bytes j 0) index) i / 16 ^ odd i % 16)

pub nibble_at-take : (bytes : List ℕ) (n s : ℕ) → s < 2 * n → nibble_at (take n bytes) s ≡ nibble_at bytes s
nibble_at-take bytes n s l = ap (λ b. b / 16 ^ (s % 2) % 16) (get_or-take n bytes (s / 2) 0 (omega (arith, l)))

-- the nibbles of a block
pub nibble_at-block : (bytes block : List ℕ) (index s : ℕ) → block ≡ take 32 (drop (index * 32) bytes) → 64 * index ≤ s → s < 64 * index + 64 → nibble_at block (s - 64 * index) ≡ nibble_at bytes s
nibble_at-block bytes block index s is from to =
    let same : s - 64 * index ≡ s - 2 * (index * 32) = omega arith in
    ap (λ bs. nibble_at bs (s - 64 * index)) is ∙ nibble_at-take (drop (index * 32) bytes) 32 (s - 64 * index) (omega (arith, from, to))
    ∙ ap (nibble_at (drop (index * 32) bytes)) same ∙ nibble_at-drop bytes (index * 32) s (omega (arith, from))

pub both_true : (a b : Bool) → (a && b) ≡ true → (a ≡ true) × (b ≡ true)
both_true true b h = (refl, h)
both_true false b h = absurd (true≢false (sym h))

-- no register of a block is an exception
pub no_exception_in_block : (m : ℕ) (R block : List ℕ) (index : ℕ) → block ≡ take 64 (drop (index * 64) R) → (index + 1) * 64 ≤ length R →
    list_all (λ v. nat_lt v (m + 15)) block ≡ true → (s : ℕ) → 64 * index ≤ s → s < 64 * (index + 1) → exception_of m (get_or R s 0) ≡ None
no_exception_in_block m R block index is room all s from to =
    let i : ℕ = s - index * 64 in
    let within : i < 64 = omega (arith, from, to) in
    let long : length block ≡ 64 = omega (arith, ap length is, length-take 64 (drop (index * 64) R), length-drop (index * 64) R, room) in
    let register : get_or block i 0 ≡ get_or R s 0 =
    ap (λ ys. get_or ys i 0) is ∙ get_or-take 64 (drop (index * 64) R) i 0 within ∙ get_or-drop (index * 64) R i 0
    ∙ ap (λ n. get_or R n 0) (let e : index * 64 + i ≡ s = omega (arith, from) in e) in
    let below : get_or block i 0 < m + 15 = ltb-true (get_or block i 0) (m + 15) (AllPass-from_list_all (λ v. nat_lt v (m + 15)) block all i 0 (omega (arith, long, within))) in
    exception_of-low m (get_or R s 0) (omega (arith, below, register))

-- no nibble of a block of bytes is greater
pub nibbles_at_most : (bytes block : List ℕ) (index g : ℕ) → block ≡ take 32 (drop (index * 32) bytes) → (index + 1) * 32 ≤ length bytes →
    list_all (λ b. nat_le (b % 16) g && nat_le (b / 16) g) block ≡ true → (s : ℕ) → 64 * index ≤ s → s < 64 * (index + 1) → nibble_at bytes s ≤ g
nibbles_at_most bytes block index g is room all s from to =
    let i : ℕ = s / 2 - index * 32 in
    let within : i < 32 = omega (arith, from, to) in
    let long : length block ≡ 32 = omega (arith, ap length is, length-take 32 (drop (index * 32) bytes), length-drop (index * 32) bytes, room) in
    let byte : get_or block i 0 ≡ get_or bytes (s / 2) 0 =
    ap (λ ys. get_or ys i 0) is ∙ get_or-take 32 (drop (index * 32) bytes) i 0 within ∙ get_or-drop (index * 32) bytes i 0
    ∙ ap (λ n. get_or bytes n 0) (let e : index * 32 + i ≡ s / 2 = omega (arith, from) in e) in
    let parts = both_true _ _ (AllPass-from_list_all (λ b. nat_le (b % 16) g && nat_le (b / 16) g) block all i 0 (omega (arith, long, within))) in
    let low : get_or bytes (s / 2) 0 % 16 ≤ g = omega (arith, leb-true (get_or block i 0 % 16) g parts.0, ap (λ b. b % 16) byte) in
    let high : get_or bytes (s / 2) 0 / 16 ≤ g = omega (arith, leb-true (get_or block i 0 / 16) g parts.1, ap (λ b. b / 16) byte) in
    one (get_or bytes (s / 2) 0) (s % 2) (mod_below s 2 (let some : 0 < 2 = omega arith in some)) low high
  where
    one : (b odd : ℕ) → odd < 2 → b % 16 ≤ g → b / 16 ≤ g → b / 16 ^ odd % 16 ≤ g
    one b zero l low high = omega (arith, low)
    one b (suc zero) l low high = omega (arith, high)
    one b (suc (suc odd)) l low high = absurd (omega (arith, l))

-- ---- parts that agree

pub record AgreeAbove (k m : ℕ) (bytes : List ℕ) (e : Option ExceptionMap) : Type 0 where
  pub size : 2 * length bytes ≡ 2 ^ k
  pub fits : All (λ b. b < 256) bytes
  pub map_for : IsMapFor k e
  pub agree : (s : ℕ) → s < 2 ^ k → Agrees m (nibble_at bytes s) (exception_in e s)

module _ {k m : ℕ} {bytes : List ℕ} {e : Option ExceptionMap} (parts : AgreeAbove k m bytes e) where
  abbrev R : List ℕ
  R = unpacked k m bytes e

  pub at : (s : ℕ) → s < 2 ^ k → OfRegister m (nibble_at bytes s) (exception_in e s) (get_or R s 0)
  at s l = subst (OfRegister m (nibble_at bytes s) (exception_in e s)) (sym (unpacked-at k m bytes e s l))
      (of_register m (nibble_at bytes s) (exception_in e s) (parts.agree s l) (exception_small k e parts.map_for s))

  pub legal : AreRegisters k R
  legal = record {
    size = length-unpacked k m bytes e;
    small = λ i d l. omega (arith, get_or_default R i d 0 l, (at i (omega (arith, l, length-unpacked k m bytes e))).small);
  }

  pub small_minimum : m ≤ 63
  small_minimum = omega (arith, (at 0 (pow_pos k)).least, (at 0 (pow_pos k)).small)

  low : (s : ℕ) → s < 2 ^ k → m ≤ get_or R s 0
  low s l = (at s l).least

  -- each nibble of 0 is a register at the minimum
  counted : zero_nibbles bytes ≡ count_by (λ r. nat_eq r m) R
  counted = counted_zeros k m bytes R legal.size low parts.size parts.fits (λ s l. (at s l).nibble_is)

  -- the number of registers that are 0
  pub zeros_at : m ≡ 0 → zero_nibbles bytes ≡ zeros R
  zeros_at none = counted ∙ ap (λ n. count_by (λ r. nat_eq r n) R) none

  pub zeros_none : 0 < m → zeros R ≡ 0
  zeros_none some = count_above m R some (λ s l. low s (omega (arith, l, legal.size)))

  -- if a nibble is 0, the registers are packed
  pub settled : (count : ℕ) → count ≡ zero_nibbles bytes → 0 < count → IsPacked k m count bytes e R
  settled count are some =
      let nibbles : (s : ℕ) → s < 2 ^ k → nibble_at bytes s ≡ nibble m (get_or R s 0) = λ s l. (at s l).nibble_is in
      let least : m ≡ minimum R = minimum_is m R legal.small (λ s l. low s (omega (arith, l, legal.size))) (omega (arith, some, are, counted)) in
      packed_least k m count bytes e R legal least parts.size parts.fits nibbles parts.map_for (λ s l. (at s l).exception_is) are

  -- each register is 0 if the minimum and each byte are 0
  pub zeros_above : m ≡ 0 → list_all (λ b. b == 0) bytes ≡ true → list_all (λ v. v == 0) R ≡ true
  zeros_above least all = list_all-from_AllPass (λ v. v == 0) R (λ i d l.
      let within : i < 2 ^ k = omega (arith, l, legal.size) in
      let byte : get_or bytes (i / 2) 0 ≡ 0 = eqb-true (get_or bytes (i / 2) 0) 0 (AllPass-from_list_all (λ b. b == 0) bytes all (i / 2) 0 (omega (arith, within, parts.size))) in
      let none : nibble_at bytes i ≡ 0 = ap (λ b. b / 16 ^ (i % 2) % 16) byte ∙ ap (λ q. q % 16) (zero-div (16 ^ (i % 2))) in
      eq-eqb (get_or R i d) 0 (omega (arith, get_or_default R i d 0 l, (at i within).nibble_is, none, least)))

  -- and only then
  none_at : (s : ℕ) → s < 2 ^ k → list_all (λ v. v == 0) R ≡ true → get_or R s 0 ≡ 0
  none_at s l all = eqb-true (get_or R s 0) 0 (AllPass-from_list_all (λ v. v == 0) R all s 0 (omega (arith, l, legal.size)))

  pub least_of_none : list_all (λ v. v == 0) R ≡ true → m ≡ 0
  least_of_none all = omega (arith, low 0 (pow_pos k), none_at 0 (pow_pos k) all)

  pub bytes_of_none : list_all (λ v. v == 0) R ≡ true → list_all (λ b. b == 0) bytes ≡ true
  bytes_of_none all = list_all-from_AllPass (λ b. b == 0) bytes (λ i d l.
      let even : 2 * i / 2 ≡ i = omega arith in
      let odd : (2 * i + 1) / 2 ≡ i = omega arith in
      let first : 2 * i % 2 ≡ 0 = omega arith in
      let second : (2 * i + 1) % 2 ≡ 1 = omega arith in
      let there : 2 * i < 2 ^ k = omega (arith, l, parts.size) in
      let after : 2 * i + 1 < 2 ^ k = omega (arith, l, parts.size) in
      let b : ℕ = get_or bytes i 0 in
      let lower : nibble_at bytes (2 * i) ≡ b % 16 = (λ j. get_or bytes (even j) 0 / 16 ^ first j % 16) ∙ (let e : b / 1 % 16 ≡ b % 16 = omega arith in e) in
      let upper : nibble_at bytes (2 * i + 1) ≡ b / 16 % 16 = λ j. get_or bytes (odd j) 0 / 16 ^ second j % 16 in
      let low_none : b % 16 ≡ 0 = omega (arith, lower, (at (2 * i) there).nibble_is, none_at (2 * i) there all) in
      let high_none : b / 16 % 16 ≡ 0 = omega (arith, upper, (at (2 * i + 1) after).nibble_is, none_at (2 * i + 1) after all) in
      eq-eqb (get_or bytes i d) 0 (omega (arith, get_or_default bytes i d 0 l, low_none, high_none, parts.fits i 0 l)))

-- packed registers agree
pub agree_above : (k m n : ℕ) (bytes : List ℕ) (e : Option ExceptionMap) (R : List ℕ) → IsPacked k m n bytes e R → AgreeAbove k m bytes e
agree_above k m n bytes e R p = record {
  size = p.size;
  fits = p.fits;
  map_for = p.map_for;
  agree = λ s l.
      let r : ℕ = get_or R s 0 in
      let both = agrees-packed m r (p.least s l) (p.registers.small s 0 (omega (arith, l, p.registers.size))) in
      subst (λ n. Agrees m n (exception_in e s)) (sym (p.nibbles s l)) (subst (Agrees m (nibble m r)) (sym (p.excepted s l)) both.0);
}
