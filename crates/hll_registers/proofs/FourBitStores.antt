-- SPDX-License-Identifier: Apache-2.0
-- 4-bit registers as a store: their size, equality and image.
use Rattle.std.proofs.Common.{◌≡◌, ◌≢◌, ℕ, ◌+◌, ◌-◌, ◌*◌, ◌/◌, ◌%◌, ◌^◌, ◌<◌, ◌≤◌, zero, suc, All, take, drop, Bool, true, false, eqb, cond, List, [], ◌∷◌, ◌++◌, Option, None, length, get_or, refl, sym, ap, subst, ◌∙◌, arith, inl, inr, append_assoc}
use Rattle.std.specs.Prelude.{nat_eq, filter, count_by, max, unwrap_or}
use Rattle.std.specs.Ordering.{nat_cmp}
use Rattle.std.specs.Cmp.{nat_cmp_total, both_ways}
use Rattle.std.specs.Cmp.Lexicographic.{pointwise}
use Rattle.std.specs.FinSet.{contains, len, len-empty, len-insert}
use lib.Pointwise.{bytes_decides}
use Rattle.std.proofs.lemmas.Bool.{cases_Bool, cases_lt}
use Rattle.std.proofs.lemmas.List.{ext_get_or, get_or-drop, get_or-take, length-drop, length-take-le}
use Rattle.std.proofs.lemmas.List.Elements.{All-drop, All-tail, All-take}
use Rattle.std.proofs.lemmas.Nat.{pow_pos}
use Rattle.std.proofs.Math.Nat.{pow-suc}
use Rattle.hll_coupons.specs.AuxMap.{table_bytes, ExceptionMap}
use Rattle.hll_coupons.specs.Coupons.{coupon_bytes, mode_byte, WritesAscending}
use Rattle.hll_base.specs.Join.{join}
use Rattle.hll_coupons.specs.Fold.{raw_coupons_from}
use Rattle.hll_coupons.specs.Pair.{pair, set_of, slot_of}
use Rattle.hll_base.specs.declared.hll_type.HllType.TheVariants.{Hll4}
use Rattle.hll_coupons.proofs.Ascending.{len-ascending}
use Rattle.hll_coupons.proofs.Listed.{has, contains-has}
use Rattle.hll_coupons.proofs.Registers.{StandsFor, in_raw_coupons, slot_of-pair}
use Rattle.hll_registers.specs.FourBits.{exception_in, exception_of, exceptions_in, unpacked, IsMapFor, IsPacked, IsOfRegisters}
use Rattle.hll_registers.specs.Exceptions.{exceptions}
use Rattle.hll_kernels.proofs.FourBitLanes.{length-nibble_values}
use Rattle.hll_kernels.specs.Packed.{minimum, count_at_minimum, nibble, nibble_at, nibble_bytes, nibble_bytes_above, zero_nibbles}
use Rattle.hll_registers.specs.Store.{size_in_registers}
use Rattle.hll_registers.specs.Payload.{flag_of, number_bytes, register_of, WritesRegisters}
use Rattle.hll_coupons.specs.AuxMap.{entry_at}
use Rattle.hll_registers.specs.declared.estimate_state.EstimateState.{EstimateState}
use Rattle.hll_registers.proofs.Exceptions.{kept}
use Rattle.hll_registers.proofs.FourBits.{exception_of-high, exception_of-low, packed_is_of_registers}
use Rattle.hll_registers.proofs.FourBitChanges.{attained, count_some, zero_nibbles_are}
use Rattle.hll_registers.proofs.FourBitReading.{AgreeAbove, at, legal}
use Rattle.hll_kernels.proofs.FourBitLanes.{length-nibble_bytes_above}
use Rattle.hll_kernels.proofs.SingleNibbles.{nibble_at-high, nibble_at-low, nibble_at-tail}
use Rattle.hll_base.proofs.Joins.{get_or-join}
use Rattle.hll_base.proofs.Joins.{is_join}
use Rattle.hll_kernels.specs.Lanes.{nibble_values}
use Rattle.hll_kernels.specs.Packed.{AreRegisters}
use Rattle.hll_registers.proofs.Packing.{exceptions_read_back, minimum_le, nibbles_read_back}
use Rattle.std.proofs.Math.Pow.{pow_mono}

-- ---- size

-- a raw coupon that the list lacks adds one member
one_more : (p : ℕ → Bool) (c : ℕ) (W : List ℕ) → (has c W ≡ true → ⊥) → len (set_of (filter p W)) ≡ length (filter p W) → len (set_of (filter p (c ∷ W))) ≡ length (filter p (c ∷ W))
one_more p c W other rest = elim (p c) as (λ b. len (set_of (cond b (c ∷ filter p W) (filter p W))) ≡ length (cond b (c ∷ filter p W) (filter p W))) [
  | true ↦ len-insert nat_cmp_total (set_of (filter p W)) c ∙ ap (λ b. cond b (len (set_of (filter p W))) (len (set_of (filter p W)) + 1)) new ∙ omega (arith, rest)
  | false ↦ rest
]
  where
    new : contains (set_of (filter p W)) c ≡ false
    new = elim (cases_Bool (contains (set_of (filter p W)) c)) [
      | inl t ↦ absurd (other (kept p c W (sym (contains-has (filter p W) c) ∙ t)).1)
      | inr f ↦ f
    ]

-- the raw coupon of a register is not among those that follow
not_later : (s r : ℕ) (R : List ℕ) → s + length R < 2 ^ 26 → has (pair s r) (raw_coupons_from (s + 1) R) ≡ true → ⊥
not_later s r R h there =
    let found : (i : ℕ) × StandsFor R (s + 1) (pair s r) i = in_raw_coupons R (s + 1) (pair s r) there in
    let i : ℕ = found.0 in
    let within : i < length R = found.1.within in
    let slots : s ≡ s + 1 + i = sym (slot_of-pair s r (omega (arith, h))) ∙ ap slot_of found.1.is ∙ slot_of-pair (s + 1 + i) (get_or R i 0) (omega (arith, h, within)) in
    omega (arith, slots)

-- so no raw coupon occurs twice
once : (p : ℕ → Bool) (s : ℕ) (R : List ℕ) → s + length R ≤ 2 ^ 26 → len (set_of (filter p (raw_coupons_from s R))) ≡ length (filter p (raw_coupons_from s R))
once p s [] h = len-empty nat_cmp
once p s (r ∷ R) h =
    let rest : len (set_of (filter p (raw_coupons_from (s + 1) R))) ≡ length (filter p (raw_coupons_from (s + 1) R)) = once p (s + 1) R (omega (arith, h)) in
    elim (eqb r 0) as (λ b. len (set_of (filter p (cond b (raw_coupons_from (s + 1) R) (pair s r ∷ raw_coupons_from (s + 1) R)))) ≡ length (filter p (cond b (raw_coupons_from (s + 1) R) (pair s r ∷ raw_coupons_from (s + 1) R)))) [
      | true ↦ rest
      | false ↦ one_more p (pair s r) (raw_coupons_from (s + 1) R) (not_later s r R (omega (arith, h))) rest
    ]

pub len-exceptions : (k : ℕ) (R : List ℕ) → k ≤ 21 → length R ≡ 2 ^ k → len (set_of (exceptions R)) ≡ length (exceptions R)
len-exceptions k R small size = once _ 0 R (let few : 2 ^ k ≤ 2 ^ 21 = pow_mono small in omega (arith, few, size))

-- two registers a byte
pub twice : (k : ℕ) → 4 ≤ k → 2 ^ k ≡ 2 * 2 ^ (k - 1)
twice k low = ap (λ n. 2 ^ n) (let e : k ≡ suc (k - 1) = omega (arith, low) in e) ∙ omega (arith, pow-suc 2 (k - 1))

-- the registers are whole blocks of sixteen
pub sixteens : (k : ℕ) → 4 ≤ k → 2 ^ k ≡ 16 * 2 ^ (k - 4)
sixteens k low =
    ap (λ n. 2 ^ n) (let e : k ≡ suc (suc (suc (suc (k - 4)))) = omega (arith, low) in e)
    ∙ omega (arith, pow-suc 2 (suc (suc (suc (k - 4)))), pow-suc 2 (suc (suc (k - 4))), pow-suc 2 (suc (k - 4)), pow-suc 2 (k - 4))

pub half_size : (k : ℕ) (bytes : List ℕ) → 4 ≤ k → 2 * length bytes ≡ 2 ^ k → length bytes ≡ 2 ^ (k - 1)
half_size k bytes low size = omega (arith, size, twice k low)

pub size_is : (k m n : ℕ) (bytes : List ℕ) (e : Option ExceptionMap) (R : List ℕ) → 4 ≤ k → k ≤ 21 → IsPacked k m n bytes e R → length bytes + table_bytes k (len (exceptions_in e)) ≡ size_in_registers k Hll4 R
size_is k m n bytes e R low small p =
    let many : len (exceptions_in e) ≡ length (exceptions R) = ap len (packed_is_of_registers k m n bytes e R small p).exceptions_are ∙ len-exceptions k R small p.registers.size in
    λ i. half_size k bytes low p.size i + table_bytes k (many i)

-- ---- equality

module _ (k m n : ℕ) (bytes : List ℕ) (e : Option ExceptionMap) (R : List ℕ) (m' n' : ℕ) (bytes' : List ℕ) (e' : Option ExceptionMap) (R' : List ℕ)
    (small : k ≤ 21) (p : IsPacked k m n bytes e R) (q : IsPacked k m' n' bytes' e' R') where
  one : IsOfRegisters k m n bytes e R
  one = packed_is_of_registers k m n bytes e R small p

  two : IsOfRegisters k m' n' bytes' e' R'
  two = packed_is_of_registers k m' n' bytes' e' R' small q

  -- the registers are a function of minimum, nibbles and exceptions
  pub same_registers : m ≡ m' → bytes ≡ bytes' → exceptions_in e ≡ exceptions_in e' → R ≡ R'
  same_registers low nibbles entries =
      let lows : minimum R ≡ minimum R' = sym one.minimum_is ∙ low ∙ two.minimum_is in
      let packs : nibble_bytes R ≡ nibble_bytes R' = sym one.bytes_are ∙ nibbles ∙ two.bytes_are in
      let sets : set_of (exceptions R') ≡ set_of (exceptions R) = sym two.exceptions_are ∙ sym entries ∙ one.exceptions_are in
      ext_get_or 0 R R' (p.registers.size ∙ sym q.registers.size) (λ s l.
      let within : s < 2 ^ k = omega (arith, l, p.registers.size) in
      sym (exceptions_read_back k R (exceptions R') s small p.registers.size p.registers.small sets within).1
      ∙ (λ i. register_of (lows i) (nibble_at (packs i) s) (entry_at k (exceptions R') s))
      ∙ (exceptions_read_back k R' (exceptions R') s small q.registers.size q.registers.small refl within).1)

  -- and these are a function of the registers
  pub same_minimum : R ≡ R' → m ≡ m'
  same_minimum is = one.minimum_is ∙ ap minimum is ∙ sym two.minimum_is

  pub same_nibbles : R ≡ R' → bytes ≡ bytes'
  same_nibbles is = one.bytes_are ∙ ap nibble_bytes is ∙ sym two.bytes_are

  pub same_exceptions : R ≡ R' → exceptions_in e ≡ exceptions_in e'
  same_exceptions is = one.exceptions_are ∙ ap (λ R. set_of (exceptions R)) is ∙ sym two.exceptions_are

-- a test of whether registers are the same
pub same_test : (b : Bool) (R Q : List ℕ) → (b ≡ true → R ≡ Q) → (R ≡ Q → b ≡ true) → b ≡ pointwise nat_eq R Q
same_test b R Q f g = both_ways b (pointwise nat_eq R Q) (λ e. (bytes_decides R Q).1 (f e)) (λ e. g ((bytes_decides R Q).0 e))

-- ---- the image

-- the bytes of a header
abbrev pub header_of : ℕ → ℕ → EstimateState → List ℕ
header_of k m state = 10 ∷ 1 ∷ 7 ∷ k ∷ 0 ∷ (8 + flag_of state) ∷ m ∷ mode_byte 2 Hll4 ∷ []

pub image_is : (k : ℕ) (R : List ℕ) (state : EstimateState) (count : ℕ) → count ≡ len (set_of (exceptions R)) → (front image : List ℕ) →
    front ≡ header_of k (minimum R) state ++ number_bytes state (count_at_minimum R) count → WritesAscending (λ order. (front ++ nibble_bytes R) ++ coupon_bytes order) (set_of (exceptions R)) image → WritesRegisters image k Hll4 R state
image_is k R state count many front image is w = record {
  order = w.order;
  ascending = w.ascending;
  is = w.is ∙ ap (λ f. (f ++ nibble_bytes R) ++ coupon_bytes w.order) is ∙ append_assoc (header_of k (minimum R) state ++ number_bytes state (count_at_minimum R) count) (nibble_bytes R) (coupon_bytes w.order)
      ∙ append_assoc (header_of k (minimum R) state) (number_bytes state (count_at_minimum R) count) (nibble_bytes R ++ coupon_bytes w.order)
      ∙ (λ i. header_of k (minimum R) state ++ (number_bytes state (count_at_minimum R) (number i) ++ (nibble_bytes R ++ coupon_bytes w.order)));
}
  where
    number : count ≡ length w.order
    number = many ∙ sym (len-ascending w.order (set_of (exceptions R)) w.ascending)

-- ---- values

nibble_bytes-fit : (m : ℕ) (R : List ℕ) → All (λ b. b < 256) (nibble_bytes_above m R)
nibble_bytes-fit m [] i d l = absurd (omega (arith, l))
nibble_bytes-fit m (r ∷ []) zero d l = let h : nibble m r ≤ 15 = omega arith in omega (arith, h)
nibble_bytes-fit m (r ∷ []) (suc i) d l = absurd (omega (arith, l))
nibble_bytes-fit m (r ∷ q ∷ R) zero d l = let h : nibble m r ≤ 15 = omega arith in let j : nibble m q ≤ 15 = omega arith in omega (arith, h, j)
nibble_bytes-fit m (r ∷ q ∷ R) (suc i) d l = nibble_bytes-fit m R i d (omega (arith, l))

-- the packed forms of registers
pub packed_values : (k : ℕ) (R : List ℕ) → 4 ≤ k → AreRegisters k R → (m n : ℕ) (bytes : List ℕ) (e : Option ExceptionMap) → m ≡ minimum R → bytes ≡ nibble_bytes_above m R → n ≡ zero_nibbles bytes → IsMapFor k e →
    ((s : ℕ) → s < 2 ^ k → exception_in e s ≡ exception_of m (get_or R s 0)) → IsPacked k m n bytes e R
packed_values k R low are m n bytes e least is zeros map_for excepted =
    let half : length R ≡ 2 * 2 ^ (k - 1) = are.size ∙ twice k low in
    let below : (s : ℕ) → s < length R → m ≤ get_or R s 0 = λ s l. omega (arith, least, minimum_le R s l) in
    let counted : n ≡ count_by (λ r. eqb r m) R = zeros ∙ ap zero_nibbles is ∙ zero_nibbles_are m (nibble_bytes_above m R) R refl (2 ^ (k - 1)) half below in
    let i = attained R (omega (arith, are.size, pow_pos k)) are.small in
    record {
      registers = are;
      least = λ s l. below s (omega (arith, l, are.size));
      count = counted;
      some = omega (arith, counted, count_some m R i.0 i.1 (i.2 ∙ sym least));
      size = omega (arith, twice k low, ap length is, length-nibble_bytes_above m (2 ^ (k - 1)) R half);
      fits = subst (All (λ b. b < 256)) (sym is) (nibble_bytes-fit m R);
      nibbles = λ s l. ap (λ bs. nibble_at bs s) is ∙ nibbles_read_back m R s (omega (arith, l, are.size));
      map_for = map_for;
      excepted = excepted;
    }

-- ---- maxima

-- the value of each nibble
pub nibble_values-at : (m : ℕ) (bytes : List ℕ) (s : ℕ) → All (λ b. b < 256) bytes → s < 2 * length bytes → get_or (nibble_values m bytes) s 0 ≡ m + nibble_at bytes s
nibble_values-at m [] s fits l = absurd (omega (arith, l))
nibble_values-at m (b ∷ bs) zero fits l = let at : nibble_at (b ∷ bs) 0 ≡ b % 16 = nibble_at-low b bs in omega (arith, at)
nibble_values-at m (b ∷ bs) (suc zero) fits l = let at : nibble_at (b ∷ bs) 1 ≡ b / 16 = nibble_at-high b bs (fits 0 0 (omega arith)) in omega (arith, at)
nibble_values-at m (b ∷ bs) (suc (suc s)) fits l =
    nibble_values-at m bs s (All-tail (λ b. b < 256) b bs fits) (omega (arith, l)) ∙ ap (λ n. m + n) (sym (nibble_at-tail b bs s))

module _ {k m : ℕ} {bytes : List ℕ} {e : Option ExceptionMap} (p : AgreeAbove k m bytes e) (first : ℕ) (V : List ℕ) (within : first + length V ≤ 2 ^ k) (aligned : first % 4 ≡ 0) (groups : length V % 4 ≡ 0) where
  abbrev R : List ℕ
  R = unpacked k m bytes e

  -- the bytes of the registers
  abbrev pub block : List ℕ
  block = take (first / 2 + length V / 2 - first / 2) (drop (first / 2) bytes)

  pub length-block : 2 * length block ≡ length V
  length-block = omega (arith, length-take-le (first / 2 + length V / 2 - first / 2) (drop (first / 2) bytes) (omega (arith, length-drop (first / 2) bytes, p.size, within, aligned, groups)), groups)

  pub nibble_at-block : (s : ℕ) → s < length V → nibble_at block s ≡ nibble m (get_or R (first + s) 0)
  nibble_at-block s l =
      let half : first / 2 + s / 2 ≡ (first + s) / 2 = omega (arith, aligned) in
      let odd : s % 2 ≡ (first + s) % 2 = omega (arith, aligned) in
      let byte : get_or block (s / 2) 0 ≡ get_or bytes (first / 2 + s / 2) 0 = get_or-take (first / 2 + length V / 2 - first / 2) (drop (first / 2) bytes) (s / 2) 0 (omega (arith, l, groups)) ∙ get_or-drop (first / 2) bytes (s / 2) 0 in
      ap (λ b. b / 16 ^ (s % 2) % 16) byte ∙ (λ i. get_or bytes (half i) 0 / 16 ^ odd i % 16) ∙ (at p (first + s) (omega (arith, l, within))).nibble_is

  pub unmarked : (s : ℕ) → s < length V → nibble_at block s ≢ 15 → exception_in e (first + s) ≡ None
  unmarked s l other =
      let r : ℕ = get_or R (first + s) 0 in
      (at p (first + s) (omega (arith, l, within))).exception_is ∙ exception_of-low m r (elim (cases_lt r (m + 15)) [
        | inl under ↦ under
        | inr over ↦ absurd (other (nibble_at-block s l ∙ (let mark : nibble m r ≡ 15 = omega (arith, over) in mark)))
      ])

  -- values after the maximum with the nibbles
  pub raised_at : (W : List ℕ) → W ≡ join V (nibble_values m block) → (s : ℕ) → s < length V → get_or W s 0 ≡ max (get_or V s 0) (m + nibble_at block s)
  raised_at W is s l =
      ap (λ W. get_or W s 0) is ∙ get_or-join V (nibble_values m block) s
      ∙ ap (max (get_or V s 0)) (nibble_values-at m block s fits (omega (arith, l, length-block)))
    where
      fits : All (λ b. b < 256) block
      fits = All-take (λ b. b < 256) (first / 2 + length V / 2 - first / 2) (drop (first / 2) bytes) (All-drop (λ b. b < 256) (first / 2) bytes p.fits)

  -- after the maximum with the nibbles and with the exceptions, they are the maximum with the registers
  pub joined : (X : List ℕ) → length X ≡ length V → ((s : ℕ) → s < length V → get_or X s 0 ≡ max (max (get_or V s 0) (m + nibble_at block s)) (unwrap_or (exception_in e (first + s)) 0)) → X ≡ join V (take (length V) (drop first R))
  joined X size raised =
      let after : List ℕ = drop first R in
      let many : length V ≤ length after = omega (arith, length-drop first R, within, (legal p).size) in
      is_join V (take (length V) after) X (sym (length-take-le (length V) after many)) size (λ s h.
      let l : s < length V = omega (arith, h, size) in
      let r : ℕ = get_or R (first + s) 0 in
      let there : get_or (take (length V) after) s 0 ≡ r = get_or-take (length V) after s 0 l ∙ get_or-drop first R s 0 in
      let slot : first + s < 2 ^ k = omega (arith, l, within) in
      let low : m ≤ r = (at p (first + s) slot).least in
      let entry : exception_in e (first + s) ≡ exception_of m r = (at p (first + s) slot).exception_is in
      let here : get_or X s 0 ≡ max (max (get_or V s 0) (m + nibble m r)) (unwrap_or (exception_of m r) 0) = raised s l ∙ (λ i. max (max (get_or V s 0) (m + nibble_at-block s l i)) (unwrap_or (entry i) 0)) in
      elim (cases_lt r (m + 15)) [
        | inl under ↦
            let none : unwrap_or (exception_of m r) 0 ≡ 0 = ap (λ o. unwrap_or o 0) (exception_of-low m r under) in
            let n : nibble m r ≡ r - m = omega (arith, under) in
            omega (arith, here, none, n, low, there)
        | inr over ↦
            let some : unwrap_or (exception_of m r) 0 ≡ r = ap (λ o. unwrap_or o 0) (exception_of-high m r over) in
            let n : nibble m r ≡ 15 = omega (arith, over) in
            omega (arith, here, some, n, over, there)
      ])

-- the values of nibbles below 15 are the registers
pub values-unmarked : {k m : ℕ} {bytes : List ℕ} {e : Option ExceptionMap} (p : AgreeAbove k m bytes e) (first n : ℕ) (part : List ℕ) → first + n ≤ 2 ^ k → first % 4 ≡ 0 → n % 4 ≡ 0 →
    part ≡ take (first / 2 + n / 2 - first / 2) (drop (first / 2) bytes) → All (λ v. v < 15) (nibble_values 0 part) → nibble_values m part ≡ take n (drop first (unpacked k m bytes e))
values-unmarked {k} {m} {bytes} {e} p first n part within aligned groups is small =
    let R : List ℕ = unpacked k m bytes e in
    let V : List ℕ = take n (drop first R) in
    let many : length V ≡ n = length-take-le n (drop first R) (omega (arith, length-drop first R, within, (legal p).size)) in
    let room : first + length V ≤ 2 ^ k = omega (arith, many, within) in
    let fours : length V % 4 ≡ 0 = ap (λ l. l % 4) many ∙ groups in
    let B : List ℕ = block p first V room aligned fours in
    let same : B ≡ part = ap (λ l. take (first / 2 + l / 2 - first / 2) (drop (first / 2) bytes)) many ∙ sym is in
    let fits : All (λ b. b < 256) B = All-take (λ b. b < 256) (first / 2 + length V / 2 - first / 2) (drop (first / 2) bytes) (All-drop (λ b. b < 256) (first / 2) bytes p.fits) in
    let half : 2 * length B ≡ n = length-block p first V room aligned fours ∙ many in
    ap (nibble_values m) (sym same) ∙ ext_get_or 0 (nibble_values m B) V (omega (arith, length-nibble_values m B, half, many)) (λ s l.
    let within_part : s < n = omega (arith, l, length-nibble_values m B, half) in
    let r : ℕ = get_or R (first + s) 0 in
    let nibble_is : nibble_at B s ≡ nibble m r = nibble_at-block p first V room aligned fours s (omega (arith, within_part, many)) in
    let value : get_or (nibble_values 0 B) s 0 ≡ 0 + nibble_at B s = nibble_values-at 0 B s fits (omega (arith, within_part, half)) in
    let low : get_or (nibble_values 0 B) s 0 < 15 = subst (λ P. All (λ v. v < 15) (nibble_values 0 P)) (sym same) small s 0 (omega (arith, length-nibble_values 0 B, within_part, half)) in
    let there : get_or V s 0 ≡ r = get_or-take n (drop first R) s 0 within_part ∙ get_or-drop first R s 0 in
    let least : m ≤ r = (at p (first + s) (omega (arith, within_part, within))).least in
    nibble_values-at m B s fits (omega (arith, within_part, half)) ∙ omega (arith, nibble_is, value, low, there, least))
