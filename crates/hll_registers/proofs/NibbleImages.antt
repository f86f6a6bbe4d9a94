-- SPDX-License-Identifier: Apache-2.0
-- Lemmas on images of 4-bit registers that borrow their nibbles.
use Rattle.std.proofs.Common.{◌≡◌, ℕ, ◌+◌, ◌-◌, ◌^◌, ◌<◌, ◌≤◌, eqb, nat_eq, cond, List, All, Option, length, get_or, set, refl, sym, ap, ◌∙◌, arith, inl, inr}
use mir.Val.{bool_byte}
use Rattle.std.proofs.lemmas.Bool.{cases_eq, eq-eqb, ne_eqb}
use Rattle.hll_coupons.specs.AuxMap.{ExceptionMap}
use Rattle.hll_kernels.specs.Packed.{minimum, nibble, nibble_at, zero_nibbles}
use Rattle.hll_registers.specs.FourBits.{exception_in, unpacked, IsPacked, NibbleRegisters}
use Rattle.hll_registers.proofs.FourBits.{packed_is_of_registers}
use Rattle.hll_registers.proofs.FourBitChanges.{seen, low_packed, left_after, IsGreaterAt, IsLeft}
use Rattle.hll_registers.proofs.FourBitReading.{at, settled, AgreeAbove, OfRegister}

-- a nibble is 0 if its register is at the minimum
zero_nibble : (m r n : ℕ) → m ≤ r → n ≡ nibble m r → eqb n 0 ≡ eqb r m
zero_nibble m r n least is = elim (cases_eq r m) [
  | inl e ↦ eq-eqb n 0 (omega (arith, is, e)) ∙ sym (eq-eqb r m e)
  | inr other ↦ ne_eqb n 0 (λ z. other (omega (arith, is, z, least))) ∙ sym (ne_eqb r m other)
]

module _ {k m : ℕ} {bytes : List ℕ} {e : Option ExceptionMap} (parts : AgreeAbove k m bytes e) (slot v : ℕ) (within : slot < 2 ^ k) (more : get_or (unpacked k m bytes e) slot 0 < v) where
  abbrev R : List ℕ
  R = unpacked k m bytes e

  here : OfRegister m (nibble_at bytes slot) (exception_in e slot) (get_or R slot 0)
  here = at parts slot within

  -- the value is above the minimum
  pub above : m ≤ v
  above = omega (arith, here.least, more)

  module _ (under : v < m + 15) where
    -- the register is no exception
    pub register_is : get_or R slot 0 ≡ m + nibble_at bytes slot
    register_is = omega (arith, here.nibble_is, here.least, more, under)

    -- with the nibble of the value in place of its own, the registers are packed
    pub raised : (n byte : ℕ) (new : List ℕ) → k ≤ 21 → v ≤ 63 → n ≡ zero_nibbles bytes → byte ≡ bool_byte (nat_eq (nibble_at bytes slot) 0) → byte < n → length new ≡ length bytes → All (λ b. b < 256) new →
        ((q : ℕ) → nibble_at new q ≡ cond (eqb q slot) (v - m) (nibble_at bytes q)) → IsPacked k m (n - byte) new e (set R slot v)
    raised n byte new small most are zero some len fits put =
        let p : IsPacked k m n bytes e R = settled parts n are (omega (arith, some)) in
        let x : NibbleRegisters = seen k m bytes e in
        let ask : IsGreaterAt x slot v = record { within = within; more = more; most = most } in
        let same : byte ≡ bool_byte (nat_eq (get_or R slot 0) m) = zero ∙ ap bool_byte (zero_nibble m (get_or R slot 0) (nibble_at bytes slot) here.least here.nibble_is) in
        let left : IsLeft x slot v (n - byte) = record {
          left_is = left_after k m n bytes e small p x refl slot v ask (get_or R slot 0) byte refl same;
          some = omega (arith, some);
        } in
        let least : m ≡ minimum R = (packed_is_of_registers k m n bytes e R small p).minimum_is in
        low_packed k m n bytes e small p x refl slot v ask (n - byte) new left (omega (arith, under, least)) len fits put
