-- SPDX-License-Identifier: Apache-2.0
-- What is written for registers is a payload from which they are read back.
use Rattle.std.proofs.Common.{◌≡◌, ℕ, ◌+◌, ◌-◌, ◌*◌, ◌^◌, ◌<◌, ◌≤◌, zero, suc, Bool, true, eqb, List, [], ◌∷◌, ◌++◌, length, get_or, take, drop, All, refl, sym, ap, subst, ◌∙◌, arith}
use Rattle.std.proofs.lemmas.Nat.{from_le_bytes-to_le_bytes_4, from_le_bytes-to_le_bytes_8}
use Rattle.std.proofs.lemmas.Bool.{true≢false}
use Rattle.std.proofs.lemmas.List.{length-append, append-nil, take_at, ext_get_or, drop-drop}
use Rattle.std.proofs.lemmas.List.FromFn.{length-map-range_with_len, get_or-map-range_with_len}
use Rattle.std.proofs.lemmas.List.Sums.{count_by-le-length}
use Rattle.std.proofs.Math.Nat.{pow-suc}
use Rattle.std.proofs.Math.Pow.{pow_mono}
use Rattle.std.proofs.Math.Seq.{drop-append_seam}
use Rattle.hll_coupons.specs.Pair.{set_of}
use Rattle.hll_coupons.specs.Coupons.{raw_coupons, coupon_bytes, IsAscending}
use Rattle.hll_coupons.proofs.Payloads.{raw_coupons-written, length-coupon_bytes}
use Rattle.hll_registers.specs.declared.estimate_state.EstimateState.{EstimateState}
use Rattle.hll_registers.specs.State.{IsState}
use Rattle.hll_kernels.specs.Packed.{AreRegisters}
use Rattle.hll_kernels.specs.Packed.{zeros, fields, field_bytes, minimum, count_at_minimum, nibble_bytes, nibble_bytes_above, nibble_at}
use Rattle.hll_registers.specs.Exceptions.{exceptions}
use Rattle.hll_coupons.specs.AuxMap.{entry_at}
use Rattle.hll_registers.specs.Payload.{num_at_cur_min, exception_count, state_at, number_bytes, IsHll8Payload, IsHll6Payload, Hll4Shape, IsHll4Payload, AreEntries, entries_of, nibbles_of, registers_of, Agrees, register_of}
use Rattle.hll_registers.proofs.Packing.{fields_read_back, exceptions_read_back}
use Rattle.hll_kernels.proofs.Grouping.{groups-pow}
use Rattle.hll_arrays.proofs.Entries.{entries_fit, entries_few, are_entries}

-- ---- the numbers before the registers

-- three estimator fields, and two counts
record Preamble (state : EstimateState) (low excepted : ℕ) (rest : List ℕ) : Type 0 where
  state_is : (flag : Bool) → flag ≡ state.out_of_order → state_at flag (number_bytes state low excepted ++ rest) ≡ state
  low_is : num_at_cur_min (number_bytes state low excepted ++ rest) ≡ low
  excepted_is : exception_count (number_bytes state low excepted ++ rest) ≡ excepted
  size : length (number_bytes state low excepted) ≡ 32
  after : drop 32 (number_bytes state low excepted ++ rest) ≡ rest

preamble : (ws : List ℕ) (flag : Bool) (low excepted : ℕ) (rest : List ℕ) → length ws ≡ 3 → All (λ w. w < 2 ^ 64) ws → low < 2 ^ 32 → excepted < 2 ^ 32
    → Preamble (record { words = ws; out_of_order = flag }) low excepted rest
preamble [] flag low excepted rest n h l e = absurd (omega arith)
preamble (a ∷ []) flag low excepted rest n h l e = absurd (omega arith)
preamble (a ∷ b ∷ []) flag low excepted rest n h l e = absurd (omega arith)
preamble (a ∷ b ∷ c ∷ d ∷ ws) flag low excepted rest n h l e = absurd (omega arith)
preamble (a ∷ b ∷ c ∷ []) flag low excepted rest n h l e = record {
  state_is = λ f is i. record {
    words = from_le_bytes-to_le_bytes_8 a (h 0 0 (omega arith)) i ∷ from_le_bytes-to_le_bytes_8 b (h 1 0 (omega arith)) i ∷ from_le_bytes-to_le_bytes_8 c (h 2 0 (omega arith)) i ∷ [];
    out_of_order = is i;
  };
  low_is = from_le_bytes-to_le_bytes_4 low l;
  excepted_is = from_le_bytes-to_le_bytes_4 excepted e;
  size = refl;
  after = refl;
}

numbers_of : (state : EstimateState) (low excepted : ℕ) (rest : List ℕ) → IsState state → low < 2 ^ 32 → excepted < 2 ^ 32 → Preamble state low excepted rest
numbers_of state low excepted rest h l e = preamble state.words state.out_of_order low excepted rest h.three h.words l e

module _ (k : ℕ) (R : List ℕ) (state : EstimateState) (low_k : 4 ≤ k) (small : k ≤ 21) (are : AreRegisters k R) (is : IsState state) where
  few : 2 ^ k ≤ 2 ^ 21
  few = pow_mono small

  zeros_le : zeros R ≤ 2 ^ k
  zeros_le = omega (arith, count_by-le-length (λ v. eqb v 0) R, are.size)

  -- ---- 8-bit registers

  numbers8 : Preamble state (zeros R) 0 R
  numbers8 = numbers_of state (zeros R) 0 R is (omega (arith, zeros_le, few)) (omega arith)

  pub written_hll8 : IsHll8Payload k (number_bytes state (zeros R) 0 ++ R)
  written_hll8 = record {
    zero_count = omega (arith, numbers8.low_is, zeros_le);
    no_exceptions = numbers8.excepted_is;
    size = omega (arith, length-append (number_bytes state (zeros R) 0) R, numbers8.size, are.size);
    small = subst (All (λ v. v ≤ 63)) (sym numbers8.after) are.small;
  }

  pub state_hll8 : (flag : Bool) → flag ≡ state.out_of_order → state_at flag (number_bytes state (zeros R) 0 ++ R) ≡ state
  state_hll8 = numbers8.state_is

  pub registers_hll8 : drop 32 (number_bytes state (zeros R) 0 ++ R) ≡ R
  registers_hll8 = numbers8.after

  -- ---- 6-bit registers

  groups : 2 ^ k ≡ 4 * 2 ^ (k - 2)
  groups = sym (groups-pow k (omega arith))

  length-field_bytes : (n : ℕ) (S : List ℕ) → length S ≡ 4 * n → length (field_bytes S) ≡ 3 * n + 1
  length-field_bytes zero [] e = refl
  length-field_bytes (suc n) [] e = absurd (omega arith)
  length-field_bytes n (a ∷ []) e = absurd (omega arith)
  length-field_bytes n (a ∷ b ∷ []) e = absurd (omega arith)
  length-field_bytes n (a ∷ b ∷ c ∷ []) e = absurd (omega arith)
  length-field_bytes zero (a ∷ b ∷ c ∷ d ∷ S) e = absurd (omega arith)
  length-field_bytes (suc n) (a ∷ b ∷ c ∷ d ∷ S) e = omega (arith, length-field_bytes n S (omega arith))

  numbers6 : Preamble state (zeros R) 0 (field_bytes R)
  numbers6 = numbers_of state (zeros R) 0 (field_bytes R) is (omega (arith, zeros_le, few)) (omega arith)

  pub written_hll6 : IsHll6Payload k (number_bytes state (zeros R) 0 ++ field_bytes R)
  written_hll6 = record {
    zero_count = omega (arith, numbers6.low_is, zeros_le);
    no_exceptions = numbers6.excepted_is;
    size = omega (arith, length-append (number_bytes state (zeros R) 0) (field_bytes R), numbers6.size, length-field_bytes (2 ^ (k - 2)) R (are.size ∙ groups), groups);
  }

  pub state_hll6 : (flag : Bool) → flag ≡ state.out_of_order → state_at flag (number_bytes state (zeros R) 0 ++ field_bytes R) ≡ state
  state_hll6 = numbers6.state_is

  pub registers_hll6 : fields (drop 32 (number_bytes state (zeros R) 0 ++ field_bytes R)) ≡ R
  registers_hll6 = ap fields numbers6.after ∙ fields_read_back (2 ^ (k - 2)) R (are.size ∙ groups) are.small

  -- ---- 4-bit registers

  module _ (order : List ℕ) (flag : Bool) (lists : IsAscending order (set_of (exceptions R))) where
    abbrev pub shape : Hll4Shape
    shape = record { lg_k = k; minimum = minimum R; compact = true; lg_table = 0 }

    abbrev rest : List ℕ
    rest = nibble_bytes R ++ coupon_bytes order

    abbrev P : List ℕ
    P = number_bytes state (count_at_minimum R) (length order) ++ rest

    at_minimum_le : count_at_minimum R ≤ 2 ^ k
    at_minimum_le = omega (arith, count_by-le-length (λ r. eqb r (minimum R)) R, are.size)

    few_entries : length order ≤ 2 ^ k
    few_entries = entries_few k R order small are.size are.small lists

    numbers4 : Preamble state (count_at_minimum R) (length order) rest
    numbers4 = numbers_of state (count_at_minimum R) (length order) rest is (omega (arith, at_minimum_le, few)) (omega (arith, few_entries, few))

    halves : 2 ^ k ≡ 2 * 2 ^ (k - 1)
    halves = ap (λ n. 2 ^ n) (let e : k ≡ suc (k - 1) = omega arith in e) ∙ omega (arith, pow-suc 2 (k - 1))

    length-nibbles : (n m : ℕ) (S : List ℕ) → length S ≡ 2 * n → length (nibble_bytes_above m S) ≡ n
    length-nibbles zero m [] e = refl
    length-nibbles (suc n) m [] e = absurd (omega arith)
    length-nibbles n m (a ∷ []) e = absurd (omega arith)
    length-nibbles zero m (a ∷ b ∷ S) e = absurd (omega arith)
    length-nibbles (suc n) m (a ∷ b ∷ S) e = ap suc (length-nibbles n m S (omega arith))

    nibble_size : length (nibble_bytes R) ≡ 2 ^ (k - 1)
    nibble_size = length-nibbles (2 ^ (k - 1)) (minimum R) R (are.size ∙ halves)

    nibbles_are : nibbles_of shape P ≡ nibble_bytes R
    nibbles_are = ap (take (2 ^ (k - 1))) numbers4.after ∙ take_at (nibble_bytes R) (coupon_bytes order) (2 ^ (k - 1)) nibble_size

    after_nibbles : drop (32 + 2 ^ (k - 1)) P ≡ coupon_bytes order
    after_nibbles = sym (drop-drop (2 ^ (k - 1)) 32 P) ∙ ap (drop (2 ^ (k - 1))) numbers4.after
        ∙ ap (λ n. drop n rest) (sym nibble_size) ∙ drop-append_seam (nibble_bytes R) (coupon_bytes order)

    entries_are : entries_of shape P ≡ order
    entries_are = (λ i. raw_coupons (numbers4.excepted_is i) (after_nibbles i)) ∙ ap (raw_coupons (length order)) (sym (append-nil (coupon_bytes order)))
        ∙ raw_coupons-written order [] (entries_fit k R order small are.size are.small lists)

    at_slot : (s : ℕ) → s < 2 ^ k → Agrees (minimum R) (nibble_at (nibbles_of shape P) s) (entry_at k (entries_of shape P) s)
        × (register_of (minimum R) (nibble_at (nibbles_of shape P) s) (entry_at k (entries_of shape P) s) ≡ get_or R s 0)
    at_slot s h =
        let Q : List ℕ → List ℕ → Type 0 = λ ns es. Agrees (minimum R) (nibble_at ns s) (entry_at k es s) × (register_of (minimum R) (nibble_at ns s) (entry_at k es s) ≡ get_or R s 0) in
        subst (λ ns. Q ns (entries_of shape P)) (sym nibbles_are) (subst (Q (nibble_bytes R)) (sym entries_are) (exceptions_read_back k R order s small are.size are.small lists.members h))

    pub written_hll4 : IsHll4Payload shape P
    written_hll4 = record {
      low = omega (arith, numbers4.low_is, at_minimum_le);
      has_entries = record { whole = omega (arith, length-append (number_bytes state (count_at_minimum R) (length order)) rest, numbers4.size); few = omega (arith, numbers4.excepted_is, few_entries); table = λ c. absurd (true≢false c) };
      size = omega (arith, length-append (number_bytes state (count_at_minimum R) (length order)) rest, numbers4.size, length-append (nibble_bytes R) (coupon_bytes order), nibble_size, length-coupon_bytes order, numbers4.excepted_is);
      are_entries = subst (AreEntries k) (sym entries_are) (are_entries k R order small are.size are.small lists);
      number = ap length entries_are ∙ sym numbers4.excepted_is;
      agree = λ s h. (at_slot s h).0;
    }

    pub state_hll4 : (f : Bool) → f ≡ state.out_of_order → state_at f P ≡ state
    state_hll4 = numbers4.state_is

    pub registers_hll4 : registers_of shape P ≡ R
    registers_hll4 = ext_get_or 0 (registers_of shape P) R (length-map-range_with_len _ 0 (2 ^ k) ∙ sym are.size) (λ s h.
        let within : s < 2 ^ k = omega (arith, h, length-map-range_with_len (λ s. register_of (minimum R) (nibble_at (nibbles_of shape P) s) (entry_at k (entries_of shape P) s)) 0 (2 ^ k)) in
        get_or-map-range_with_len (λ s. register_of (minimum R) (nibble_at (nibbles_of shape P) s) (entry_at k (entries_of shape P) s)) 0 (2 ^ k) s s 0 within (omega arith) ∙ (at_slot s within).1)
