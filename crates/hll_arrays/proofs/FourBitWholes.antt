-- SPDX-License-Identifier: Apache-2.0
-- Images of 4-bit registers whose counts pass their checks, and whose bytes are there.
use Rattle.std.proofs.Common.{◌≡◌, ℕ, ◌+◌, ◌-◌, ◌*◌, ◌^◌, ◌<◌, ◌≤◌, suc, Bool, true, false, cond, eqb, List, ◌++◌, Option, length, drop, take, map, sym, ap, subst, ◌∙◌, arith}
use Rattle.std.specs.List.{range_with_len}
use Rattle.std.proofs.Math.Nat.{pow-suc}
use Rattle.std.proofs.lemmas.List.{length-drop, length-take, take-append-drop, take-append-le}
use Rattle.hll_base.specs.declared.error.Reason.{Reason}
use Rattle.hll_base.specs.declared.error.Reason.TheVariants.{Memory}
use Rattle.hll_coupons.specs.AuxMap.{ExceptionMap, entry_at}
use Rattle.hll_coupons.specs.Coupons.{coupons_at}
use Rattle.hll_coupons.proofs.Payloads.{front_coupons, front_number, front_rest}
use Rattle.hll_registers.specs.FourBits.{exception_in, unpacked}
use Rattle.hll_kernels.specs.Packed.{nibble_at}
use Rattle.hll_registers.specs.Payload.{num_at_cur_min, exception_count, Hll4Shape, exception_buckets, nibbles_of, entries_of, hll4_size, register_of, registers_of, Agrees, AllAgree, AreEntries, HasEntries, IsHll4Payload, IsWhole, Hll4Fault, FirstHll4Fault}
use Rattle.hll_registers.specs.Payload as payload

-- ---- faults

-- the first check that fails is a check that fails
pub fault_of_first : (h : Hll4Shape) (b : List ℕ) (e : Reason) → FirstHll4Fault h b e → Hll4Fault h b e
fault_of_first h b e (payload.FirstHll4Fault.no_counts n) = payload.Hll4Fault.no_counts n
fault_of_first h b e (payload.FirstHll4Fault.low_count_above w n) = payload.Hll4Fault.low_count_above w n
fault_of_first h b e (payload.FirstHll4Fault.exceptions_above w n) = payload.Hll4Fault.exceptions_above w n
fault_of_first h b e (payload.FirstHll4Fault.table w l f c n m) = payload.Hll4Fault.table w f c n m
fault_of_first h b e (payload.FirstHll4Fault.short l f n) = payload.Hll4Fault.short f n
fault_of_first h b e (payload.FirstHll4Fault.coupon w n) = payload.Hll4Fault.coupon w.has_entries w.there n
fault_of_first h b e (payload.FirstHll4Fault.number w d n) = payload.Hll4Fault.number w.has_entries w.there n
fault_of_first h b e (payload.FirstHll4Fault.register w d m n) = payload.Hll4Fault.register w.has_entries w.there d m n

-- `Memory` is no fault of an image
pub fault_not_memory : (h : Hll4Shape) (b : List ℕ) (e : Reason) → FirstHll4Fault h b e → e ≡ Memory → ⊥
fault_not_memory h b e (payload.FirstHll4Fault.no_counts n) is = cc
fault_not_memory h b e (payload.FirstHll4Fault.low_count_above w n) is = cc
fault_not_memory h b e (payload.FirstHll4Fault.exceptions_above w n) is = cc
fault_not_memory h b e (payload.FirstHll4Fault.table w l f c n m) is = cc
fault_not_memory h b e (payload.FirstHll4Fault.short l f n) is = cc
fault_not_memory h b e (payload.FirstHll4Fault.coupon w n) is = cc
fault_not_memory h b e (payload.FirstHll4Fault.number w d n) is = cc
fault_not_memory h b e (payload.FirstHll4Fault.register w d m n) is = cc

-- if the count of exceptions is 0, no buckets of them follow
pub no_buckets : (h : Hll4Shape) (b : List ℕ) → exception_count b ≡ 0 → exception_buckets h b ≡ 0
no_buckets h b none = of h.compact
  where
    of : (compact : Bool) → cond compact (exception_count b) (cond (eqb (exception_count b) 0) 0 (2 ^ h.lg_table)) ≡ 0
    of true = none
    of false = ap (λ n. cond (eqb n 0) 0 (2 ^ h.lg_table)) none

-- ---- bytes that are there

module _ (h : Hll4Shape) (b : List ℕ) (whole : IsWhole h b) where
  -- two nibbles in each byte
  pub nibbles-size : 1 ≤ h.lg_k → 2 * length (nibbles_of h b) ≡ 2 ^ h.lg_k
  nibbles-size some =
      let twice : 2 ^ h.lg_k ≡ 2 * 2 ^ (h.lg_k - 1) = ap (λ n. 2 ^ n) (let e : h.lg_k ≡ suc (h.lg_k - 1) = omega (arith, some) in e) ∙ omega (arith, pow-suc 2 (h.lg_k - 1)) in
      omega (arith, twice, length-take (2 ^ (h.lg_k - 1)) (drop 32 b), length-drop 32 b, whole.there)

  abbrev front : List ℕ
  front = take (hll4_size h b) b

  abbrev back : List ℕ
  back = drop (hll4_size h b) b

  whole_is : front ++ back ≡ b
  whole_is = take-append-drop (hll4_size h b) b

  size : length front ≡ hll4_size h b
  size = omega (arith, length-take (hll4_size h b) b, whole.there)

  counted : exception_count front ≡ exception_count b
  counted = front_number front back b whole_is 28 (omega (arith, size))

  buckets : exception_buckets h front ≡ exception_buckets h b
  buckets = ap (λ n. cond h.compact n (cond (eqb n 0) 0 (2 ^ h.lg_table))) counted

  entries : entries_of h front ≡ entries_of h b
  entries =
      ap (λ n. coupons_at h.compact n (drop (32 + 2 ^ (h.lg_k - 1)) front)) buckets
      ∙ front_coupons front back b whole_is h.compact (exception_buckets h b) (32 + 2 ^ (h.lg_k - 1)) (omega (arith, size))

  nibbles : nibbles_of h front ≡ nibbles_of h b
  nibbles =
      let rest : drop 32 front ++ back ≡ drop 32 b = front_rest front back b whole_is 32 (omega (arith, size)) in
      sym (take-append-le (2 ^ (h.lg_k - 1)) (drop 32 front) back (omega (arith, size, length-drop 32 front))) ∙ ap (take (2 ^ (h.lg_k - 1))) rest

  -- the registers don't depend on what follows their bytes
  pub registers-front : registers_of h front ≡ registers_of h b
  registers-front = λ i. map (λ s. register_of h.minimum (nibble_at (nibbles i) s) (entry_at h.lg_k (entries i) s)) (range_with_len 0 (2 ^ h.lg_k))

  -- the bytes are a payload
  pub is_hll4_payload : AreEntries h.lg_k (entries_of h b) → length (entries_of h b) ≡ exception_count b → AllAgree h b → IsHll4Payload h front
  is_hll4_payload are number agree = record {
    low = subst (λ n. n ≤ 2 ^ h.lg_k) (sym (front_number front back b whole_is 24 (omega (arith, size)))) whole.low;
    has_entries = record {
      whole = omega (arith, size);
      few = subst (λ n. n ≤ 2 ^ h.lg_k) (sym counted) whole.has_entries.few;
      table = λ loose some. whole.has_entries.table loose (λ z. some (counted ∙ z));
    };
    size = size ∙ ap (λ n. 32 + (2 ^ (h.lg_k - 1) + 4 * n)) (sym buckets);
    are_entries = subst (AreEntries h.lg_k) (sym entries) are;
    number = ap length entries ∙ number ∙ sym counted;
    agree = λ s l.
        let P : List ℕ → List ℕ → Type 0 = λ ns es. Agrees h.minimum (nibble_at ns s) (entry_at h.lg_k es s) in
        subst (λ ns. P ns (entries_of h front)) (sym nibbles) (subst (P (nibbles_of h b)) (sym entries) (agree s l));
  }

  -- nibbles and a map with the exceptions
  module _ (ns : List ℕ) (e : Option ExceptionMap) (are : ns ≡ nibbles_of h b) (values : (s : ℕ) → exception_in e s ≡ entry_at h.lg_k (entries_of h b) s) where
    pub unpacked-registers : unpacked h.lg_k h.minimum ns e ≡ registers_of h b
    unpacked-registers = λ i. map (λ s. register_of h.minimum (nibble_at (are i) s) (values s i)) (range_with_len 0 (2 ^ h.lg_k))

    pub all_agree : ((s : ℕ) → s < 2 ^ h.lg_k → Agrees h.minimum (nibble_at ns s) (exception_in e s)) → AllAgree h b
    all_agree agree = λ s l. subst (λ o. Agrees h.minimum (nibble_at (nibbles_of h b) s) o) (values s) (subst (λ ns. Agrees h.minimum (nibble_at ns s) (exception_in e s)) are (agree s l))

    pub parts_agree : AllAgree h b → (s : ℕ) → s < 2 ^ h.lg_k → Agrees h.minimum (nibble_at ns s) (exception_in e s)
    parts_agree agree s l = subst (λ ns. Agrees h.minimum (nibble_at ns s) (exception_in e s)) (sym are) (subst (λ o. Agrees h.minimum (nibble_at (nibbles_of h b) s) o) (sym (values s)) (agree s l))
