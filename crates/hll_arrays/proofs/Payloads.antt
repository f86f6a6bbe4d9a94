-- SPDX-License-Identifier: Apache-2.0
-- A payload depends only on a prefix of the bytes, and a fault excludes it.
use Rattle.std.proofs.Common.{◌≡◌, ℕ, ◌+◌, ◌-◌, ◌*◌, ◌^◌, ◌<◌, ◌≤◌, Bool, cond, eqb, List, [], ◌∷◌, ◌++◌, length, get_or, take, drop, All, refl, sym, ap, subst, ◌∙◌, arith}
use Rattle.std.proofs.lemmas.List.{length-drop, take-append-le, get_or-drop}
use Rattle.std.specs.Int.{w64, from_le_bytes}
use Rattle.hll_base.specs.declared.error.Reason.{Reason}
use Rattle.hll_coupons.specs.Coupons.{coupons_at}
use Rattle.hll_coupons.proofs.Payloads.{front_le, front_byte, front_rest, front_number, front_coupons, front_take, same_fronts}
use Rattle.hll_kernels.specs.Packed.{nibble_at}
use Rattle.hll_coupons.specs.AuxMap.{entry_at}
use Rattle.hll_registers.specs.Payload.{state_at, num_at_cur_min, exception_count, IsHll8Payload, Hll8Fault, field_size, IsHll6Payload, Hll6Fault, Hll4Shape, exception_buckets, nibbles_of, entries_of, hll4_size, AreEntries, AllAgree, Agrees, HasEntries, IsHll4Payload, Hll4Fault}
use Rattle.hll_registers.specs.Payload as payload

-- ---- the state

-- the estimate state is in the prefix
pub state_at-front : (flag : Bool) (a t b : List ℕ) → a ++ t ≡ b → 24 ≤ length a → state_at flag a ≡ state_at flag b
state_at-front flag a t b e long = λ i. record {
  words = word 0 (omega arith) i ∷ word 8 (omega arith) i ∷ word 16 (omega arith) i ∷ [];
  out_of_order = flag;
}
  where
    word : (n : ℕ) → n + 8 ≤ 24 → from_le_bytes w64 (drop n a) ≡ from_le_bytes w64 (drop n b)
    word n h =
        let at : (i : ℕ) → i < 8 → get_or (drop n a) i 0 ≡ get_or (drop n b) i 0 = λ i l. get_or-drop n a i 0 ∙ front_byte a t b e (n + i) (omega (arith, long)) ∙ sym (get_or-drop n b i 0) in
        omega (arith, at 0 (omega arith), at 1 (omega arith), at 2 (omega arith), at 3 (omega arith), at 4 (omega arith), at 5 (omega arith), at 6 (omega arith), at 7 (omega arith))

-- ---- one payload

pub one_hll8 : (k : ℕ) (a b s t : List ℕ) → IsHll8Payload k a → IsHll8Payload k b → a ++ s ≡ b ++ t → a ≡ b
one_hll8 k a b s t p q e = same_fronts a b s t e (p.size ∙ sym q.size)

pub one_hll6 : (k : ℕ) (a b s t : List ℕ) → IsHll6Payload k a → IsHll6Payload k b → a ++ s ≡ b ++ t → a ≡ b
one_hll6 k a b s t p q e = same_fronts a b s t e (p.size ∙ sym q.size)

-- the counts are in the prefix
front_exceptions : (a t b : List ℕ) → a ++ t ≡ b → 32 ≤ length a → exception_count a ≡ exception_count b
front_exceptions a t b e h = front_number a t b e 28 (omega arith)

pub front_buckets : (h : Hll4Shape) (a t b : List ℕ) → a ++ t ≡ b → 32 ≤ length a → exception_buckets h a ≡ exception_buckets h b
front_buckets h a t b e w = ap (λ n. cond h.compact n (cond (eqb n 0) 0 (2 ^ h.lg_table))) (front_exceptions a t b e w)

pub one_hll4 : (h : Hll4Shape) (a b s t : List ℕ) → IsHll4Payload h a → IsHll4Payload h b → a ++ s ≡ b ++ t → a ≡ b
one_hll4 h a b s t p q e =
    let buckets : exception_buckets h a ≡ exception_buckets h b =
    front_buckets h a s (b ++ t) e p.has_entries.whole ∙ sym (front_buckets h b t (b ++ t) refl q.has_entries.whole) in
    same_fronts a b s t e (p.size ∙ ap (λ n. 32 + (2 ^ (h.lg_k - 1) + 4 * n)) buckets ∙ sym q.size)

-- ---- if there is a fault, no prefix is a payload

pub hll8_fault_excludes : (k : ℕ) (a t b : List ℕ) (r : Reason) → a ++ t ≡ b → IsHll8Payload k a → Hll8Fault k b r → ⊥
hll8_fault_excludes k a t b r e p (payload.Hll8Fault.no_counts n) = omega (arith, p.size, front_le a t b e)
hll8_fault_excludes k a t b r e p (payload.Hll8Fault.zero_count w n) = omega (arith, p.zero_count, p.size, front_number a t b e 24 (omega (arith, p.size)))
hll8_fault_excludes k a t b r e p (payload.Hll8Fault.exceptions_counted w n) = n (sym (front_exceptions a t b e (omega (arith, p.size))) ∙ p.no_exceptions)
hll8_fault_excludes k a t b r e p (payload.Hll8Fault.short n) = omega (arith, p.size, front_le a t b e)
hll8_fault_excludes k a t b r e p (payload.Hll8Fault.register w n) =
    let rest : drop 32 a ++ t ≡ drop 32 b = front_rest a t b e 32 (omega (arith, p.size)) in
    let same : drop 32 a ≡ take (2 ^ k) (drop 32 b) = front_take (drop 32 a) t (drop 32 b) rest (2 ^ k) (omega (arith, p.size, length-drop 32 a)) in
    n (subst (All (λ v. v ≤ 63)) same p.small)

pub hll6_fault_excludes : (k : ℕ) (a t b : List ℕ) (r : Reason) → a ++ t ≡ b → IsHll6Payload k a → Hll6Fault k b r → ⊥
hll6_fault_excludes k a t b r e p (payload.Hll6Fault.no_counts n) = omega (arith, p.size, front_le a t b e)
hll6_fault_excludes k a t b r e p (payload.Hll6Fault.zero_count w n) = omega (arith, p.zero_count, p.size, front_number a t b e 24 (omega (arith, p.size)))
hll6_fault_excludes k a t b r e p (payload.Hll6Fault.exceptions_counted w n) = n (sym (front_exceptions a t b e (omega (arith, p.size))) ∙ p.no_exceptions)
hll6_fault_excludes k a t b r e p (payload.Hll6Fault.short n) = omega (arith, p.size, front_le a t b e)

module _ (h : Hll4Shape) (a t b : List ℕ) (e : a ++ t ≡ b) (p : IsHll4Payload h a) where
  buckets : exception_buckets h a ≡ exception_buckets h b
  buckets = front_buckets h a t b e p.has_entries.whole

  counted : exception_count a ≡ exception_count b
  counted = front_exceptions a t b e p.has_entries.whole

  entries : entries_of h a ≡ entries_of h b
  entries = front_coupons a t b e h.compact (exception_buckets h a) (32 + 2 ^ (h.lg_k - 1)) (omega (arith, p.size))
      ∙ ap (λ n. coupons_at h.compact n (drop (32 + 2 ^ (h.lg_k - 1)) b)) buckets

  nibbles : nibbles_of h a ≡ nibbles_of h b
  nibbles =
      let rest : drop 32 a ++ t ≡ drop 32 b = front_rest a t b e 32 (omega (arith, p.size)) in
      sym (take-append-le (2 ^ (h.lg_k - 1)) (drop 32 a) t (omega (arith, p.size, length-drop 32 a))) ∙ ap (take (2 ^ (h.lg_k - 1))) rest

  pub hll4_fault_excludes : (r : Reason) → Hll4Fault h b r → ⊥
  hll4_fault_excludes r (payload.Hll4Fault.no_counts n) = omega (arith, p.size, front_le a t b e)
  hll4_fault_excludes r (payload.Hll4Fault.low_count_above w n) = omega (arith, p.low, front_number a t b e 24 (omega (arith, p.size)))
  hll4_fault_excludes r (payload.Hll4Fault.exceptions_above w n) = omega (arith, p.has_entries.few, counted)
  hll4_fault_excludes r (payload.Hll4Fault.table w f c n m) = omega (arith, p.has_entries.table c (λ z. n (sym counted ∙ z)))
  hll4_fault_excludes r (payload.Hll4Fault.short f n) = omega (arith, p.size, buckets, front_le a t b e)
  hll4_fault_excludes r (payload.Hll4Fault.coupon f l n) = n (subst (AreEntries h.lg_k) entries p.are_entries)
  hll4_fault_excludes r (payload.Hll4Fault.number f l n) = n (ap length (sym entries) ∙ p.number ∙ counted)
  hll4_fault_excludes r (payload.Hll4Fault.register f l d m n) = n (λ s w.
      let P : List ℕ → List ℕ → Type 0 = λ ns es. Agrees h.minimum (nibble_at ns s) (entry_at h.lg_k es s) in
      subst (λ ns. P ns (entries_of h b)) nibbles (subst (P (nibbles_of h a)) entries (p.agree s w)))
