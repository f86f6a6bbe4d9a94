-- SPDX-License-Identifier: Apache-2.0
-- Payloads of lists and sets at the start of some bytes, and their faults.
use Rattle.std.proofs.Common.{◌≡◌, ℕ, ◌+◌, ◌*◌, ◌^◌, ◌<◌, ◌≤◌, zero, suc, Bool, cond, List, [], ◌∷◌, ◌++◌, length, get_or, take, drop, All, refl, sym, ap, subst, ◌∙◌, arith}
use Rattle.std.specs.Int.{w32, from_le_bytes}
use Rattle.std.proofs.lemmas.Nat.{from_le_bytes-to_le_bytes_4}
use Rattle.std.proofs.lemmas.List.Elements.{All-head, All-tail}
use Rattle.std.proofs.lemmas.List.{get_or_append_left, get_or-drop, drop-append-le, take_at, length-append, length-drop}
use Rattle.hll_base.specs.declared.error.Reason.{Reason}
use Rattle.hll_coupons.specs.Coupons.{raw_coupons, coupons_at, coupon_bytes, AreCoupons}
use Rattle.hll_coupons.specs.Table.{coupons_in}
use Rattle.hll_coupons.specs.Payload.{ListShape, HasListCount, list_buckets, list_coupons, IsListPayload, ListFault, SetShape, set_count, set_buckets, set_coupons, HasSetCount, IsSetPayload, SetFault}
use Rattle.hll_coupons.specs.Payload as payload

-- raw coupons followed by more bytes
raw_coupons-append : (n : ℕ) (l t : List ℕ) → 4 * n ≤ length l → raw_coupons n (l ++ t) ≡ raw_coupons n l
raw_coupons-append zero l t h = refl
raw_coupons-append (suc n) [] t h = absurd (omega arith)
raw_coupons-append (suc n) (a ∷ []) t h = absurd (omega arith)
raw_coupons-append (suc n) (a ∷ b ∷ []) t h = absurd (omega arith)
raw_coupons-append (suc n) (a ∷ b ∷ c ∷ []) t h = absurd (omega arith)
raw_coupons-append (suc n) (a ∷ b ∷ c ∷ d ∷ l) t h = ap (λ ws. from_le_bytes w32 (a ∷ b ∷ c ∷ d ∷ l) ∷ ws) (raw_coupons-append n l t (omega arith))

-- ---- a prefix of bytes
module _ (a t b : List ℕ) (e : a ++ t ≡ b) where
  pub front_le : length a ≤ length b
  front_le = omega (arith, length-append a t, ap length e)

  pub front_byte : (i : ℕ) → i < length a → get_or a i 0 ≡ get_or b i 0
  front_byte i h = sym (get_or_append_left a t 0 i h) ∙ ap (λ l. get_or l i 0) e

  pub front_rest : (n : ℕ) → n ≤ length a → drop n a ++ t ≡ drop n b
  front_rest n h = sym (ap (drop n) (sym e) ∙ drop-append-le n a t h)

  pub front_number : (n : ℕ) → n + 4 ≤ length a → from_le_bytes w32 (drop n a) ≡ from_le_bytes w32 (drop n b)
  front_number n h =
      let at : (i : ℕ) → i < 4 → get_or (drop n a) i 0 ≡ get_or (drop n b) i 0 = λ i l. get_or-drop n a i 0 ∙ front_byte (n + i) (omega arith) ∙ sym (get_or-drop n b i 0) in
      omega (arith, at 0 (omega arith), at 1 (omega arith), at 2 (omega arith), at 3 (omega arith))

  pub front_coupons : (compact : Bool) (n k : ℕ) → k + 4 * n ≤ length a → coupons_at compact n (drop k a) ≡ coupons_at compact n (drop k b)
  front_coupons compact n k h =
      let ws : raw_coupons n (drop k a) ≡ raw_coupons n (drop k b) = sym (ap (raw_coupons n) (sym (front_rest k (omega arith))) ∙ raw_coupons-append n (drop k a) t (omega (arith, length-drop k a))) in
      ap (λ ws. cond compact ws (coupons_in ws)) ws

  pub front_take : (n : ℕ) → n ≡ length a → a ≡ take n b
  front_take n h = sym (take_at a t n (sym h)) ∙ ap (take n) e

-- two prefixes of the same length are the same
pub same_fronts : (a b s t : List ℕ) → a ++ s ≡ b ++ t → length a ≡ length b → a ≡ b
same_fronts a b s t e n = sym (take_at a s (length b) n) ∙ ap (take (length b)) e ∙ take_at b t (length b) refl

-- ---- one payload

pub one_list : (h : ListShape) (a b s t : List ℕ) → IsListPayload h a → IsListPayload h b → a ++ s ≡ b ++ t → a ≡ b
one_list h a b s t p q e = same_fronts a b s t e (p.size ∙ sym q.size)

pub one_set : (h : SetShape) (a b s t : List ℕ) → IsSetPayload h a → IsSetPayload h b → a ++ s ≡ b ++ t → a ≡ b
one_set h a b s t p q e =
    let count : set_count a ≡ set_count b =
    front_number a s (a ++ s) refl 0 (omega (arith, p.count.whole)) ∙ ap set_count e ∙ sym (front_number b t (b ++ t) refl 0 (omega (arith, q.count.whole))) in
    same_fronts a b s t e (p.size ∙ ap (λ n. 4 + 4 * cond h.compact n (2 ^ h.lg_size)) count ∙ sym q.size)

-- ---- if there is a fault, no prefix is a payload

pub list_fault_excludes : (h : ListShape) (a t b : List ℕ) (r : Reason) → a ++ t ≡ b → IsListPayload h a → ListFault h b r → ⊥
list_fault_excludes h a t b r e p (payload.ListFault.count n) = n p.count
list_fault_excludes h a t b r e p (payload.ListFault.short c n) = omega (arith, p.size, front_le a t b e)
list_fault_excludes h a t b r e p (payload.ListFault.coupon c l n) = n (subst AreCoupons (front_coupons a t b e h.compact (list_buckets h) 0 (omega (arith, p.size))) p.are_coupons)
list_fault_excludes h a t b r e p (payload.ListFault.number c l n) = n (ap length (sym (front_coupons a t b e h.compact (list_buckets h) 0 (omega (arith, p.size)))) ∙ p.number)

-- the count of a set depends only on a prefix
front_set_count : (h : SetShape) (a t b : List ℕ) → a ++ t ≡ b → IsSetPayload h a → set_count a ≡ set_count b
front_set_count h a t b e p = front_number a t b e 0 (omega (arith, p.count.whole))

pub front_set_buckets : (h : SetShape) (a t b : List ℕ) → a ++ t ≡ b → IsSetPayload h a → set_buckets h a ≡ set_buckets h b
front_set_buckets h a t b e p = ap (λ n. cond h.compact n (2 ^ h.lg_size)) (front_set_count h a t b e p)

pub front_set_coupons : (h : SetShape) (a t b : List ℕ) → a ++ t ≡ b → IsSetPayload h a → set_coupons h a ≡ set_coupons h b
front_set_coupons h a t b e p =
    front_coupons a t b e h.compact (set_buckets h a) 4 (omega (arith, p.size))
    ∙ ap (λ n. coupons_at h.compact n (drop 4 b)) (front_set_buckets h a t b e p)

pub set_fault_excludes : (h : SetShape) (a t b : List ℕ) (r : Reason) → a ++ t ≡ b → IsSetPayload h a → SetFault h b r → ⊥
set_fault_excludes h a t b r e p (payload.SetFault.no_count n) = omega (arith, p.count.whole, front_le a t b e)
set_fault_excludes h a t b r e p (payload.SetFault.count w n) = omega (arith, p.count.low, front_set_count h a t b e p)
set_fault_excludes h a t b r e p (payload.SetFault.short c n) = omega (arith, p.size, front_set_buckets h a t b e p, front_le a t b e)
set_fault_excludes h a t b r e p (payload.SetFault.coupon c l n) = n (subst AreCoupons (front_set_coupons h a t b e p) p.are_coupons)
set_fault_excludes h a t b r e p (payload.SetFault.number c l n) = n (ap length (sym (front_set_coupons h a t b e p)) ∙ p.number ∙ front_set_count h a t b e p)

-- ---- coupons that were written

pub raw_coupons-written : (order rest : List ℕ) → All (λ c. c < 2 ^ 32) order → raw_coupons (length order) (coupon_bytes order ++ rest) ≡ order
raw_coupons-written [] rest h = refl
raw_coupons-written (c ∷ order) rest h =
    λ i. from_le_bytes-to_le_bytes_4 c (All-head (λ c. c < 2 ^ 32) c order h) i ∷ raw_coupons-written order rest (All-tail (λ c. c < 2 ^ 32) c order h) i

pub length-coupon_bytes : (order : List ℕ) → length (coupon_bytes order) ≡ 4 * length order
length-coupon_bytes [] = refl
length-coupon_bytes (c ∷ order) = omega (arith, length-coupon_bytes order)
