-- SPDX-License-Identifier: Apache-2.0
-- The sketch of an image is legal.
use Rattle.std.proofs.Common.{nat_lt, ◌≡◌, ℕ, ◌+◌, ◌-◌, ◌*◌, ◌%◌, ◌^◌, ◌<◌, ◌≤◌, zero, suc, Bool, true, false, eqb, List, [], ◌∷◌, length, get_or, drop, All, Option, Some, None, refl, sym, ap, subst, ◌∙◌, arith, inl, inr}
use Rattle.std.specs.Int.{w32, w64, from_le_bytes}
use Rattle.std.specs.Option.{option_map}
use Rattle.std.specs.Prelude.{find}
use Rattle.std.specs.Ordering.{nat_cmp, eq_by_cmp}
use Rattle.std.specs.Cmp.{nat_cmp_total}
use Rattle.std.specs.FinSet.{contains-from_list}
use Rattle.std.proofs.lemmas.Bool.{true≢false, or_cases}
use Rattle.std.proofs.lemmas.List.{length-drop, drop-drop}
use Rattle.std.proofs.lemmas.List.Elements.{All-from_get_or, All-tail, All-filter}
use Rattle.std.proofs.lemmas.List.FromFn.{length-map-range_with_len, get_or-map-range_with_len}
use Rattle.std.proofs.Math.Nat.{pow-suc}
use Rattle.hll_coupons.specs.Pair.{IsPair, set_of, slot_of, value_of}
use Rattle.hll_coupons.specs.Coupons.{raw_coupons, coupons_at}
use Rattle.hll_coupons.proofs.Greatest.{same_raw_coupon}
use Rattle.hll_coupons.proofs.Listed.{has, finds}
use Rattle.hll_registers.specs.State.{IsState}
use Rattle.hll_kernels.specs.Packed.{AreRegisters}
use Rattle.hll_kernels.specs.Packed.{fields, nibble_at}
use Rattle.hll_coupons.specs.AuxMap.{entry_at}
use Rattle.hll_registers.specs.Payload.{state_at, Hll4Shape, IsHll4Payload, Agrees, register_of, entries_of, nibbles_of, exception_buckets, registers_of}
use Rattle.hll_kernels.proofs.Grouping.{length-fields}
use Rattle.hll_sketch.specs.Value.{ArePairs}
use Rattle.hll_sketch.specs.Image.{AreBytes, list, set, hll8, hll6, hll4, list_shape, set_shape, hll4_shape, ImageIsLegal}

-- a byte of the list, or 0 past its end
byte_at : (b : List ℕ) (i : ℕ) → AreBytes b → get_or b i 0 < 256
byte_at [] i h = omega arith
byte_at (c ∷ b) zero h = h 0 0 (omega arith)
byte_at (c ∷ b) (suc i) h = byte_at b i (All-tail (λ c. c < 256) c b h)

AreBytes-drop : (n : ℕ) (b : List ℕ) → AreBytes b → AreBytes (drop n b)
AreBytes-drop zero b h = h
AreBytes-drop (suc n) [] h = h
AreBytes-drop (suc n) (c ∷ b) h = AreBytes-drop n b (All-tail (λ c. c < 256) c b h)

word32 : (b : List ℕ) → AreBytes b → from_le_bytes w32 b < 2 ^ 32
word32 b h = omega (arith, byte_at b 0 h, byte_at b 1 h, byte_at b 2 h, byte_at b 3 h)

word64 : (b : List ℕ) → AreBytes b → from_le_bytes w64 b < 2 ^ 64
word64 b h = omega (arith, byte_at b 0 h, byte_at b 1 h, byte_at b 2 h, byte_at b 3 h, byte_at b 4 h, byte_at b 5 h, byte_at b 6 h, byte_at b 7 h)

-- ---- coupons

abbrev Fits : ℕ → Type 0
Fits c = c < 2 ^ 32

raw_coupons_fit : (n : ℕ) (b : List ℕ) → AreBytes b → All Fits (raw_coupons n b)
raw_coupons_fit n b h = All-from_get_or Fits (raw_coupons n b) 0 (of n b h)
  where
    of : (n : ℕ) (b : List ℕ) → AreBytes b → (i : ℕ) → i < length (raw_coupons n b) → get_or (raw_coupons n b) i 0 < 2 ^ 32
    of zero b h i l = absurd (omega arith)
    of (suc n) b h zero l = word32 b h
    of (suc n) b h (suc i) l = of n (drop 4 b) (AreBytes-drop 4 b h) i (omega arith)

coupons_fit : (compact : Bool) (n : ℕ) (b : List ℕ) → AreBytes b → All Fits (coupons_at compact n b)
coupons_fit true n b h = raw_coupons_fit n b h
coupons_fit false n b h = All-filter (λ c. nat_lt 0 c) Fits (raw_coupons n b) (raw_coupons_fit n b h)

-- what holds for each number of a list holds for each of its members
member : (P : ℕ → Type 0) (xs : List ℕ) (c : ℕ) → All P xs → has c xs ≡ true → P c
member P [] c h m = absurd (true≢false (sym m))
member P (x ∷ xs) c h m = elim (or_cases (eq_by_cmp nat_cmp c x) (has c xs) m) [
  | inl e ↦ subst P (sym (same_raw_coupon c x e)) (h 0 0 (omega arith))
  | inr l ↦ member P xs c (All-tail P x xs h) l
]

pub ArePairs-set_of : (cs : List ℕ) → All IsPair cs → ArePairs (set_of cs)
ArePairs-set_of cs h c m = member IsPair cs c h (sym (contains-from_list nat_cmp_total cs c) ∙ m)

are_pairs : (cs : List ℕ) → All (λ c. 1 ≤ value_of c) cs → All Fits cs → ArePairs (set_of cs)
are_pairs cs valued fit c m =
    let there : has c cs ≡ true = sym (contains-from_list nat_cmp_total cs c) ∙ m in
    let low : 1 ≤ value_of c = member (λ c. 1 ≤ value_of c) cs c valued there in
    let high : c < 2 ^ 32 = member Fits cs c fit there in
    record { valued = low; small = omega arith }

-- ---- registers

three : (P : ℕ → Type 0) (a b c : ℕ) → P a → P b → P c → All P (a ∷ b ∷ c ∷ [])
three P a b c ha hb hc = All-from_get_or P (a ∷ b ∷ c ∷ []) 0 at
  where
    at : (i : ℕ) → i < 3 → P (get_or (a ∷ b ∷ c ∷ []) i 0)
    at zero h = ha
    at (suc zero) h = hb
    at (suc (suc zero)) h = hc
    at (suc (suc (suc i))) h = absurd (omega arith)

is_state : (flag : Bool) (b : List ℕ) → AreBytes b → IsState (state_at flag b)
is_state flag b h = record {
  three = refl;
  words = three (λ w. w < 2 ^ 64) _ _ _ (word64 b h) (word64 (drop 8 b) (AreBytes-drop 8 b h)) (word64 (drop 16 b) (AreBytes-drop 16 b h));
}

fields_small : (b : List ℕ) (i : ℕ) → AreBytes b → i < length (fields b) → get_or (fields b) i 0 ≤ 63
fields_small [] i h l = absurd (omega arith)
fields_small (a ∷ []) i h l = absurd (omega arith)
fields_small (a ∷ b ∷ []) i h l = absurd (omega arith)
fields_small (a ∷ b ∷ c ∷ rest) zero h l = omega arith
fields_small (a ∷ b ∷ c ∷ rest) (suc zero) h l = omega arith
fields_small (a ∷ b ∷ c ∷ rest) (suc (suc zero)) h l = omega arith
fields_small (a ∷ b ∷ c ∷ rest) (suc (suc (suc zero))) h l =
    let ha : a < 256 = h 0 0 (omega arith) in
    let hb : b < 256 = h 1 0 (omega arith) in
    let hc : c < 256 = h 2 0 (omega arith) in
    omega arith
fields_small (a ∷ b ∷ c ∷ rest) (suc (suc (suc (suc i)))) h l = fields_small rest i (AreBytes-drop 3 (a ∷ b ∷ c ∷ rest) h) (omega arith)

entry_small : (k : ℕ) (entries : List ℕ) (s v : ℕ) → All Fits entries → entry_at k entries s ≡ Some v → v ≤ 63
entry_small k entries s v fit e = of (find (λ c. eqb (slot_of c % 2 ^ k) s) entries) refl e
  where
    of : (found : Option ℕ) → find (λ c. eqb (slot_of c % 2 ^ k) s) entries ≡ found → option_map value_of found ≡ Some v → v ≤ 63
    of None f e = cc
    of (Some c) f e =
        let there : has c entries ≡ true = (finds (λ c. eqb (slot_of c % 2 ^ k) s) entries c f).0 in
        let high : c < 2 ^ 32 = member Fits entries c fit there in
        let is : value_of c ≡ v = cc in
        omega arith

register_small : (m n : ℕ) (found : Option ℕ) → ((v : ℕ) → found ≡ Some v → v ≤ 63) → Agrees m n found → register_of m n found ≤ 63
register_small m n None h a = a.1
register_small m n (Some v) h a = h v refl

module _ (h : Hll4Shape) (b : List ℕ) (bytes : AreBytes b) (p : IsHll4Payload h b) where
  entries_fit : All Fits (entries_of h b)
  entries_fit = coupons_fit h.compact (exception_buckets h b) (drop (32 + 2 ^ (h.lg_k - 1)) b) (AreBytes-drop (32 + 2 ^ (h.lg_k - 1)) b bytes)

  abbrev at_slot : ℕ → ℕ
  at_slot s = register_of h.minimum (nibble_at (nibbles_of h b) s) (entry_at h.lg_k (entries_of h b) s)

  are_registers4 : AreRegisters h.lg_k (registers_of h b)
  are_registers4 = record {
    size = length-map-range_with_len at_slot 0 (2 ^ h.lg_k);
    small = All-from_get_or (λ v. v ≤ 63) (registers_of h b) 0 (λ s l.
        let within : s < 2 ^ h.lg_k = omega (arith, length-map-range_with_len at_slot 0 (2 ^ h.lg_k)) in
        let is : get_or (registers_of h b) s 0 ≡ at_slot s = get_or-map-range_with_len at_slot 0 (2 ^ h.lg_k) s s 0 within (omega arith) in
        let low : at_slot s ≤ 63 = register_small h.minimum (nibble_at (nibbles_of h b) s) (entry_at h.lg_k (entries_of h b) s) (λ v e. entry_small h.lg_k (entries_of h b) s v entries_fit e) (p.agree s within) in
        omega arith);
  }

-- ---- every case

pub image_is_legal : ImageIsLegal
image_is_legal b x bytes (list h v) = rw v (record {
  lg_k = h.header.lg_k;
  content = (
    are_pairs _ h.payload.are_coupons.valued (coupons_fit (list_shape b).compact _ (drop 8 b) (AreBytes-drop 8 b bytes)),
    inl (refl, omega (arith, h.payload.are_coupons.distinct, h.payload.number, h.payload.count.low)),
  );
})
image_is_legal b x bytes (set h v) = rw v (record {
  lg_k = h.header.lg_k;
  content = (
    are_pairs _ h.payload.are_coupons.valued (coupons_fit (set_shape b).compact _ (drop 4 (drop 8 b)) (AreBytes-drop 4 (drop 8 b) (AreBytes-drop 8 b bytes))),
    inr (h.table.low, h.table.high, omega (arith, h.payload.are_coupons.distinct, h.payload.number, h.payload.count.low)),
  );
})
image_is_legal b x bytes (hll8 h v) =
    let rest : drop 32 (drop 8 b) ≡ drop 40 b = drop-drop 32 8 b in
    rw v (record {
      lg_k = h.header.lg_k;
      content = (
        record {
          size = omega (arith, h.payload.size, length-drop 8 b, length-drop 40 b);
          small = subst (All (λ v. v ≤ 63)) rest h.payload.small;
        },
        is_state _ (drop 8 b) (AreBytes-drop 8 b bytes),
      );
    })
image_is_legal b x bytes (hll6 h v) =
    let k : ℕ = get_or b 3 0 in
    let groups : 2 ^ k ≡ 4 * 2 ^ (k - 2) = ap (λ n. 2 ^ n) (let e : k ≡ suc (suc (k - 2)) = omega (arith, h.header.lg_k.low) in e) ∙ omega (arith, pow-suc 2 (suc (k - 2)), pow-suc 2 (k - 2)) in
    let size : length (drop 40 b) ≡ 3 * 2 ^ (k - 2) + 1 = omega (arith, h.payload.size, length-drop 8 b, length-drop 40 b, groups) in
    rw v (record {
      lg_k = h.header.lg_k;
      content = (
        record {
          size = length-fields (2 ^ (k - 2)) (drop 40 b) size ∙ sym groups;
          small = All-from_get_or (λ v. v ≤ 63) (fields (drop 40 b)) 0 (λ i l. fields_small (drop 40 b) i (AreBytes-drop 40 b bytes) l);
        },
        is_state _ (drop 8 b) (AreBytes-drop 8 b bytes),
      );
    })
image_is_legal b x bytes (hll4 h v) = rw v (record {
  lg_k = h.header.lg_k;
  content = (are_registers4 (hll4_shape b) (drop 8 b) (AreBytes-drop 8 b bytes) h.payload, is_state _ (drop 8 b) (AreBytes-drop 8 b bytes));
})
