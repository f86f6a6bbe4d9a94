-- SPDX-License-Identifier: Apache-2.0
-- No image is a proper prefix of another, and an image has one meaning.
use Rattle.std.proofs.Common.{◌≡◌, ◌≢◌, ℕ, ◌/◌, ◌%◌, ◌<◌, ◌≤◌, eqb, List, ◌++◌, length, take, drop, refl, sym, ap, subst, ◌∙◌, arith}
use Rattle.std.proofs.lemmas.List.{take-append-drop, take-append-le}
use Rattle.hll_coupons.specs.Payload.{IsListPayload, IsSetPayload}
use Rattle.hll_coupons.proofs.Payloads.{front_byte, front_rest, one_list, one_set}
use Rattle.hll_registers.specs.Payload.{IsHll8Payload, IsHll6Payload, IsHll4Payload}
use Rattle.hll_arrays.proofs.Payloads.{one_hll8, one_hll6, one_hll4}
use Rattle.hll_sketch.specs.Image.{byte, stage_bits, width_bits, HasHeader, list_shape, set_shape, hll4_shape, list_value, set_value, hll8_value, hll6_value, hll4_value, IsListImage, IsSetImage, IsHll8Image, IsHll6Image, IsHll4Image, list, set, hll8, hll6, hll4, OneImage}

-- ---- a prefix of at least eight bytes has the header of all bytes

module _ (a t b : List ℕ) (e : a ++ t ≡ b) (whole : 8 ≤ length a) where
  pub at : (i : ℕ) → i < 8 → byte a i ≡ byte b i
  at i h = front_byte a t b e i (omega arith)

  pub rest : drop 8 a ++ t ≡ drop 8 b
  rest = front_rest a t b e 8 whole

  pub same_stage : stage_bits a ≡ stage_bits b
  same_stage = ap (λ v. v % 4) (at 7 (omega arith))

  pub same_width : width_bits a ≡ width_bits b
  same_width = ap (λ v. v / 4 % 4) (at 7 (omega arith))

  pub same_list_shape : list_shape a ≡ list_shape b
  same_list_shape = λ i. record { lg_size = 3; count = at 6 (omega arith) i; empty = eqb (at 5 (omega arith) i / 4 % 2) 1; compact = eqb (at 5 (omega arith) i / 8 % 2) 1 }

  pub same_set_shape : set_shape a ≡ set_shape b
  same_set_shape = λ i. record { lg_size = at 4 (omega arith) i; compact = eqb (at 5 (omega arith) i / 8 % 2) 1 }

  pub same_hll4_shape : hll4_shape a ≡ hll4_shape b
  same_hll4_shape = λ i. record { lg_k = at 3 (omega arith) i; minimum = at 6 (omega arith) i; compact = eqb (at 5 (omega arith) i / 8 % 2) 1; lg_table = at 4 (omega arith) i }

-- ---- one image

-- equal heads and equal rests make equal bytes
whole_of : (a b s t : List ℕ) → a ++ s ≡ b ++ t → 8 ≤ length a → 8 ≤ length b → drop 8 a ≡ drop 8 b → a ≡ b
whole_of a b s t e ha hb same =
    let heads : take 8 a ≡ take 8 b = sym (take-append-le 8 a s ha) ∙ ap (take 8) e ∙ take-append-le 8 b t hb in
    sym (take-append-drop 8 a) ∙ (λ i. heads i ++ same i) ∙ take-append-drop 8 b

module _ (a b s t : List ℕ) (e : a ++ s ≡ b ++ t) where
  -- both have the header of all bytes
  both_at : 8 ≤ length a → 8 ≤ length b → (i : ℕ) → i < 8 → byte a i ≡ byte b i
  both_at ha hb i h = at a s (b ++ t) e ha i h ∙ sym (at b t (b ++ t) refl hb i h)

  rests : 8 ≤ length a → 8 ≤ length b → drop 8 a ++ s ≡ drop 8 b ++ t
  rests ha hb = rest a s (b ++ t) e ha ∙ sym (rest b t (b ++ t) refl hb)

  apart_stage : {m n : ℕ} → HasHeader a m → HasHeader b n → m ≢ n → ⊥
  apart_stage h k differ = differ (sym h.stage_is ∙ same_stage a s (b ++ t) e h.whole ∙ sym (same_stage b t (b ++ t) refl k.whole) ∙ k.stage_is)

  apart_width : {m n u v : ℕ} → HasHeader a u → HasHeader b v → width_bits a ≡ m → width_bits b ≡ n → m ≢ n → ⊥
  apart_width h k wa wb differ = differ (sym wa ∙ same_width a s (b ++ t) e h.whole ∙ sym (same_width b t (b ++ t) refl k.whole) ∙ wb)

  list_bytes_same : IsListImage a → IsListImage b → a ≡ b
  list_bytes_same h k =
      let shape : list_shape a ≡ list_shape b = same_list_shape a s (b ++ t) e h.header.whole ∙ sym (same_list_shape b t (b ++ t) refl k.header.whole) in
      whole_of a b s t e h.header.whole k.header.whole
      (one_list (list_shape b) (drop 8 a) (drop 8 b) s t (subst (λ z. IsListPayload z (drop 8 a)) shape h.payload) k.payload (rests h.header.whole k.header.whole))

  set_bytes_same : IsSetImage a → IsSetImage b → a ≡ b
  set_bytes_same h k =
      let shape : set_shape a ≡ set_shape b = same_set_shape a s (b ++ t) e h.header.whole ∙ sym (same_set_shape b t (b ++ t) refl k.header.whole) in
      whole_of a b s t e h.header.whole k.header.whole
      (one_set (set_shape b) (drop 8 a) (drop 8 b) s t (subst (λ z. IsSetPayload z (drop 8 a)) shape h.payload) k.payload (rests h.header.whole k.header.whole))

  hll8_bytes_same : IsHll8Image a → IsHll8Image b → a ≡ b
  hll8_bytes_same h k =
      whole_of a b s t e h.header.whole k.header.whole
      (one_hll8 (byte b 3) (drop 8 a) (drop 8 b) s t (subst (λ n. IsHll8Payload n (drop 8 a)) (both_at h.header.whole k.header.whole 3 (omega arith)) h.payload) k.payload (rests h.header.whole k.header.whole))

  hll6_bytes_same : IsHll6Image a → IsHll6Image b → a ≡ b
  hll6_bytes_same h k =
      whole_of a b s t e h.header.whole k.header.whole
      (one_hll6 (byte b 3) (drop 8 a) (drop 8 b) s t (subst (λ n. IsHll6Payload n (drop 8 a)) (both_at h.header.whole k.header.whole 3 (omega arith)) h.payload) k.payload (rests h.header.whole k.header.whole))

  hll4_bytes_same : IsHll4Image a → IsHll4Image b → a ≡ b
  hll4_bytes_same h k =
      let shape : hll4_shape a ≡ hll4_shape b = same_hll4_shape a s (b ++ t) e h.header.whole ∙ sym (same_hll4_shape b t (b ++ t) refl k.header.whole) in
      whole_of a b s t e h.header.whole k.header.whole
      (one_hll4 (hll4_shape b) (drop 8 a) (drop 8 b) s t (subst (λ z. IsHll4Payload z (drop 8 a)) shape h.payload) k.payload (rests h.header.whole k.header.whole))

pub one_image : OneImage
one_image a b s t x y (list h v) (list k w) e = let same : a ≡ b = list_bytes_same a b s t e h k in (same, v ∙ ap list_value same ∙ sym w)
one_image a b s t x y (set h v) (set k w) e = let same : a ≡ b = set_bytes_same a b s t e h k in (same, v ∙ ap set_value same ∙ sym w)
one_image a b s t x y (hll8 h v) (hll8 k w) e = let same : a ≡ b = hll8_bytes_same a b s t e h k in (same, v ∙ ap hll8_value same ∙ sym w)
one_image a b s t x y (hll6 h v) (hll6 k w) e = let same : a ≡ b = hll6_bytes_same a b s t e h k in (same, v ∙ ap hll6_value same ∙ sym w)
one_image a b s t x y (hll4 h v) (hll4 k w) e = let same : a ≡ b = hll4_bytes_same a b s t e h k in (same, v ∙ ap hll4_value same ∙ sym w)
one_image a b s t x y (list h v) (set k w) e = absurd (apart_stage a b s t e h.header k.header (λ z. omega arith))
one_image a b s t x y (list h v) (hll8 k w) e = absurd (apart_stage a b s t e h.header k.header (λ z. omega arith))
one_image a b s t x y (list h v) (hll6 k w) e = absurd (apart_stage a b s t e h.header k.header (λ z. omega arith))
one_image a b s t x y (list h v) (hll4 k w) e = absurd (apart_stage a b s t e h.header k.header (λ z. omega arith))
one_image a b s t x y (set h v) (list k w) e = absurd (apart_stage a b s t e h.header k.header (λ z. omega arith))
one_image a b s t x y (set h v) (hll8 k w) e = absurd (apart_stage a b s t e h.header k.header (λ z. omega arith))
one_image a b s t x y (set h v) (hll6 k w) e = absurd (apart_stage a b s t e h.header k.header (λ z. omega arith))
one_image a b s t x y (set h v) (hll4 k w) e = absurd (apart_stage a b s t e h.header k.header (λ z. omega arith))
one_image a b s t x y (hll8 h v) (list k w) e = absurd (apart_stage a b s t e h.header k.header (λ z. omega arith))
one_image a b s t x y (hll8 h v) (set k w) e = absurd (apart_stage a b s t e h.header k.header (λ z. omega arith))
one_image a b s t x y (hll8 h v) (hll6 k w) e = absurd (apart_width a b s t e h.header k.header h.width k.width (λ z. omega arith))
one_image a b s t x y (hll8 h v) (hll4 k w) e = absurd (apart_width a b s t e h.header k.header h.width k.width (λ z. omega arith))
one_image a b s t x y (hll6 h v) (list k w) e = absurd (apart_stage a b s t e h.header k.header (λ z. omega arith))
one_image a b s t x y (hll6 h v) (set k w) e = absurd (apart_stage a b s t e h.header k.header (λ z. omega arith))
one_image a b s t x y (hll6 h v) (hll8 k w) e = absurd (apart_width a b s t e h.header k.header h.width k.width (λ z. omega arith))
one_image a b s t x y (hll6 h v) (hll4 k w) e = absurd (apart_width a b s t e h.header k.header h.width k.width (λ z. omega arith))
one_image a b s t x y (hll4 h v) (list k w) e = absurd (apart_stage a b s t e h.header k.header (λ z. omega arith))
one_image a b s t x y (hll4 h v) (set k w) e = absurd (apart_stage a b s t e h.header k.header (λ z. omega arith))
one_image a b s t x y (hll4 h v) (hll8 k w) e = absurd (apart_width a b s t e h.header k.header h.width k.width (λ z. omega arith))
one_image a b s t x y (hll4 h v) (hll6 k w) e = absurd (apart_width a b s t e h.header k.header h.width k.width (λ z. omega arith))
