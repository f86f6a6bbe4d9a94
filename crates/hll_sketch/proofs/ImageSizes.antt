-- SPDX-License-Identifier: Apache-2.0
-- The size of an image.
use Rattle.std.proofs.Common.{◌≡◌, ℕ, ◌+◌, ◌*◌, ◌^◌, cond, eqb, List, ◌++◌, length, take, drop, Some, None, sym, ap, subst, ◌∙◌, arith}
use Rattle.std.proofs.lemmas.List.{take-append-drop, length-drop, length-append}
use Rattle.std.proofs.Math.Seq.{take-append_seam}
use Rattle.hll_base.specs.declared.error.Reason.{Reason}
use Rattle.hll_coupons.proofs.Payloads.{front_set_buckets}
use Rattle.hll_coupons.specs.Payload.{list_buckets, set_buckets, IsSetPayload}
use Rattle.hll_registers.specs.Payload.{field_size, hll4_size, IsHll4Payload}
use Rattle.hll_arrays.proofs.Payloads.{front_buckets}
use Rattle.hll_sketch.specs.Image.{lg_k_byte, width_bits, HasHeader, list_shape, set_shape, hll4_shape, Image, list, set, hll8, hll6, hll4, IsReadAs, IsSizeOfImage, asked_size}
use Rattle.hll_sketch.specs.Checks.{first_failing, header_checks}
use Rattle.hll_sketch.specs.Value.{Sketch}
use Rattle.hll_sketch.proofs.CountChecks.{header_if_read}
use Rattle.hll_sketch.proofs.Images.{at, rest, same_stage, same_width, same_list_shape, same_set_shape, same_hll4_shape}

-- ---- a prefix

-- by the stage and the width
abbrev asked_by : List ℕ → ℕ → ℕ → ℕ
asked_by b stage width =
    cond (eqb stage 0) (8 + 4 * list_buckets (list_shape b))
    (cond (eqb stage 1) (12 + 4 * set_buckets (set_shape b) (drop 8 b))
    (cond (eqb width 0) (8 + hll4_size (hll4_shape b) (drop 8 b))
    (cond (eqb width 1) (40 + field_size (lg_k_byte b)) (40 + 2 ^ lg_k_byte b))))

module _ (a t b : List ℕ) (e : a ++ t ≡ b) where
  stage_as : (s : ℕ) → HasHeader a s → asked_size b ≡ asked_by b s (width_bits b)
  stage_as s h = ap (λ n. asked_by b n (width_bits b)) (sym (same_stage a t b e h.whole) ∙ h.stage_is)

  width_as : (w : ℕ) → HasHeader a 2 → width_bits a ≡ w → asked_size b ≡ asked_by b 2 w
  width_as w h is = stage_as 2 h ∙ ap (asked_by b 2) (sym (same_width a t b e h.whole) ∙ is)

  -- a prefix that is an image has the size that the header and counts of all bytes say
  size_of_front : (x : Sketch) → Image a x → asked_size b ≡ length a
  size_of_front x (list is v) =
      omega (arith, stage_as 0 is.header, is.payload.size, ap (λ h. list_buckets h) (same_list_shape a t b e is.header.whole), length-drop 8 a, is.header.whole)
  size_of_front x (set is v) =
      let shape : set_shape a ≡ set_shape b = same_set_shape a t b e is.header.whole in
      let payload : IsSetPayload (set_shape b) (drop 8 a) = subst (λ h. IsSetPayload h (drop 8 a)) shape is.payload in
      let buckets = front_set_buckets (set_shape b) (drop 8 a) t (drop 8 b) (rest a t b e is.header.whole) payload in
      omega (arith, stage_as 1 is.header, payload.size, buckets, length-drop 8 a, is.header.whole)
  size_of_front x (hll8 is v) =
      omega (arith, width_as 2 is.header is.width, is.payload.size, ap (λ k. 2 ^ k) (at a t b e is.header.whole 3 (omega arith)), length-drop 8 a, is.header.whole)
  size_of_front x (hll6 is v) =
      omega (arith, width_as 1 is.header is.width, is.payload.size, ap field_size (at a t b e is.header.whole 3 (omega arith)), length-drop 8 a, is.header.whole)
  size_of_front x (hll4 is v) =
      let shape : hll4_shape a ≡ hll4_shape b = same_hll4_shape a t b e is.header.whole in
      let payload : IsHll4Payload (hll4_shape b) (drop 8 a) = subst (λ h. IsHll4Payload h (drop 8 a)) shape is.payload in
      let buckets = front_buckets (hll4_shape b) (drop 8 a) t (drop 8 b) (rest a t b e is.header.whole) payload.has_entries.whole in
      omega (arith, width_as 0 is.header is.width, payload.size, buckets, length-drop 8 a, is.header.whole)

-- bytes that are read begin with an image of that size
pub size_is_asked : (b : List ℕ) (x : Sketch) → IsReadAs b x → IsSizeOfImage b (asked_size b)
size_is_asked b x read =
    let a : List ℕ = take read.size b in
    let t : List ℕ = drop read.size b in
    let cut : a ++ t ≡ b = take-append-drop read.size b in
    let size : asked_size b ≡ length a = size_of_front a t b cut x read.image in
    let same : take (asked_size b) b ≡ a = (λ i. take (size i) (sym cut i)) ∙ take-append_seam a t in
    record {
      there = omega (arith, size, ap length cut, length-append a t);
      sketch = x;
      image = subst (λ c. Image c x) (sym same) read.image;
    }

-- a header that fails a check is that of no image
pub no_header : (b : List ℕ) (x : Sketch) (e : Reason) → IsReadAs b x → first_failing (header_checks b) ≡ Some e → ⊥
no_header b x e read fails =
    let both : Some e ≡ None = sym fails ∙ header_if_read b x read in
    absurd (cc)
