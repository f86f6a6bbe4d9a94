-- SPDX-License-Identifier: Apache-2.0
-- If bytes have a fault, no prefix of them is an image.
use Rattle.std.proofs.Common.{◌≡◌, ℕ, List, ◌++◌, take, drop, sym, ap, subst, ◌∙◌, arith}
use Rattle.std.proofs.lemmas.List.{take-append-drop, length-drop}
use Rattle.hll_base.specs.declared.error.Reason.{Reason}
use Rattle.hll_coupons.specs.Payload.{IsListPayload, IsSetPayload}
use Rattle.hll_coupons.proofs.Payloads.{front_le, list_fault_excludes, set_fault_excludes}
use Rattle.hll_registers.specs.Payload.{IsHll8Payload, IsHll6Payload, IsHll4Payload}
use Rattle.hll_arrays.proofs.Payloads.{hll8_fault_excludes, hll6_fault_excludes, hll4_fault_excludes}
use Rattle.hll_sketch.specs.Image.{byte, preamble_words, HasHeader, list_shape, set_shape, hll4_shape, IsListImage, IsSetImage, IsHll8Image, IsHll6Image, IsHll4Image, list, set, hll8, hll6, hll4}
use Rattle.hll_sketch.specs.Fault.{IsFault, HeaderFault, FaultExcludesHeader, FaultExcludesImage}
use Rattle.hll_sketch.specs.Fault as fault
use Rattle.hll_sketch.proofs.Headers.{HasHeader-same}
use Rattle.hll_sketch.proofs.Images.{at, rest, same_width, same_list_shape, same_set_shape, same_hll4_shape}

-- ---- if the header has a fault, it is the header of no stage

pub fault_excludes_header : FaultExcludesHeader
fault_excludes_header b r s three (fault.HeaderFault.short l) h = omega (arith, h.whole)
fault_excludes_header b r s three (fault.HeaderFault.family l n) h = n h.family
fault_excludes_header b r s three (fault.HeaderFault.version l n) h = n h.version
fault_excludes_header b r s three (fault.HeaderFault.lg_k l n) h = n h.lg_k
fault_excludes_header b r s three (fault.HeaderFault.width l n) h = omega (arith, h.width)
fault_excludes_header b r s three (fault.HeaderFault.stage l n) h = omega (arith, h.stage_is)
fault_excludes_header b r s three (fault.HeaderFault.preamble l below n) h = n (h.preamble ∙ ap preamble_words (sym h.stage_is))

-- ---- if bytes have a fault, no prefix of them is an image

module _ (a t b : List ℕ) (e : a ++ t ≡ b) where
  -- the checks of every stage, carried over to all bytes
  headed : {s : ℕ} → HasHeader a s → HasHeader b s
  headed h = HasHeader-same a b (at a t b e h.whole) (omega (arith, h.whole, front_le a t b e)) h

  not_list : IsListImage a → (r : Reason) → IsFault b r → ⊥
  not_list h r f = of r f
    where
      header : HasHeader b 0
      header = headed h.header

      of : (r : Reason) → IsFault b r → ⊥
      of r (fault.IsFault.header f) = fault_excludes_header b r 0 (omega arith) f header
      of r (fault.IsFault.list_table l s n) = n (sym (at a t b e h.header.whole 4 (omega arith)) ∙ h.table)
      of r (fault.IsFault.list_payload l s n) = list_fault_excludes (list_shape b) (drop 8 a) t (drop 8 b) r (rest a t b e h.header.whole) (subst (λ z. IsListPayload z (drop 8 a)) (same_list_shape a t b e h.header.whole) h.payload) n
      of r (fault.IsFault.set_table l s k n) = omega (arith, header.stage_is)
      of r (fault.IsFault.set_short l s n) = omega (arith, header.stage_is)
      of r (fault.IsFault.set_payload l s k c n) = omega (arith, header.stage_is)
      of r (fault.IsFault.hll_short l s w n) = omega (arith, header.stage_is)
      of r (fault.IsFault.hll8_payload l s w k n) = omega (arith, header.stage_is)
      of r (fault.IsFault.hll6_payload l s w k n) = omega (arith, header.stage_is)
      of r (fault.IsFault.hll4_payload l s w k n) = omega (arith, header.stage_is)

  not_set : IsSetImage a → (r : Reason) → IsFault b r → ⊥
  not_set h r f = of r f
    where
      header : HasHeader b 1
      header = headed h.header

      of : (r : Reason) → IsFault b r → ⊥
      of r (fault.IsFault.header f) = fault_excludes_header b r 1 (omega arith) f header
      of r (fault.IsFault.list_table l s n) = omega (arith, header.stage_is)
      of r (fault.IsFault.list_payload l s n) = omega (arith, header.stage_is)
      of r (fault.IsFault.set_table l s k n) = n (record { low = omega (arith, at a t b e h.header.whole 4 (omega arith), h.table.low); high = omega (arith, at a t b e h.header.whole 4 (omega arith), at a t b e h.header.whole 3 (omega arith), h.table.high) })
      of r (fault.IsFault.set_short l s n) = omega (arith, h.payload.count.whole, length-drop 8 a, front_le a t b e)
      of r (fault.IsFault.set_payload l s k c n) = set_fault_excludes (set_shape b) (drop 8 a) t (drop 8 b) r (rest a t b e h.header.whole) (subst (λ z. IsSetPayload z (drop 8 a)) (same_set_shape a t b e h.header.whole) h.payload) n
      of r (fault.IsFault.hll_short l s w n) = omega (arith, header.stage_is)
      of r (fault.IsFault.hll8_payload l s w k n) = omega (arith, header.stage_is)
      of r (fault.IsFault.hll6_payload l s w k n) = omega (arith, header.stage_is)
      of r (fault.IsFault.hll4_payload l s w k n) = omega (arith, header.stage_is)

  not_hll8 : IsHll8Image a → (r : Reason) → IsFault b r → ⊥
  not_hll8 h r f = of r f
    where
      header : HasHeader b 2
      header = headed h.header

      of : (r : Reason) → IsFault b r → ⊥
      of r (fault.IsFault.header f) = fault_excludes_header b r 2 (omega arith) f header
      of r (fault.IsFault.list_table l s n) = omega (arith, header.stage_is)
      of r (fault.IsFault.list_payload l s n) = omega (arith, header.stage_is)
      of r (fault.IsFault.set_table l s k n) = omega (arith, header.stage_is)
      of r (fault.IsFault.set_short l s n) = omega (arith, header.stage_is)
      of r (fault.IsFault.set_payload l s k c n) = omega (arith, header.stage_is)
      of r (fault.IsFault.hll_short l s w n) = omega (arith, h.payload.size, length-drop 8 a, front_le a t b e)
      of r (fault.IsFault.hll8_payload l s w k n) = hll8_fault_excludes (byte b 3) (drop 8 a) t (drop 8 b) r (rest a t b e h.header.whole) (subst (λ z. IsHll8Payload z (drop 8 a)) (at a t b e h.header.whole 3 (omega arith)) h.payload) n
      of r (fault.IsFault.hll6_payload l s w k n) = omega (arith, same_width a t b e h.header.whole, h.width)
      of r (fault.IsFault.hll4_payload l s w k n) = omega (arith, same_width a t b e h.header.whole, h.width)

  not_hll6 : IsHll6Image a → (r : Reason) → IsFault b r → ⊥
  not_hll6 h r f = of r f
    where
      header : HasHeader b 2
      header = headed h.header

      of : (r : Reason) → IsFault b r → ⊥
      of r (fault.IsFault.header f) = fault_excludes_header b r 2 (omega arith) f header
      of r (fault.IsFault.list_table l s n) = omega (arith, header.stage_is)
      of r (fault.IsFault.list_payload l s n) = omega (arith, header.stage_is)
      of r (fault.IsFault.set_table l s k n) = omega (arith, header.stage_is)
      of r (fault.IsFault.set_short l s n) = omega (arith, header.stage_is)
      of r (fault.IsFault.set_payload l s k c n) = omega (arith, header.stage_is)
      of r (fault.IsFault.hll_short l s w n) = omega (arith, h.payload.size, length-drop 8 a, front_le a t b e)
      of r (fault.IsFault.hll8_payload l s w k n) = omega (arith, same_width a t b e h.header.whole, h.width)
      of r (fault.IsFault.hll6_payload l s w k n) = hll6_fault_excludes (byte b 3) (drop 8 a) t (drop 8 b) r (rest a t b e h.header.whole) (subst (λ z. IsHll6Payload z (drop 8 a)) (at a t b e h.header.whole 3 (omega arith)) h.payload) n
      of r (fault.IsFault.hll4_payload l s w k n) = omega (arith, same_width a t b e h.header.whole, h.width)

  not_hll4 : IsHll4Image a → (r : Reason) → IsFault b r → ⊥
  not_hll4 h r f = of r f
    where
      header : HasHeader b 2
      header = headed h.header

      of : (r : Reason) → IsFault b r → ⊥
      of r (fault.IsFault.header f) = fault_excludes_header b r 2 (omega arith) f header
      of r (fault.IsFault.list_table l s n) = omega (arith, header.stage_is)
      of r (fault.IsFault.list_payload l s n) = omega (arith, header.stage_is)
      of r (fault.IsFault.set_table l s k n) = omega (arith, header.stage_is)
      of r (fault.IsFault.set_short l s n) = omega (arith, header.stage_is)
      of r (fault.IsFault.set_payload l s k c n) = omega (arith, header.stage_is)
      of r (fault.IsFault.hll_short l s w n) = omega (arith, h.payload.has_entries.whole, length-drop 8 a, front_le a t b e)
      of r (fault.IsFault.hll8_payload l s w k n) = omega (arith, same_width a t b e h.header.whole, h.width)
      of r (fault.IsFault.hll6_payload l s w k n) = omega (arith, same_width a t b e h.header.whole, h.width)
      of r (fault.IsFault.hll4_payload l s w k n) = hll4_fault_excludes (hll4_shape b) (drop 8 a) t (drop 8 b) (rest a t b e h.header.whole) (subst (λ z. IsHll4Payload z (drop 8 a)) (same_hll4_shape a t b e h.header.whole) h.payload) r n

pub fault_excludes_image : FaultExcludesImage
fault_excludes_image b r f n x (list h v) = not_list (take n b) (drop n b) b (take-append-drop n b) h r f
fault_excludes_image b r f n x (set h v) = not_set (take n b) (drop n b) b (take-append-drop n b) h r f
fault_excludes_image b r f n x (hll8 h v) = not_hll8 (take n b) (drop n b) b (take-append-drop n b) h r f
fault_excludes_image b r f n x (hll6 h v) = not_hll6 (take n b) (drop n b) b (take-append-drop n b) h r f
fault_excludes_image b r f n x (hll4 h v) = not_hll4 (take n b) (drop n b) b (take-append-drop n b) h r f
