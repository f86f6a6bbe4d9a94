-- SPDX-License-Identifier: Apache-2.0
-- What the header of an image says of its coupons.
use Rattle.std.proofs.Common.{◌≡◌, ℕ, ◌/◌, ◌%◌, ◌<◌, true, false, List, length, take, drop, sym, ap, subst, ◌∙◌, arith}
use Rattle.std.proofs.lemmas.List.{take-append-drop}
use Rattle.hll_coupons.specs.Pair.{set_of}
use Rattle.hll_coupons.specs.Coupons.{AreCoupons}
use Rattle.hll_sketch.specs.Header.{header_of}
use Rattle.hll_sketch.specs.declared.header.Header.{Header}
use Rattle.hll_sketch.specs.Image.{AreBytes, byte, lg_k_byte, table_byte, width_bits, width_of_bits, HasHeader, list, set, hll8, hll6, hll4}
use Rattle.hll_sketch.specs.MergedIn.{IsOfCoupons}
use Rattle.hll_sketch.specs.Value.{Sketch, Content, coupons, registers, in_registers, IsLgK, IsTableFor, IsLegal}
use Rattle.hll_sketch.proofs.Images.{at}
use Rattle.hll_sketch.proofs.MergedImages.{read_is_legal}

-- the size of a table; registers have none
abbrev size_of_table : Content → ℕ
size_of_table (coupons S size) = size
size_of_table (registers R state) = 0

module _ (b order : List ℕ) (of : IsOfCoupons b order) where
  abbrev front : List ℕ
  front = take of.read.size b

  byte_is : (s i : ℕ) → HasHeader front s → i < 8 → byte front i ≡ byte b i
  byte_is s i h within = at front (drop of.read.size b) b (take-append-drop of.read.size b) h.whole i within

  no_registers : of.sketch.content ≡ coupons (set_of order) of.size → in_registers of.sketch.content ≡ true → ⊥
  no_registers is inside = let no : false ≡ true = sym (ap in_registers is) ∙ inside in cc

  pub coupons_say : (of.sketch.lg_k ≡ lg_k_byte b) × (of.size ≡ table_byte b)
  coupons_say = elim of.read.image [
    | list is e ↦ (ap (λ (x : Sketch). x.lg_k) e ∙ byte_is 0 3 is.header (omega arith), ap size_of_table (sym of.content ∙ ap (λ (x : Sketch). x.content) e) ∙ sym is.table ∙ byte_is 0 4 is.header (omega arith))
    | set is e ↦ (ap (λ (x : Sketch). x.lg_k) e ∙ byte_is 1 3 is.header (omega arith), ap size_of_table (sym of.content ∙ ap (λ (x : Sketch). x.content) e) ∙ byte_is 1 4 is.header (omega arith))
    | hll8 is e ↦ absurd (no_registers of.content (ap (λ (x : Sketch). in_registers x.content) e))
    | hll6 is e ↦ absurd (no_registers of.content (ap (λ (x : Sketch). in_registers x.content) e))
    | hll4 is e ↦ absurd (no_registers of.content (ap (λ (x : Sketch). in_registers x.content) e))
  ]

  width_is : (s : ℕ) → HasHeader front s → width_of_bits (width_bits front) ≡ width_of_bits (width_bits b)
  width_is s h = ap (λ v. width_of_bits (v / 4 % 4)) (byte_is s 7 h (omega arith))

  pub coupons_have : of.sketch.width ≡ width_of_bits (width_bits b)
  coupons_have = elim of.read.image [
    | list is e ↦ ap (λ (x : Sketch). x.width) e ∙ width_is 0 is.header
    | set is e ↦ ap (λ (x : Sketch). x.width) e ∙ width_is 1 is.header
    | hll8 is e ↦ absurd (no_registers of.content (ap (λ (x : Sketch). in_registers x.content) e))
    | hll6 is e ↦ absurd (no_registers of.content (ap (λ (x : Sketch). in_registers x.content) e))
    | hll4 is e ↦ absurd (no_registers of.content (ap (λ (x : Sketch). in_registers x.content) e))
  ]

  -- the sketch that it is read as, by what its header says
  pub sketch_said : (h : Header) → h ≡ header_of b → of.sketch ≡ record { lg_k = h.lg_k; width = h.hll_type; content = coupons (set_of order) h.lg_arr }
  sketch_said h is = λ i. record {
    lg_k = (coupons_say.0 ∙ sym (ap (λ (i : Header). i.lg_k) is)) i;
    width = (coupons_have ∙ sym (ap (λ (i : Header). i.hll_type) is)) i;
    content = (of.content ∙ ap (coupons (set_of order)) (coupons_say.1 ∙ sym (ap (λ (i : Header). i.lg_arr) is))) i;
  }

  -- its table
  pub table_said : (h : Header) → h ≡ header_of b → AreBytes b → AreCoupons order → IsLgK h.lg_k × IsTableFor h.lg_k (length order) h.lg_arr
  table_said h is are coupons_are =
      let legal : IsLegal (record { lg_k = h.lg_k; width = h.hll_type; content = coupons (set_of order) h.lg_arr }) = subst IsLegal (sketch_said h is) (read_is_legal b of.sketch are of.read) in
      (legal.lg_k, subst (λ n. IsTableFor h.lg_k n h.lg_arr) coupons_are.distinct legal.content.1)
