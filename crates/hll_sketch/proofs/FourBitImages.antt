-- SPDX-License-Identifier: Apache-2.0
-- What the reader of 4-bit registers returns for an image, and which bytes it needs.
use Rattle.std.proofs.Common.{◌≡◌, Bool, List, ℕ, take, drop, cond, ap, subst, ◌∙◌, None}
use Rattle.hll_registers.specs.Payload.{Hll4Shape, hll4_size, registers_of, shape_of_hll4, state_at, IsHll4Payload, IsWhole}
use Rattle.hll_registers.specs.declared.aux_format.AuxFormat.{AuxFormat}
use Rattle.hll_registers.specs.Store.{Stored}
use Rattle.hll_sketch.specs.Checks.{size_fault}
use Rattle.hll_sketch.specs.Header.{header_of}
use Rattle.hll_sketch.specs.Image.{width_bits, hll4_shape, HasHeader}
use Rattle.hll_sketch.specs.declared.header.Header.{Header}
use Rattle.hll_sketch.proofs.FirstFailing.{four_asked}
use Rattle.hll_sketch.proofs.FrontImages.{whole_as, payload_as, registers_as, size_as}

-- the registers that the reader of the payload returns
abbrev pub Given : Hll4Shape → ℕ → Bool → List ℕ → Stored → Type 0
Given h k flag payload a = IsHll4Payload h (take (hll4_size h payload) payload) × (a ≡ record { lg_k = k; registers = registers_of h (take (hll4_size h payload) payload); state = state_at flag payload })

-- the shape that the header says
pub shape_is : (b : List ℕ) (h : Header) → h ≡ header_of b → (let s : Hll4Shape = record { lg_k = h.lg_k; minimum = h.state_byte; compact = h.compact; lg_table = h.lg_arr } in s) ≡ hll4_shape b
shape_is b h is = λ i. record { lg_k = (is i).lg_k; minimum = (is i).state_byte; compact = (is i).compact; lg_table = (is i).lg_arr }

-- whatever the format of the exceptions says of a table that isn't there
pub given_as : (k m q : ℕ) (c flag : Bool) (payload : List ℕ) (format : AuxFormat) (a : Stored) → format ≡ cond c AuxFormat.Compact (AuxFormat.Updatable q) →
    Given (shape_of_hll4 k m format) k flag payload a → Given (record { lg_k = k; minimum = m; compact = c; lg_table = q }) k flag payload a
given_as k m q c flag payload format a is given =
    let h = subst (λ f. Given (shape_of_hll4 k m f) k flag payload a) is given in
    let n = size_as k m q c payload in (
      payload_as k m q c (take (hll4_size (let s : Hll4Shape = record { lg_k = k; minimum = m; compact = c; lg_table = q } in s) payload) payload) (subst (λ n. IsHll4Payload (shape_of_hll4 k m (cond c AuxFormat.Compact (AuxFormat.Updatable q))) (take n payload)) n h.0),
      h.1 ∙ (λ i. record { lg_k = k; registers = (ap (λ n. registers_of (shape_of_hll4 k m (cond c AuxFormat.Compact (AuxFormat.Updatable q))) (take n payload)) n ∙ registers_as k m q c (take (hll4_size (let s : Hll4Shape = record { lg_k = k; minimum = m; compact = c; lg_table = q } in s) payload) payload)) i; state = state_at flag payload }),
    )

-- the bytes that the reader needs are there
pub asked_as : (b : List ℕ) (h : Header) (format : AuxFormat) (payload : List ℕ) → h ≡ header_of b → HasHeader b 2 → width_bits b ≡ 0 → payload ≡ drop 8 b → format ≡ cond h.compact AuxFormat.Compact (AuxFormat.Updatable h.lg_arr) →
    IsWhole (shape_of_hll4 h.lg_k h.state_byte format) payload → size_fault b ≡ None
asked_as b h format payload is has width rest from whole =
    four_asked b has width
    (subst (λ s. IsWhole s (drop 8 b)) (shape_is b h is)
    (whole_as h.lg_k h.state_byte h.lg_arr h.compact (drop 8 b)
    (subst (IsWhole (shape_of_hll4 h.lg_k h.state_byte (cond h.compact AuxFormat.Compact (AuxFormat.Updatable h.lg_arr)))) rest
    (subst (λ t. IsWhole (shape_of_hll4 h.lg_k h.state_byte t) payload) from whole))))
