-- SPDX-License-Identifier: Apache-2.0
-- Lemmas on the width in the header of an image.
use Rattle.std.proofs.Common.{◌≡◌, arith, false, ℕ, zero, suc, nat_eq, Option, None, ◌/◌, ◌%◌, ◌≤◌, List, length, take, inl, inr, refl, sym, ◌∙◌, ap, subst}
use Rattle.std.proofs.lemmas.List.{get_or-take, length-take}
use Rattle.std.specs.Bool.{if◌then◌else◌}
use Rattle.std.specs.Option.{IfNone}
use Rattle.std.proofs.lemmas.Bool.{cond-false, ne_eqb}
use Rattle.hll_base.specs.declared.hll_type.HllType.{HllType}
use Rattle.hll_base.specs.declared.hll_type.HllType.TheVariants.{Hll4, Hll6, Hll8}
use Rattle.hll_images.specs.CouponImages.{IsImageAt}
use Rattle.hll_sketch.specs.Image.{IsReadAs, Image, list, set, hll8, hll6, hll4, stage_bits, width_bits, width_of_bits}
use Rattle.hll_images.specs.RegisterImages.{IsFilledImageOf, IsPlainImage}
use Rattle.hll_sketch.specs.Value.{Sketch, in_registers}
use Rattle.hll_sketch.specs.Written.{Written}
use Rattle.hll_sketch.proofs.SetFields.{coupons_stay}
use Rattle.hll_c.specs.Answers.{IsImageOf, WithFields}
use Rattle.hll_c.specs.Calls.{bits_of, HasWidth, IsAtWidth, AsksWidth, AsksOwnWidth, IsAskedWidth, of_bits, as_given, IsMadeOf}

-- an image has eight bytes and more, and its width is that of its header
whole_image : (b : List ℕ) (x : Sketch) → Image b x → 8 ≤ length b
whole_image b x (list is _) = is.header.whole
whole_image b x (set is _) = is.header.whole
whole_image b x (hll8 is _) = is.header.whole
whole_image b x (hll6 is _) = is.header.whole
whole_image b x (hll4 is _) = is.header.whole

width_of_image : (b : List ℕ) (x : Sketch) → Image b x → x.width ≡ width_of_bits (width_bits b)
width_of_image b x (list is value) = ap (λ (y : Sketch). y.width) value
width_of_image b x (set is value) = ap (λ (y : Sketch). y.width) value
width_of_image b x (hll8 is value) = ap (λ (y : Sketch). y.width) value ∙ ap width_of_bits (sym is.width)
width_of_image b x (hll6 is value) = ap (λ (y : Sketch). y.width) value ∙ ap width_of_bits (sym is.width)
width_of_image b x (hll4 is value) = ap (λ (y : Sketch). y.width) value ∙ ap width_of_bits (sym is.width)

-- so is that of bytes that begin with an image
pub width_read : (b : List ℕ) (x : Sketch) → IsReadAs b x → x.width ≡ width_of_bits (width_bits b)
width_read b x read =
    let whole = whole_image (take read.size b) x read.image in
    width_of_image (take read.size b) x read.image
    ∙ ap (λ mode. width_of_bits (mode / 4 % 4)) (get_or-take read.size b 7 0 (omega (arith, whole, length-take read.size b)))

-- what is written at the width in the header is written for the sketch itself
pub own_image : (width : HllType) (image bytes : List ℕ) → width ≡ width_of_bits (width_bits image) → IsImageAt width image bytes
    → (x : Sketch) × IsReadAs image x × (in_registers x.content ≡ false) × Written bytes x
own_image width image bytes is at =
    let same : width ≡ at.sketch.width = is ∙ sym (width_read image at.sketch at.read) in
    (at.sketch, at.read, at.in_table, subst (λ w. Written bytes (record at.sketch { width = w })) same at.written)

-- ---- images at a width that is asked for

-- a number for which a width was found asks for one
pub asks : {bits : ℕ} {given width : HllType} → IsAskedWidth bits given width → AsksWidth bits
asks {bits} {given} {width} (of_bits is) = inl (record { width = width; is = is })
asks (as_given is) = inr is

module _ (bits : ℕ) (width : HllType) (image : List ℕ) (asked : IsAskedWidth bits (width_of_bits (width_bits image)) width) where
  asked_of : (x : Sketch) → IsReadAs image x → IsAskedWidth bits x.width width
  asked_of x read = subst (λ own. IsAskedWidth bits own width) (sym (width_read image x read)) asked

  pub made_at_width : (y : Sketch) → IsMadeOf image (HasWidth width) y → IsMadeOf image (IsAtWidth bits) y
  made_at_width y made = record { sketch = made.sketch; read = made.read; is_made = record { width = width; asked = asked_of made.sketch made.read; is = made.is_made } }

  pub image_in_bytes : (bytes : List ℕ) → IsImageAt width image bytes → IsImageOf (WithFields (IsMadeOf image (IsAtWidth bits))) bytes
  image_in_bytes bytes at =
      (_, (_, record { sketch = at.sketch; read = at.read; is_made = record { width = width; asked = asked_of at.sketch at.read; is = refl } }, coupons_stay _ at.in_table), at.written)

  pub registers_in_bytes : (bytes : List ℕ) → IsFilledImageOf width image bytes → IsImageOf (WithFields (IsMadeOf image (IsAtWidth bits))) bytes
  registers_in_bytes bytes of = (
    of.filled,
    (
      of.sketch,
      record { sketch = of.sketch; read = of.read; is_made = record { width = width; asked = asked_of of.sketch of.read; is = λ i. record of.sketch { width = of.width_is i } } },
      of.fills,
    ),
    of.written,
  )

-- ---- the width of the image itself

one_width : (v w : HllType) → bits_of v ≡ bits_of w → v ≡ w
one_width Hll4 Hll4 is = refl
one_width Hll4 Hll6 is = absurd (omega (arith, is))
one_width Hll4 Hll8 is = absurd (omega (arith, is))
one_width Hll6 Hll4 is = absurd (omega (arith, is))
one_width Hll6 Hll6 is = refl
one_width Hll6 Hll8 is = absurd (omega (arith, is))
one_width Hll8 Hll4 is = absurd (omega (arith, is))
one_width Hll8 Hll6 is = absurd (omega (arith, is))
one_width Hll8 Hll8 is = refl

some_bits : (w : HllType) → bits_of w ≡ 0 → ⊥
some_bits Hll4 is = omega (arith, is)
some_bits Hll6 is = omega (arith, is)
some_bits Hll8 is = omega (arith, is)

-- the number that asks for the image's own width asks for no other
own_width : (bits : ℕ) (given own w : HllType) → given ≡ own → IsAskedWidth bits given own → IsAskedWidth bits given w → own ≡ w
own_width bits given own w same (of_bits own_is) (of_bits is) = one_width own w (own_is ∙ sym is)
own_width bits given own w same (as_given none) (of_bits is) = absurd (some_bits w (is ∙ none))
own_width bits given own w same own_is (as_given none) = sym same

not_four : (n : ℕ) → 1 ≤ n → width_of_bits n ≡ Hll4 → ⊥
not_four zero least is = omega arith
not_four (suc zero) least is = let e : bits_of Hll6 ≡ bits_of Hll4 = ap bits_of is in omega (arith, e)
not_four (suc (suc m)) least is =
    let n : ℕ = suc (suc m) in
    let eight : width_of_bits n ≡ Hll8 =
    cond-false (nat_eq n 0) Hll4 (if nat_eq n 1 then Hll6 else Hll8) (ne_eqb n 0 (λ e. omega (arith, e))) ∙ cond-false (nat_eq n 1) Hll6 Hll8 (ne_eqb n 1 (λ e. omega (arith, e))) in
    let e : bits_of Hll8 ≡ bits_of Hll4 = ap bits_of (sym eight ∙ is) in
    omega (arith, e)

-- so registers of 8 or 6 bits are written at it from their places
pub in_place : {A : Type 0} (bits : ℕ) (image : List ℕ) (w : HllType) (found : Option A) → IsAskedWidth bits (width_of_bits (width_bits image)) w → found ≡ None
    → IfNone found (stage_bits image ≡ 2 → width_of_bits (width_bits image) ≡ w → w ≡ Hll4) → IsPlainImage image → AsksOwnWidth bits image → ⊥
in_place bits image w found asked is none plain own =
    let same : width_of_bits (width_bits image) ≡ w = own_width bits (width_of_bits (width_bits image)) (width_of_bits (width_bits image)) w refl own asked in
    not_four (width_bits image) plain.2 (same ∙ subst (λ o. IfNone o (stage_bits image ≡ 2 → width_of_bits (width_bits image) ≡ w → w ≡ Hll4)) is none plain.1 same)
