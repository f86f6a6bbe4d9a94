-- SPDX-License-Identifier: Apache-2.0
-- Lemmas on images that are read, and on why they are rejected.
use Rattle.std.proofs.Common.{◌≡◌, ◌⊎◌, ℕ, ◌<◌, ◌≤◌, List, [], ◌∷◌, ◌++◌, length, map, Some, None, Result, Ok, Err, IfErr, inl, inr, refl, sym, ◌∙◌, ap, subst, append_assoc}
use Rattle.std.proofs.lemmas.Bool.{cases_lt}
use Rattle.hll_base.specs.declared.error.Reason.{Reason}
use Rattle.hll_base.specs.declared.error.Reason.TheVariants.{Argument, Memory}
use Rattle.hll_base.specs.declared.hll_type.HllType.{HllType}
use Rattle.hll_coupons.specs.Hashed.{coupon_of_bytes}
use Rattle.hll_coupons.specs.Pair.{pair, set_of}
use Rattle.hll_sketch.specs.Checks.{first_failing, header_checks, checks_after, first_fault, size_fault}
use Rattle.hll_images.specs.RegisterImages.{IsFilledImageWith}
use Rattle.hll_images.specs.CouponImages.{IsImageOfUnion, IsImageOfUnionOfOne, AreBothRead, IsImageWith, IsFoldedImage}
use Rattle.hll_sketch.specs.Adding.{add}
use Rattle.hll_sketch.specs.Folding.{folded, IsFoldLgK}
use Rattle.hll_sketch.specs.Image.{IsReadAs}
use Rattle.hll_sketch.specs.Refusal.{IsRefusal}
use Rattle.hll_sketch.specs.MergedIn.{HasCompactCoupons, HasPlainRegisters}
use Rattle.hll_sketch.specs.Updatable.{HasUpdatableCoupons}
use Rattle.hll_sketch.specs.Value.{Sketch, IsLgK}
use Rattle.hll_sketch.proofs.Adding.{add_each}
use Rattle.hll_sketch.proofs.FirstFailing.{none_before}
use Rattle.hll_sketch.proofs.FirstFaults.{faultless_is_image}
use Rattle.hll_sketch.proofs.SetFields.{coupons_stay}
use Rattle.hll_c.specs.Answers.{IsImageOf, WithFields, RefusesArguments, argument, memory, RefusesImage, RefusesInfo, RefusesTested, image_fault, image_memory, RefusesWith, argument_with_image, image_refused, RefusesImages, argument_with_images, images_fault, images_memory}
use Rattle.hll_c.specs.Batches.{AreEnds, AreReadAs, IsFirstFaulty, MayAskAt, strings}
use Rattle.hll_c.specs.Calls.{bits_of, AreOfCoupon, HasCoupon, HasValues, AreNewArguments, IsEmptyAt, IsMadeOf, IsFoldOf, RefusesFold, above, with, AreUnionArguments, AreBatchArguments}
use Rattle.hll_c.specs.Steps.{IsRefusedAt, IsUnionInBytes, AreAllRead}

-- ---- reading

-- an image that is read has no fault
pub no_fault : (image : List ℕ) (x : Sketch) → IsReadAs image x → first_fault image ≡ None
no_fault image x read = (faultless_is_image image).1 (x, read)

pub no_size_fault : (image : List ℕ) (x : Sketch) → IsReadAs image x → size_fault image ≡ None
no_size_fault image x read =
    none_before (header_checks image ++ (checks_after image).size) (checks_after image).content
    (ap first_failing (append_assoc (header_checks image) (checks_after image).size (checks_after image).content) ∙ no_fault image x read)

-- a read that fails
pub refuses_image : (image : List ℕ) (e : Reason) → (e ≡ Memory) ⊎ (first_fault image ≡ Some e) → (e ≡ Memory → size_fault image ≡ None) → RefusesImage image e
refuses_image image e (inl m) asked = subst (RefusesImage image) (sym m) (image_memory (asked m))
refuses_image image e (inr f) asked = image_fault f

-- a check of the bytes that fails
pub refuses_tested : {T : Type 0} (image : List ℕ) (r : Result T Reason) → IfErr r (IsRefusal image) → IfErr r (λ e. e ≡ Memory → HasCompactCoupons image → ⊥) →
    IfErr r (λ e. e ≡ Memory → HasUpdatableCoupons image → ⊥) → IfErr r (λ e. e ≡ Memory → HasPlainRegisters image → ⊥) → IfErr r (RefusesTested image)
refuses_tested image (Ok x) refusal compact updatable plain = tt
refuses_tested image (Err e) refusal compact updatable plain = (
  refuses_image image e refusal.first refusal.asked,
  λ full. record { sized = refusal.asked full; coupons = compact full; buckets = updatable full; registers = plain full },
)

-- an allocation that fails after an image was read
pub refuses_memory : (image : List ℕ) (x : Sketch) (e : Reason) → IsReadAs image x → e ≡ Memory → RefusesImage image e
refuses_memory image x e read m = subst (RefusesImage image) (sym m) (image_memory (no_size_fault image x read))

-- ---- arguments

pub refuses_new : (InRange : Type 0) (e : Reason) → e ≡ Argument → (InRange → ⊥) → RefusesArguments InRange e
refuses_new InRange e is not = subst (RefusesArguments InRange) (sym is) (argument not)

pub refuses_argument : (InRange : Type 0) (image : List ℕ) (e : Reason) → e ≡ Argument → (InRange → ⊥) → RefusesWith InRange image e
refuses_argument InRange image e is not = subst (RefusesWith InRange image) (sym is) (argument_with_image not)

-- the size of a structure of another version
pub refuses_info : (InRange : Type 0) (image : List ℕ) (e : Reason) → e ≡ Argument → (InRange → ⊥) → RefusesInfo InRange image e
refuses_info InRange image e is not = subst (RefusesInfo InRange image) (sym is) (argument_with_image not, λ full. absurd (cc))

-- a fold that fails after the image was read
pub refuses_fold : (image : List ℕ) (x : Sketch) (k : ℕ) (e : Reason) → IsLgK k → IsReadAs image x → (e ≡ Argument) ⊎ (e ≡ Memory) → (e ≡ Argument → IsFoldLgK x.lg_k k → ⊥)
    → RefusesFold k image e
refuses_fold image x k e is read (inl a) outside = subst (RefusesFold k image) (sym a) (above x read (greater (cases_lt x.lg_k k)))
  where
    greater : (x.lg_k < k) ⊎ (k ≤ x.lg_k) → x.lg_k < k
    greater (inl lt) = lt
    greater (inr le) = absurd (outside a (record { low = is.low; high = le }))
refuses_fold image x k e is read (inr m) outside = with (image_refused is (refuses_memory image x e read m))

-- ---- several images

-- after images that were read, an allocation may fail
pub asked_after : (images : List (List ℕ)) (xs : List Sketch) → AreReadAs images xs → MayAskAt images (length images)
asked_after [] xs read = tt
asked_after (image ∷ images) [] read = absurd read
asked_after (image ∷ images) (x ∷ xs) read = (no_fault image x read.0, asked_after images xs read.1)

module _ (InRange : Type 0) (images : List (List ℕ)) (failed_old failed_new : ℕ) (e : Reason) where
  pub refuses_arguments : e ≡ Argument → (InRange → ⊥) → failed_new ≡ failed_old → RefusesImages InRange images failed_old failed_new e
  refuses_arguments is not same = subst (RefusesImages InRange images failed_old failed_new) (sym is) (argument_with_images not same)

  pub refuses_more_memory : (n : ℕ) → e ≡ Memory → InRange → MayAskAt images n → failed_new ≡ failed_old → RefusesImages InRange images failed_old failed_new e
  refuses_more_memory n is are asked same = subst (RefusesImages InRange images failed_old failed_new) (sym is) (images_memory n are asked same)

  -- the first image is rejected
  pub refuses_first : (image : List ℕ) (more : List (List ℕ)) → images ≡ image ∷ more → InRange → IsRefusedAt image 0 failed_old failed_new e
      → RefusesImages InRange images failed_old failed_new e
  refuses_first image more is are (inl m) = refuses_more_memory 0 m.0 are (subst (λ xs. MayAskAt xs 0) (sym is) m.1) m.2
  refuses_first image more is are (inr f) = images_fault are (subst (λ xs. IsFirstFaulty xs failed_new e) (sym is) (subst (λ n. IsFirstFaulty (image ∷ more) n e) (sym f.1) f.0))

  -- the second image is rejected
  pub refuses_second : (image next : List ℕ) (x : Sketch) (failed : ℕ) → images ≡ image ∷ next ∷ [] → InRange → IsReadAs image x → failed ≡ failed_old → IsRefusedAt next 1 failed failed_new e
      → RefusesImages InRange images failed_old failed_new e
  refuses_second image next x failed is are read same (inl m) = refuses_more_memory 1 m.0 are (subst (λ xs. MayAskAt xs 1) (sym is) (no_fault image x read, m.1)) (m.2 ∙ same)
  refuses_second image next x failed is are read same (inr f) =
      images_fault are (subst (λ xs. IsFirstFaulty xs failed_new e) (sym is) (subst (λ n. IsFirstFaulty (image ∷ next ∷ []) n e) (sym f.1) (no_fault image x read, f.0)))

-- ---- an allocation for what was made fails

pub no_memory_new : (k bits : ℕ) (y : Sketch) → IsEmptyAt k bits y → RefusesArguments (AreNewArguments k bits) Memory
no_memory_new k bits y made = memory made.arguments

module _ (image : List ℕ) (IsMade : Sketch → Sketch → Type 0) (y : Sketch) (made : IsMadeOf image IsMade y) where
  no_memory_for : RefusesImage image Memory
  no_memory_for = image_memory (no_size_fault image made.sketch made.read)

  pub no_memory_with : (InRange : Type 0) → ((x z : Sketch) → IsMade x z → InRange) → RefusesWith InRange image Memory
  no_memory_with InRange in_range = image_refused (in_range made.sketch y made.is_made) no_memory_for

-- a batch of images is rejected as the images are
pub refuses_in_batch : (k bits : ℕ) (images ends : List ℕ) (failed_old failed_new : ℕ) (e : Reason) → AreEnds (length images) ends
    → RefusesImages (AreUnionArguments k bits) (strings images ends) failed_old failed_new e
    → RefusesImages (AreBatchArguments k bits (length images) ends) (strings images ends) failed_old failed_new e
refuses_in_batch k bits images ends fo fn _ are (argument_with_images not same) = argument_with_images (λ both. not both.union) same
refuses_in_batch k bits images ends fo fn e are (images_fault in_range f) = images_fault (record { union = in_range; are = are }) f
refuses_in_batch k bits images ends fo fn _ are (images_memory n in_range asked same) = images_memory n (record { union = in_range; are = are }) asked same

-- ---- images made from bytes to bytes

module _ (k : ℕ) (width : HllType) where
  pub union_of_one_in_bytes : (image bytes : List ℕ) → IsImageOfUnionOfOne k width image bytes → IsUnionInBytes k (bits_of width) (image ∷ []) bytes
  union_of_one_in_bytes image bytes of failed = (
    _,
    (
      _,
      record {
        arguments = record { lg_max_k_is = of.bound_is; width_is = record { width = width; is = refl } };
        sketches = of.sketch ∷ [];
        read = (of.read, tt);
        is = refl;
        untold = refl;
      },
      coupons_stay _ of.in_table,
    ),
    of.written,
  )

  pub union_in_bytes : (left right bytes : List ℕ) → IsImageOfUnion k width left right bytes → IsUnionInBytes k (bits_of width) (left ∷ right ∷ []) bytes
  union_in_bytes left right bytes of failed = (
    _,
    (
      _,
      record {
        arguments = record { lg_max_k_is = of.bound_is; width_is = record { width = width; is = refl } };
        sketches = of.left_sketch ∷ of.right_sketch ∷ [];
        read = (of.left_read, (of.right_read, tt));
        is = refl;
        untold = refl;
      },
      coupons_stay _ of.in_table,
    ),
    of.written,
  )

pub both_are_read : (k : ℕ) (left right : List ℕ) → AreBothRead k left right → AreAllRead (left ∷ right ∷ [])
both_are_read k left right both = (both.left_sketch ∷ both.right_sketch ∷ [], (both.left_read, (both.right_read, tt)))

pub values_in_bytes : (AreStrings : Type 0) (strings : List (List ℕ)) (image bytes : List ℕ) → AreStrings → IsImageWith (map coupon_of_bytes strings) image bytes
    → IsImageOf (WithFields (IsMadeOf image (HasValues AreStrings strings))) bytes
values_in_bytes AreStrings strings image bytes are at =
    (_, (_, record { sketch = at.sketch; read = at.read; is_made = record { are = are; is = refl } }, coupons_stay _ at.in_table), at.written)

pub coupon_in_bytes : (slot value c : ℕ) (image bytes : List ℕ) → AreOfCoupon slot value → c ≡ pair slot value → IsImageWith (c ∷ []) image bytes
    → IsImageOf (WithFields (IsMadeOf image (HasCoupon slot value))) bytes
coupon_in_bytes slot value c image bytes are is at = (
  _,
  (
    _,
    record { sketch = at.sketch; read = at.read; is_made = record { are = are; is = add_each at.sketch c [] ∙ ap (λ n. add at.sketch (set_of (n ∷ []))) is } },
    coupons_stay _ at.in_table,
  ),
  at.written,
)

-- the same, of registers that hold all coupons
pub values_in_registers : (AreStrings : Type 0) (strings : List (List ℕ)) (image bytes : List ℕ) → AreStrings → IsFilledImageWith (map coupon_of_bytes strings) image bytes
    → IsImageOf (WithFields (IsMadeOf image (HasValues AreStrings strings))) bytes
values_in_registers AreStrings strings image bytes are at =
    (at.filled, (_, record { sketch = at.sketch; read = at.read; is_made = record { are = are; is = refl } }, at.fills), at.written)

pub coupon_in_registers : (slot value c : ℕ) (image bytes : List ℕ) → AreOfCoupon slot value → c ≡ pair slot value → IsFilledImageWith (c ∷ []) image bytes
    → IsImageOf (WithFields (IsMadeOf image (HasCoupon slot value))) bytes
coupon_in_registers slot value c image bytes are is at = (
  at.filled,
  (
    _,
    record { sketch = at.sketch; read = at.read; is_made = record { are = are; is = add_each at.sketch c [] ∙ ap (λ n. add at.sketch (set_of (n ∷ []))) is } },
    at.fills,
  ),
  at.written,
)

pub fold_in_bytes : (k e : ℕ) (image bytes : List ℕ) → IsLgK k → e ≡ k → IsFoldedImage e image bytes → IsImageOf (WithFields (IsMadeOf image (IsFoldOf k))) bytes
fold_in_bytes k e image bytes legal is at = (
  _,
  (
    _,
    record { sketch = at.sketch; read = at.read; is_made = record { lg_k_is = legal; within = subst (IsFoldLgK at.sketch.lg_k) is at.within; is = ap (folded at.sketch) is } },
    coupons_stay _ at.in_table,
  ),
  at.written,
)
