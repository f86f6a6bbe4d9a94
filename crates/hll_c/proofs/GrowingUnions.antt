-- SPDX-License-Identifier: Apache-2.0
-- Unions of images in a state that grows.
use Rattle.std.proofs.Common.{◌≡◌, ℕ, suc, ◌+◌, ◌<◌, ◌≤◌, true, false, List, [], ◌∷◌, ◌++◌, length, take, drop, get_or, inl, inr, refl, sym, ap, subst, ◌∙◌, arith}
use Rattle.std.proofs.lemmas.Bool.{true≢false}
use Rattle.std.proofs.lemmas.List.{drop_more, drop_all, take_at, take_all}
use Rattle.hll_base.specs.declared.error.Reason.{Reason}
use Rattle.hll_base.specs.declared.hll_type.HllType.{HllType}
use Rattle.std.specs.Prelude.{◌&&◌, if◌then◌else◌, nat_le}
use Rattle.hll_registers.specs.State.{cleared_state}
use Rattle.hll_registers.specs.declared.estimate_state.EstimateState.{EstimateState}
use Rattle.hll_sketch.specs.Merging.{merge, merge_all, merge_content, max_registers, state_after_merge, empty_union}
use Rattle.hll_sketch.specs.Value.{Sketch, Content, coupons, registers, is_empty, IsLgK, IsLegal}
use Rattle.hll_state.specs.Counter.{sketch_in}
use Rattle.hll_state.specs.Header.{new_header, IsWithin}
use Rattle.hll_state.specs.Joined.{IsJoined}
use Rattle.hll_state.specs.declared.header.Header.{Header}
use Rattle.hll_state.specs.declared.join.Joined.{Joined}
use Rattle.hll_state.specs.declared.join.Joined.TheVariants.{Done, NoRoom, OtherLgK}
use Rattle.hll_state.proofs.Emptiness.{new_within}
use Rattle.hll_state.proofs.Prefixes.{longer_body}
use Rattle.hll_state.proofs.Whole.{IsLegalGadget, merged_gadget, empty_gadget, joining_is_merging}
use Rattle.hll_c.specs.Answers.{RefusesImages, images_fault}
use Rattle.hll_c.specs.Batches.{AreReadAs, IsFirstFaulty, MayAskAt}
use Rattle.hll_c.specs.Calls.{AreUnionArguments, IsUnionOf}
use Rattle.hll_c.specs.Steps.{Union, union_so_far, IsUnder, IsMergedInPlace, MergesInto, MergesInAll, IsRefusedAt, FailsToMergeIn}
use Rattle.hll_c.proofs.Images.{no_fault, refuses_more_memory}

-- ---- a sketch is merged

module _ (bound : ℕ) (y : Sketch) (h : Header) (elements : List (List ℕ)) (is : IsUnder bound h elements) (legal : IsLegal y) (g : Header) (others : List (List ℕ)) where
  abbrev x : Sketch
  x = sketch_in h elements

  merged : IsLegalGadget bound (merge bound x y)
  merged = merged_gadget bound x y (record { gadget = is.gadget; legal = is.legal }) legal

  done : IsJoined true 0 y h elements g others Done → sketch_in g others ≡ merge bound x y
  done joined = joined.is is.gadget.registers ∙ joining_is_merging bound x y is.gadget

  pub joined_in : (result : Joined) → IsJoined true 0 y h elements g others result
      → IsMergedInPlace y (record { lg_max_k = bound; header = h; elements = elements }) (record { lg_max_k = bound; header = g; elements = others }) result
  joined_in Done joined = done joined
  joined_in (NoRoom len) joined = record { lacks = joined.lacks; kept = joined.kept; fits = joined.enough.header_fits; enough = joined.enough.room }
  joined_in OtherLgK joined = absurd (true≢false (sym (joined.refused is.gadget.registers)))

  pub left_under : (result : Joined) → IsWithin g (length others) → IsJoined true 0 y h elements g others result → IsUnder bound g others
  left_under Done within joined =
      let left : IsLegalGadget bound (sketch_in g others) = subst (IsLegalGadget bound) (sym (done joined)) merged in
      record { lg_k = is.lg_k; within = within; gadget = left.gadget; legal = left.legal }
  left_under (NoRoom len) within joined =
      let left : IsLegalGadget bound (sketch_in g others) = subst (IsLegalGadget bound) (sym joined.kept) (record { gadget = is.gadget; legal = is.legal }) in
      record { lg_k = is.lg_k; within = within; gadget = left.gadget; legal = left.legal }
  left_under OtherLgK within joined = absurd (true≢false (sym (joined.refused is.gadget.registers)))

-- the same, of the elements before
pub in_place : (bound : ℕ) (y : Sketch) (h : Header) (elements before : List (List ℕ)) (g : Header) (after : List (List ℕ)) (result : Joined) → IsUnder bound h elements → IsLegal y → before ≡ elements
    → length after ≡ length before → IsWithin g (length before) → IsJoined true 0 y h before g after result
    → IsUnder bound g after × IsMergedInPlace y (record { lg_max_k = bound; header = h; elements = elements }) (record { lg_max_k = bound; header = g; elements = after }) result
in_place bound y h elements before g after result is legal same size within joined =
    let from : IsJoined true 0 y h elements g after result = subst (λ xs. IsJoined true 0 y h xs g after result) same joined in
    (left_under bound y h elements is legal g after result (subst (IsWithin g) (sym size) within) from, joined_in bound y h elements is legal g after result from)

-- a gadget that is not empty: the bound doesn't matter
same_under : (a b : ℕ) (x y : Sketch) → is_empty x ≡ false → merge a x y ≡ merge b x y
same_under a b x y some = of y.content
  where
    cleared : (bound k : ℕ) (s : EstimateState) → state_after_merge bound x k s ≡ cleared_state
    cleared bound k s = ap (λ e. if e && nat_le k bound then s else cleared_state) some

    of : (c : Content) → (if is_empty y then x else merge_content a x y c) ≡ (if is_empty y then x else merge_content b x y c)
    of (coupons S size) = refl
    of (registers R s) = ap (λ t. if is_empty y then x else max_registers x y.lg_k R t) (cleared a y.lg_k s ∙ sym (cleared b y.lg_k s))

-- a sketch is merged into registers at their lg_k
pub registers_in_place : (bound : ℕ) (y : Sketch) (h : Header) (elements : List (List ℕ)) (g : Header) (others : List (List ℕ)) → IsUnder bound h elements → IsLegal y → IsWithin g (length others)
    → is_empty (sketch_in h elements) ≡ false → sketch_in g others ≡ merge h.lg_k (sketch_in h elements) y → IsUnder bound g others × (sketch_in g others ≡ merge bound (sketch_in h elements) y)
registers_in_place bound y h elements g others is legal within some so =
    let same : sketch_in g others ≡ merge bound (sketch_in h elements) y = so ∙ same_under h.lg_k bound (sketch_in h elements) y some in
    let left : IsLegalGadget bound (sketch_in g others) =
    subst (IsLegalGadget bound) (sym same) (merged_gadget bound (sketch_in h elements) y (record { gadget = is.gadget; legal = is.legal }) legal) in
    (record { lg_k = is.lg_k; within = within; gadget = left.gadget; legal = left.legal }, same)

-- elements that were written back
pub written_back : (elements after : List (List ℕ)) (n : ℕ) → length after ≡ n → take n (after ++ drop (length after) elements) ≡ after
written_back elements after n size = take_at after (drop (length after) elements) n size

-- in more elements the union is the same
pub grown : (bound : ℕ) (h : Header) (elements new : List (List ℕ)) (len : ℕ) (more : List (List ℕ)) → IsUnder bound h elements → length elements ≤ len → new ≡ take len elements ++ more
    → IsUnder bound h new × (sketch_in h new ≡ sketch_in h elements)
grown bound h elements new len more is fits made =
    let whole : elements ++ more ≡ new = sym (made ∙ ap (λ xs. xs ++ more) (take_all len elements fits)) in
    let longer = longer_body h elements more is.within in
    let left : IsLegalGadget bound (sketch_in h (elements ++ more)) = subst (IsLegalGadget bound) (sym longer.1) (record { gadget = is.gadget; legal = is.legal }) in (
      subst (IsUnder bound h) whole (record { lg_k = is.lg_k; within = longer.0; gadget = left.gadget; legal = left.legal }),
      subst (λ xs. sketch_in h xs ≡ sketch_in h elements) whole longer.1,
    )

-- any elements, under a header of the empty sketch
pub emptied : (bound : ℕ) (h : Header) (elements : List (List ℕ)) → IsLgK bound → h ≡ new_header bound → IsUnder bound h elements
emptied bound h elements lg_k at =
    let left : IsLegalGadget bound (empty_union bound) = empty_gadget bound lg_k in
    let is : IsUnder bound (new_header bound) elements = record { lg_k = lg_k; within = new_within bound 0 (length elements) lg_k (omega arith); gadget = left.gadget; legal = left.legal } in
    subst (λ (g : Header). IsUnder bound g elements) (sym at) is

-- no elements, under a header of the empty sketch
pub empty_under : (bound : ℕ) (h : Header) (elements : List (List ℕ)) → IsLgK bound → h ≡ new_header bound → elements ≡ [] → IsUnder bound h elements
empty_under bound h elements lg_k at none =
    let left : IsLegalGadget bound (empty_union bound) = empty_gadget bound lg_k in
    let is : IsUnder bound (new_header bound) [] = record { lg_k = lg_k; within = new_within bound 0 0 lg_k (omega arith); gadget = left.gadget; legal = left.legal } in
    subst (IsUnder bound h) (sym none) (subst (λ (g : Header). IsUnder bound g []) (sym at) is)

-- ---- images, merged in turn

-- the images before this number were merged
pub record MergesRest (before now : Union) (images : List (List ℕ)) (failed_old failed_now i : ℕ) : Type 0 where
  pub bound : now.lg_max_k ≡ before.lg_max_k
  pub untold : failed_now ≡ failed_old
  pub rest : (ys : List Sketch) → AreReadAs (drop i images) ys
      → (xs : List Sketch) × AreReadAs images xs × (merge_all before.lg_max_k (union_so_far now) ys ≡ merge_all before.lg_max_k (union_so_far before) xs)
  pub faulty : (n : ℕ) (r : Reason) → IsFirstFaulty (drop i images) n r → IsFirstFaulty images (i + n) r
  pub asked : (n : ℕ) → MayAskAt (drop i images) n → MayAskAt images (i + n)

pub merges_none : (before : Union) (images : List (List ℕ)) (failed : ℕ) → MergesRest before before images failed failed 0
merges_none before images failed = record {
  bound = refl;
  untold = refl;
  rest = λ ys read. (ys, read, refl);
  faulty = λ n r f. subst (λ m. IsFirstFaulty images m r) (let none : n ≡ 0 + n = omega arith in none) f;
  asked = λ n a. subst (MayAskAt images) (let none : n ≡ 0 + n = omega arith in none) a;
}

module _ (before now : Union) (images : List (List ℕ)) (failed_old failed_now i : ℕ) (left : MergesRest before now images failed_old failed_now i) where
  module _ (inside : i < length images) (image : List ℕ) (at : image ≡ get_or images i []) where
    here : drop i images ≡ image ∷ drop (i + 1) images
    here = drop_more images i [] inside ∙ ap (λ p. p ∷ drop (i + 1) images) (sym at)

    pub merges_more : (next : Union) (failed_next : ℕ) → MergesInto now next image → failed_next ≡ failed_now → MergesRest before next images failed_old failed_next (i + 1)
    merges_more next failed_next one same = record {
      bound = one.bound ∙ left.bound;
      untold = same ∙ left.untold;
      rest = λ ys read.
          let found = left.rest (one.sketch ∷ ys) (subst (λ s. AreReadAs s (one.sketch ∷ ys)) (sym here) (one.read, read)) in
          (found.0, found.1, ap (λ g. merge_all before.lg_max_k g ys) (one.gadget ∙ ap (λ k. merge k (union_so_far now) one.sketch) left.bound) ∙ found.2);
      faulty = λ n r f.
          subst (λ m. IsFirstFaulty images m r) (let next : i + suc n ≡ i + 1 + n = omega arith in next)
          (left.faulty (suc n) r (subst (λ s. IsFirstFaulty s (suc n) r) (sym here) (no_fault image one.sketch one.read, f)));
      asked = λ n a.
          subst (MayAskAt images) (let next : i + suc n ≡ i + 1 + n = omega arith in next)
          (left.asked (suc n) (subst (λ s. MayAskAt s (suc n)) (sym here) (no_fault image one.sketch one.read, a)));
    }

    pub fails_here : (failed_next : ℕ) (e : Reason) → IsRefusedAt image i failed_now failed_next e → FailsToMergeIn images failed_old failed_next e
    fails_here failed_next e (inl m) = inl (m.0, m.2 ∙ left.untold, i + 0, left.asked 0 (subst (λ s. MayAskAt s 0) (sym here) m.1))
    fails_here failed_next e (inr f) =
        let place : i + 0 ≡ failed_next = omega (arith, f.1) in
        inr (subst (λ n. IsFirstFaulty images n e) place (left.faulty 0 e (subst (λ s. IsFirstFaulty s 0 e) (sym here) f.0)))

  pub merges_all : length images ≤ i → MergesInAll before now images
  merges_all all =
      let found = left.rest [] (subst (λ s. AreReadAs s []) (sym (drop_all i images all)) tt) in
      record { sketches = found.0; read = found.1; gadget = found.2 }

-- ---- the union of what was merged

pub is_union : (k bits : ℕ) (width : HllType) (images : List (List ℕ)) (failed_old failed_new : ℕ) (are : AreUnionArguments k bits) (u w : Union)
    → u.lg_max_k ≡ k → union_so_far u ≡ empty_union k → MergesInAll u w images → are.width_is.width ≡ width → failed_new ≡ failed_old
    → IsUnionOf k bits images failed_old failed_new (record (union_so_far w) { width = width })
is_union k bits width images fo fn are u w bound empty taken same untold = record {
  arguments = are;
  sketches = taken.sketches;
  read = taken.read;
  is =
      ap (λ (g : Sketch). let z : Sketch = record g { width = width } in z) (taken.gadget ∙ (λ i. merge_all (bound i) (empty i) taken.sketches))
      ∙ ap (λ (v : HllType). let z : Sketch = record (merge_all k (empty_union k) taken.sketches) { width = v } in z) (sym same);
  untold = untold;
}

-- one image, or two, by their numbers
pub one_image : (images : List (List ℕ)) (image : List ℕ) → length images ≡ 1 → image ≡ get_or images 0 [] → image ∷ [] ≡ images
one_image [] image size first = absurd (omega (arith, size))
one_image (x ∷ []) image size first = λ i. first i ∷ []
one_image (x ∷ y ∷ more) image size first = absurd (omega (arith, size))

pub two_images : (images : List (List ℕ)) (left right : List ℕ) → length images ≡ 2 → left ≡ get_or images 0 [] → right ≡ get_or images 1 [] → left ∷ right ∷ [] ≡ images
two_images [] left right size first second = absurd (omega (arith, size))
two_images (x ∷ []) left right size first second = absurd (omega (arith, size))
two_images (x ∷ y ∷ []) left right size first second = λ i. first i ∷ second i ∷ []
two_images (x ∷ y ∷ z ∷ more) left right size first second = absurd (omega (arith, size))

-- why no union is made
pub refuses_images : (InRange : Type 0) (images : List (List ℕ)) (failed_old failed_new : ℕ) (e : Reason) → InRange → FailsToMergeIn images failed_old failed_new e
    → RefusesImages InRange images failed_old failed_new e
refuses_images InRange images fo fn e are (inl m) = refuses_more_memory InRange images fo fn e m.2 m.0 are m.3 m.1
refuses_images InRange images fo fn e are (inr f) = images_fault are f
