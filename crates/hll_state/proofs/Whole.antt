-- SPDX-License-Identifier: Apache-2.0
-- Calls leave legal sketches whose registers, if there are registers, are not all 0.
use Rattle.std.proofs.Common.{◌≡◌, ℕ, Bool, true, false, ◌&&◌, not, leb, if◌then◌else◌, List, [], ◌∷◌, All, refl, sym, ap, subst, ◌∙◌, arith, inl, inr}
use Rattle.std.specs.Cmp.{nat_cmp_total}
use Rattle.std.specs.Ordering.{nat_cmp}
use Rattle.std.specs.FinSet.{empty, contains, contains-empty, contains-from_list, len-empty}
use Rattle.std.proofs.lemmas.Bool.{cases_Bool, cond-false, true≢false, or_left}
use Rattle.std.proofs.lemmas.List.Elements.{All-head, All-tail}
use Rattle.hll_base.specs.declared.hll_type.HllType.TheVariants.{Hll8}
use Rattle.hll_coupons.proofs.Greatest.{itself}
use Rattle.hll_coupons.specs.Pair.{set_of}
use Rattle.hll_sketch.proofs.Adding.{add_each}
use Rattle.hll_sketch.proofs.Gadgets.{gadget_with, gadget_merge}
use Rattle.hll_sketch.proofs.LegalImages.{ArePairs-set_of}
use Rattle.hll_sketch.proofs.LegalSketches.{add_is_legal, merge_is_legal}
use Rattle.hll_sketch.specs.Adding.{add}
use Rattle.hll_sketch.specs.Merging.{merge, merge_all, merge_content, max_registers, state_after_merge, empty_union}
use Rattle.hll_sketch.specs.Union.{IsGadget}
use Rattle.hll_sketch.specs.Value.{Sketch, Content, coupons, registers, IsLgK, IsLegal, in_registers, is_empty, empty_sketch}
use Rattle.hll_registers.specs.State.{cleared_state}
use Rattle.hll_registers.specs.declared.estimate_state.EstimateState.{EstimateState}
use Rattle.hll_state.specs.Joined.{started, raised, lg_ks_differ}
use Rattle.hll_state.specs.Whole.{IsWhole, EmptyIsWhole, AddingLeavesWhole, JoiningLeavesWhole, JoiningIsMerging, JoiningAllIsMergingAll, joined_all}

-- such a sketch is the gadget of a union whose bound is its lg_k
gadget : (x : Sketch) → IsWhole x → IsGadget x.lg_k x
gadget x is = record { width = is.width; lg_k = omega arith; coupons = λ h. refl; registers = is.some }

of_gadget : (m : ℕ) (x : Sketch) → IsGadget m x → IsLegal x → IsWhole x
of_gadget m x is legal = record { legal = legal; width = is.width; some = is.registers }

pub empty_whole : EmptyIsWhole
empty_whole k lg_k = record {
  legal = record {
    lg_k = lg_k;
    content = ((λ c h. absurd (true≢false (sym h ∙ contains-empty nat_cmp c))), inl (refl, omega (arith, len-empty nat_cmp)));
  };
  width = refl;
  some = λ h. absurd (cc);
}

-- ---- coupons are added

is_some : (c : ℕ) (cs : List ℕ) → set_of (c ∷ cs) ≡ empty → ⊥
is_some c cs none = true≢false (sym (contains-from_list nat_cmp_total (c ∷ cs) c ∙ or_left _ _ (itself c c refl)) ∙ ap (λ S. contains S c) none ∙ contains-empty nat_cmp c)

pub added_whole : AddingLeavesWhole
added_whole x [] is are = is
added_whole x (c ∷ cs) is are = subst IsWhole (sym (add_each x c cs))
    (of_gadget x.lg_k (add x (set_of (c ∷ cs)))
    (gadget_with x.lg_k x (set_of (c ∷ cs)) (gadget x is) is.legal (ArePairs-set_of (c ∷ cs) are) (is_some c cs))
    (add_is_legal x (set_of (c ∷ cs)) is.legal (ArePairs-set_of (c ∷ cs) are)))

-- ---- a sketch is merged

either_whole : (b : Bool) (x y : Sketch) → IsWhole x → IsWhole y → IsWhole (if b then x else y)
either_whole true x y is other = is
either_whole false x y is other = other

started_whole : (bounded : Bool) (x y : Sketch) → IsWhole x → IsLegal y → IsWhole (started bounded x y)
started_whole bounded x y is legal =
    let other : IsWhole (empty_sketch y.lg_k Hll8) = empty_whole y.lg_k legal.lg_k in
    either_whole (is_empty y) (raised bounded y.lg_k x) (if lg_ks_differ bounded x.lg_k y then empty_sketch y.lg_k Hll8 else x)
    (either_whole (not bounded && (is_empty x && not (leb y.lg_k x.lg_k))) (empty_sketch y.lg_k Hll8) x other is)
    (either_whole (lg_ks_differ bounded x.lg_k y) (empty_sketch y.lg_k Hll8) x other is)

pub merged_whole : JoiningLeavesWhole
merged_whole bounded x y is legal =
    let s : Sketch = started bounded x y in
    let whole : IsWhole s = started_whole bounded x y is legal in
    of_gadget s.lg_k (merge s.lg_k s y) (gadget_merge s.lg_k s y (gadget s whole) whole.legal legal) (merge_is_legal s.lg_k s y whole.legal legal)

-- ---- merging under a bound

and_none : (e a : Bool) → e ≡ false → (e && a) ≡ false
and_none true a is = absurd (true≢false is)
and_none false a is = refl

-- the estimate state does not depend on the bound, since a gadget in registers is not empty and one in coupons is at the bound
same_state : (bound : ℕ) (x : Sketch) (k : ℕ) (state : EstimateState) → IsGadget bound x → state_after_merge x.lg_k x k state ≡ state_after_merge bound x k state
same_state bound x k state is = elim (cases_Bool (in_registers x.content)) [
  | inl yes' ↦
      cond-false (is_empty x && leb k x.lg_k) state cleared_state (and_none (is_empty x) (leb k x.lg_k) (is.registers yes'))
      ∙ sym (cond-false (is_empty x && leb k bound) state cleared_state (and_none (is_empty x) (leb k bound) (is.registers yes')))
  | inr other ↦ ap (λ b. state_after_merge b x k state) (is.coupons other)
]

same_merge_content : (bound : ℕ) (x y : Sketch) (c : Content) → IsGadget bound x → merge_content x.lg_k x y c ≡ merge_content bound x y c
same_merge_content bound x y (coupons S size) is = refl
same_merge_content bound x y (registers R state) is = ap (max_registers x y.lg_k R) (same_state bound x y.lg_k state is)

same_merge : (bound : ℕ) (x y : Sketch) → IsGadget bound x → merge x.lg_k x y ≡ merge bound x y
same_merge bound x y is = ap (λ g. if is_empty y then x else g) (same_merge_content bound x y y.content is)

-- under a bound nothing is taken over or raised
started_own : (x y : Sketch) → started true x y ≡ x
started_own x y = of (is_empty y)
  where
    of : (b : Bool) → (if b then raised true y.lg_k x else (if lg_ks_differ true x.lg_k y then empty_sketch y.lg_k Hll8 else x)) ≡ x
    of true = refl
    of false = refl

pub joining_is_merging : JoiningIsMerging
joining_is_merging bound x y is = ap (λ (s : Sketch). merge s.lg_k s y) (started_own x y) ∙ same_merge bound x y is

-- a legal gadget of a union
pub record IsLegalGadget (bound : ℕ) (x : Sketch) : Type 0 where
  pub gadget : IsGadget bound x
  pub legal : IsLegal x

pub merged_gadget : (bound : ℕ) (x y : Sketch) → IsLegalGadget bound x → IsLegal y → IsLegalGadget bound (merge bound x y)
merged_gadget bound x y is legal = record { gadget = gadget_merge bound x y is.gadget is.legal legal; legal = merge_is_legal bound x y is.legal legal }

all_merged : (bound : ℕ) (x : Sketch) (ys : List Sketch) → IsLegalGadget bound x → All IsLegal ys → joined_all x ys ≡ merge_all bound x ys
all_merged bound x [] is legal = refl
all_merged bound x (y ∷ ys) is legal =
    ap (λ z. joined_all z ys) (joining_is_merging bound x y is.gadget)
    ∙ all_merged bound (merge bound x y) ys (merged_gadget bound x y is (All-head IsLegal y ys legal)) (All-tail IsLegal y ys legal)

pub empty_gadget : (bound : ℕ) → IsLgK bound → IsLegalGadget bound (empty_union bound)
empty_gadget bound lg_k = let whole : IsWhole (empty_union bound) = empty_whole bound lg_k in record { gadget = gadget (empty_union bound) whole; legal = whole.legal }

pub joining_all_is_merging_all : JoiningAllIsMergingAll
joining_all_is_merging_all bound ys lg_k legal = all_merged bound (empty_union bound) ys (empty_gadget bound lg_k) legal
