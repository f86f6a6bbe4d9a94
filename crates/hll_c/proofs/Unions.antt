-- SPDX-License-Identifier: Apache-2.0
-- Calls that merge under one bound leave the state of a union.
use Rattle.std.proofs.Common.{◌≡◌, ℕ, false, not, ◌&&◌, nat_eq, List, [], ◌∷◌, ◌++◌, drop, All, refl, sym, ap, subst, ◌∙◌, arith}
use Rattle.std.proofs.lemmas.Bool.{true≢false}
use Rattle.std.proofs.lemmas.List.Elements.{All-nil, All-cons, All-head, All-tail}
use Rattle.hll_sketch.specs.Image.{IsReadAs}
use Rattle.hll_sketch.specs.Merging.{merge, merge_all, empty_union}
use Rattle.hll_sketch.specs.Value.{Sketch, IsLgK, IsLegal}
use Rattle.hll_state.specs.Counter.{sketch_in}
use Rattle.hll_state.specs.Joined.{joined}
use Rattle.hll_state.specs.Memory.{IsStateOf, is_open}
use Rattle.hll_state.specs.Merged.{bit_of}
use Rattle.hll_state.specs.declared.header.Header.{Header}
use Rattle.hll_state.proofs.States.{means}
use Rattle.hll_state.proofs.Whole.{IsLegalGadget, merged_gadget, empty_gadget, joining_is_merging}
use Rattle.hll_c.specs.Answers.{ok_code}
use Rattle.hll_c.specs.States as states
use Rattle.hll_c.specs.States.{MakesState, JoinsUnder, as_it_was, at_bound, no_room_at_bound, JoinsSketch, JoinsImage, JoinsState, made, made_open, few_elements, no_lg_k, no_room_to_join, other_lg_k, image_read, image_not_read, state_read, no_states, register_above}
use Rattle.hll_c.specs.Unions.{IsStateOfUnion, ExtendsUnion, ExtendsUnionByImage, ExtendsUnionByState}
use Rattle.hll_c.proofs.AtBound.{bounded}
use Rattle.hll_c.proofs.Codes.{no_ok}
use Rattle.hll_c.proofs.Whole.{one_sketch}

-- merging one more sketch
merge_all-more : (bound : ℕ) (g : Sketch) (xs : List Sketch) (y : Sketch) → merge_all bound g (xs ++ y ∷ []) ≡ merge bound (merge_all bound g xs) y
merge_all-more bound g [] y = refl
merge_all-more bound g (x ∷ xs) y = merge_all-more bound (merge bound g x) xs y

all_gadget : (bound : ℕ) (g : Sketch) (xs : List Sketch) → IsLegalGadget bound g → All IsLegal xs → IsLegalGadget bound (merge_all bound g xs)
all_gadget bound g [] is legal = is
all_gadget bound g (x ∷ xs) is legal = all_gadget bound (merge bound g x) xs (merged_gadget bound g x is (All-head IsLegal x xs legal)) (All-tail IsLegal x xs legal)

legal_more : (xs : List Sketch) (y : Sketch) → All IsLegal xs → IsLegal y → All IsLegal (xs ++ y ∷ [])
legal_more [] y legal is = All-cons IsLegal y [] is (All-nil IsLegal)
legal_more (x ∷ xs) y legal is = All-cons IsLegal x (xs ++ y ∷ []) (All-head IsLegal x xs legal) (legal_more xs y (All-tail IsLegal x xs legal) is)

-- ---- calls

pub made_union : (lg_k : ℕ) (old new : List (List ℕ)) (code : ℕ) → MakesState lg_k old new code → code ≡ ok_code → IsLgK lg_k → IsStateOfUnion lg_k [] new
made_union lg_k old new code (made is new_state) done lg_k_is = record { lg_k = is; legal = All-nil IsLegal; is = new_state.sketch }
made_union lg_k old new code (made_open none new_state) done lg_k_is = absurd (omega (arith, none, lg_k_is.low))
made_union lg_k old new code (few_elements is few same) done lg_k_is = absurd (omega (arith, done))
made_union lg_k old new code (no_lg_k none same) done lg_k_is = absurd (omega (arith, done))

pub extends : (bound others : ℕ) (y : Sketch) (old new : List (List ℕ)) (size_old size_new code : ℕ) → IsLegal y → JoinsSketch bound others y old new size_old size_new code → code ≡ ok_code → ExtendsUnion bound y old new
extends bound others y old new size_old size_new code legal (states.joined joins lg_k_open sizes) done xs union =
    let h : Header = joins.before.header in
    let x : Sketch = sketch_in h (drop 10 old) in
    let m : Sketch = merge_all bound (empty_union bound) xs in
    let is : IsLegalGadget bound m = all_gadget bound (empty_union bound) xs (empty_gadget bound union.lg_k) union.legal in
    let same : m ≡ x = one_sketch old m x union.is (means old h joins.before.has) in
    let own : IsLegalGadget bound x = subst (IsLegalGadget bound) same is in
    let z : Sketch = sketch_in joins.after (drop 10 new) in
    let merged : merge_all bound (empty_union bound) (xs ++ y ∷ []) ≡ z =
    merge_all-more bound (empty_union bound) xs y ∙ ap (λ g. merge bound g y) same ∙ sym (joining_is_merging bound x y own.gadget)
    ∙ ap (λ b. joined b x y) (sym (bounded bound union.lg_k)) ∙ sym (joins.is.is own.gadget.registers) in
    record { lg_k = union.lg_k; legal = legal_more xs y union.legal legal; is = subst (IsStateOf new) (sym merged) (means new joins.after joins.has) }
extends bound others y old new size_old size_new code legal (no_room_to_join len joins lg_k_open sizes) done xs union = absurd (omega (arith, done))
extends bound others y old new size_old size_new code legal (other_lg_k joins same sizes) done xs union = absurd (omega (arith, done))

-- if the lg_k is not open, no bound decides it
extends_under : (bound others : ℕ) (y : Sketch) (old new : List (List ℕ)) (size_old size_new code : ℕ) → IsLegal y → JoinsUnder bound others y old new size_old size_new code → code ≡ ok_code → is_open old ≡ false
    → ExtendsUnion bound y old new
extends_under bound others y old new size_old size_new n legal (as_it_was {code} undecided joins) done closed = extends bound others y old new size_old size_new code legal joins done
extends_under bound others y old new size_old size_new code legal (at_bound decided is begun fresh joins) done closed = absurd (true≢false (sym decided ∙ ap (λ b. b && not (nat_eq bound 0)) closed))
extends_under bound others y old new size_old size_new code legal (no_room_at_bound decided len enough lacks same sizes) done closed = absurd (omega (arith, done))

pub extends_by_image : (bound : ℕ) (image : List ℕ) (old new : List (List ℕ)) (size_old size_new code : ℕ) → ((y : Sketch) → IsReadAs image y → IsLegal y)
    → JoinsImage bound image old new size_old size_new code → code ≡ ok_code → is_open old ≡ false → ExtendsUnionByImage bound image old new
extends_by_image bound image old new size_old size_new n legal (image_read {code} y read all) done closed =
    record { sketch = y; read = read; extends = extends_under bound (bit_of y.width) y old new size_old size_new code (legal y read) all done closed }
extends_by_image bound image old new size_old size_new n legal (image_not_read {r} refused needed same sizes) done closed = absurd (no_ok r done)

pub extends_by_state : (bound : ℕ) (other old new : List (List ℕ)) (size_old size_new code : ℕ) → JoinsState bound other old new size_old size_new code → code ≡ ok_code → is_open old ≡ false
    → ExtendsUnionByState bound other old new
extends_by_state bound other old new size_old size_new n (state_read {code} h has all) done closed y is legal =
    let same : sketch_in h (drop 10 other) ≡ y = one_sketch other (sketch_in h (drop 10 other)) y (means other h has) is in
    extends_under bound h.widths y old new size_old size_new code legal (subst (λ y. JoinsUnder bound h.widths y old new size_old size_new code) same all) done closed
extends_by_state bound other old new size_old size_new n (no_states none same sizes) done closed y is legal = absurd (omega (arith, done))
extends_by_state bound other old new size_old size_new n (register_above under illegal same sizes) done closed y is legal = absurd (omega (arith, done))
