-- SPDX-License-Identifier: Apache-2.0
-- What calls leave of a state whose sketch is legal and has, if it has registers, some above 0.
use Rattle.std.proofs.Common.{◌≡◌, ℕ, Bool, true, false, ◌+◌, ◌^◌, ◌<◌, ◌≤◌, not, nat_eq, min, List, [], ◌∷◌, drop, map, All, sym, subst, ap, ◌∙◌, arith}
use Rattle.std.specs.Int.{w64, leading_zeros}
use Rattle.std.proofs.lemmas.List.Elements.{All-nil, All-cons, All-head, All-tail}
use Rattle.hll_base.specs.Hash.{hash, default_seed}
use Rattle.hll_coupons.proofs.Registers.{value_of-pair}
use Rattle.hll_coupons.specs.Hashed.{coupon_of_bytes}
use Rattle.hll_coupons.specs.Pair.{IsPair, slot_of, value_of}
use Rattle.hll_sketch.specs.Image.{IsReadAs}
use Rattle.hll_sketch.specs.Laws.{add_in_turn}
use Rattle.hll_base.specs.declared.hll_type.HllType.TheVariants.{Hll8}
use Rattle.hll_sketch.specs.Value.{Sketch, IsLgK, IsLegal, empty_sketch}
use Rattle.hll_state.specs.Counter.{sketch_in}
use Rattle.hll_state.specs.Memory.{IsStateOf, OfState}
use Rattle.hll_state.specs.Merged.{bit_of}
use Rattle.hll_state.specs.Whole.{IsWhole, LeavesWhole}
use Rattle.hll_state.specs.declared.header.Header.{Header}
use Rattle.hll_state.proofs.States.{one_header, means}
use Rattle.hll_state.proofs.Whole.{empty_whole, added_whole, merged_whole}
use Rattle.hll_c.specs.ByteRegisters.{HaveValues}
use Rattle.hll_c.specs.Answers.{ok_code}
use Rattle.hll_c.specs.States.{IsNewState, MakesState, JoinsUnder, as_it_was, at_bound, no_room_at_bound, AddsToState, JoinsSketch, JoinsImage, JoinsState, added, no_room, not_added, joined, no_room_to_join, other_lg_k, image_read, image_not_read, state_read, no_states, register_above, made, made_open, few_elements, no_lg_k}

-- ---- pairs

-- the coupon of a byte string is a pair
pair_of_bytes : (bytes : List ℕ) → IsPair (coupon_of_bytes bytes)
pair_of_bytes bytes =
    let halves = hash default_seed bytes in
    let zeros : ℕ = min (leading_zeros w64 halves.second) 62 in
    let value : value_of (coupon_of_bytes bytes) ≡ zeros + 1 = value_of-pair (slot_of halves.first) (zeros + 1) (omega arith) in
    record { valued = omega (arith, value); small = omega (arith, value) }

pub pairs_of_strings : (strings : List (List ℕ)) → All IsPair (map coupon_of_bytes strings)
pairs_of_strings [] = All-nil IsPair
pairs_of_strings (bytes ∷ rest) = All-cons IsPair (coupon_of_bytes bytes) (map coupon_of_bytes rest) (pair_of_bytes bytes) (pairs_of_strings rest)

-- so is a number of 32 bits whose value is not 0
pub pairs_of_coupons : (cs : List ℕ) → All (λ raw. raw < 2 ^ 32) cs → HaveValues cs → All IsPair cs
pairs_of_coupons [] small are = All-nil IsPair
pairs_of_coupons (c ∷ cs) small are =
    let low : 2 ^ 26 ≤ c = All-head (λ raw. 2 ^ 26 ≤ raw) c cs are in
    let high : c < 2 ^ 32 = All-head (λ raw. raw < 2 ^ 32) c cs small in
    All-cons IsPair c cs (record { valued = omega (arith, low); small = omega (arith, high) })
    (pairs_of_coupons cs (All-tail (λ raw. raw < 2 ^ 32) c cs small) (All-tail (λ raw. 2 ^ 26 ≤ raw) c cs are))

-- ---- states

-- elements are the state of one sketch
pub one_sketch : (elements : List (List ℕ)) (x y : Sketch) → IsStateOf elements x → IsStateOf elements y → x ≡ y
one_sketch elements x y is other = is.is ∙ ap (λ (h : Header). sketch_in h (drop 10 elements)) (one_header elements is.state.header other.state.header is.state.has other.state.has) ∙ sym other.is

whole_as : (elements : List (List ℕ)) (x : Sketch) → IsStateOf elements x → OfState elements IsWhole → IsWhole x
whole_as elements x is whole = subst IsWhole (one_sketch elements whole.sketch x whole.was is) whole.is

same_whole : (old new : List (List ℕ)) → new ≡ old → LeavesWhole old new
same_whole old new same whole = subst (λ e. OfState e IsWhole) (sym same) whole

pub leaves_added : (InRange : Type 0) (cs : List ℕ) (old new : List (List ℕ)) (size_old size_new code : ℕ) → (InRange → All IsPair cs) → AddsToState InRange cs old new size_old size_new code → LeavesWhole old new
leaves_added InRange cs old new size_old size_new code are (added range of sizes) whole =
    record { sketch = add_in_turn of.sketch cs; was = of.is; is = added_whole of.sketch cs (whole_as old of.sketch of.was whole) (are range) }
leaves_added InRange cs old new size_old size_new code are (no_room range of lacks enough) whole =
    record { sketch = of.sketch; was = of.is; is = whole_as old of.sketch of.was whole }
leaves_added InRange cs old new size_old size_new code are (not_added none same sizes) whole = same_whole old new same whole

-- a new state is one
new_whole : (lg_k : ℕ) (open_lg_k : Bool) (elements : List (List ℕ)) → IsLgK lg_k → IsNewState lg_k open_lg_k elements → OfState elements IsWhole
new_whole lg_k open_lg_k elements is fresh = record { sketch = empty_sketch lg_k Hll8; was = fresh.sketch; is = empty_whole lg_k is }

leaves_joined : (lg_max_k others : ℕ) (y : Sketch) (old new : List (List ℕ)) (size_old size_new code : ℕ) → IsLegal y → JoinsSketch lg_max_k others y old new size_old size_new code → LeavesWhole old new
leaves_joined lg_max_k others y old new size_old size_new code legal (joined joins lg_k_open sizes) whole =
    let h : Header = joins.before.header in
    let x : Sketch = sketch_in h (drop 10 old) in
    let was : IsWhole x = whole_as old x (means old h joins.before.has) whole in
    record {
      sketch = sketch_in joins.after (drop 10 new);
      was = means new joins.after joins.has;
      is = subst IsWhole (sym (joins.is.is was.some)) (merged_whole (not (nat_eq lg_max_k 0)) x y was legal);
    }
leaves_joined lg_max_k others y old new size_old size_new code legal (no_room_to_join len joins lg_k_open sizes) whole =
    let h : Header = joins.before.header in
    let x : Sketch = sketch_in h (drop 10 old) in
    record {
      sketch = sketch_in joins.after (drop 10 new);
      was = means new joins.after joins.has;
      is = subst IsWhole (sym joins.is.kept) (whole_as old x (means old h joins.before.has) whole);
    }
leaves_joined lg_max_k others y old new size_old size_new code legal (other_lg_k joins same sizes) whole = same_whole old new same whole

leaves_under : (lg_max_k others : ℕ) (y : Sketch) (old new : List (List ℕ)) (size_old size_new code : ℕ) → IsLegal y → JoinsUnder lg_max_k others y old new size_old size_new code → LeavesWhole old new
leaves_under lg_max_k others y old new size_old size_new n legal (as_it_was {code} undecided joins) whole = leaves_joined lg_max_k others y old new size_old size_new code legal joins whole
leaves_under lg_max_k others y old new size_old size_new code legal (at_bound decided is begun fresh joins) whole =
    leaves_joined lg_max_k others y begun new size_old size_new ok_code legal joins (new_whole lg_max_k false begun is fresh)
leaves_under lg_max_k others y old new size_old size_new code legal (no_room_at_bound decided len enough lacks same sizes) whole = same_whole old new same whole

pub leaves_image : (lg_max_k : ℕ) (image : List ℕ) (old new : List (List ℕ)) (size_old size_new code : ℕ) → ((y : Sketch) → IsReadAs image y → IsLegal y)
    → JoinsImage lg_max_k image old new size_old size_new code → LeavesWhole old new
leaves_image lg_max_k image old new size_old size_new n legal (image_read {code} y read all) whole =
    leaves_under lg_max_k (bit_of y.width) y old new size_old size_new code (legal y read) all whole
leaves_image lg_max_k image old new size_old size_new code legal (image_not_read refused needed same sizes) whole = same_whole old new same whole

pub leaves_state : (lg_max_k : ℕ) (other old new : List (List ℕ)) (size_old size_new code : ℕ) → OfState other IsWhole → JoinsState lg_max_k other old new size_old size_new code → LeavesWhole old new
leaves_state lg_max_k other old new size_old size_new n is (state_read {code} h has all) whole =
    let y : Sketch = sketch_in h (drop 10 other) in
    let legal : IsLegal y = (whole_as other y (means other h has) is).legal in
    leaves_under lg_max_k h.widths y old new size_old size_new code legal all whole
leaves_state lg_max_k other old new size_old size_new code is (no_states none same sizes) whole = same_whole old new same whole
leaves_state lg_max_k other old new size_old size_new code is (register_above under illegal same sizes) whole = same_whole old new same whole

pub made_whole : (lg_k : ℕ) (old new : List (List ℕ)) (code : ℕ) → MakesState lg_k old new code → code ≡ ok_code → OfState new IsWhole
made_whole lg_k old new code (made is new_state) done = new_whole lg_k false new is new_state
made_whole lg_k old new code (made_open none new_state) done = new_whole 4 true new (record { low = omega arith; high = omega arith }) new_state
made_whole lg_k old new code (few_elements is few same) done = absurd (omega (arith, done))
made_whole lg_k old new code (no_lg_k none same) done = absurd (omega (arith, done))
