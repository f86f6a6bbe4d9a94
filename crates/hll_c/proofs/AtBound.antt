-- SPDX-License-Identifier: Apache-2.0
-- A join into a state whose open lg_k the bound decides.
use Rattle.std.proofs.Common.{◌≡◌, ◌+◌, ◌-◌, ◌≤◌, ℕ, Bool, true, false, not, ◌&&◌, nat_eq, List, length, drop, refl, sym, ap, subst, ◌∙◌, arith}
use Rattle.std.proofs.lemmas.Bool.{cond-false, eq-eqb, ne_eqb, true≢false}
use Rattle.hll_base.specs.declared.hll_type.HllType.TheVariants.{Hll8}
use Rattle.hll_sketch.specs.Value.{Sketch, IsLgK, in_registers, empty_sketch}
use Rattle.hll_state.specs.Counter.{sketch_in}
use Rattle.hll_state.specs.Header.{new_header, most_elements}
use Rattle.hll_state.specs.Joined.{restarted, started_header, lg_ks_differ, AreEnoughToMerge}
use Rattle.hll_state.specs.Memory.{HasHeader}
use Rattle.hll_state.specs.Merged.{HasRoomToMerge, HasSomeRegister, len_asked_for}
use Rattle.hll_state.specs.declared.header.Header.{Header}
use Rattle.hll_state.proofs.Joining.{bounded_same, not_refused}
use Rattle.hll_state.proofs.States.{means, one_header}
use Rattle.hll_c.specs.States.{IsNewState, is_decided, JoinsSketch, joined, no_room_to_join, other_lg_k, JoinsUnder, at_bound}
use Rattle.hll_c.proofs.Whole.{one_sketch}

pub bounded : (bound : ℕ) → IsLgK bound → not (nat_eq bound 0) ≡ true
bounded bound is = ap not (ne_eqb bound 0 (λ none. omega (arith, none, is.low)))

-- under a bound a sketch is merged under the header that is there
under : (bound : ℕ) (h : Header) (y : Sketch) → IsLgK bound → started_header (not (nat_eq bound 0)) h y ≡ h
under bound h y is =
    cond-false (lg_ks_differ (not (nat_eq bound 0)) h.lg_k y) (restarted y.lg_k h.widths) h (bounded_same (not (nat_eq bound 0)) h.lg_k y (bounded bound is))

-- without one no lg_k is decided
pub unbounded : (b : Bool) (bound : ℕ) → bound ≡ 0 → (b && not (nat_eq bound 0)) ≡ false
unbounded true bound none = ap not (eq-eqb bound 0 none)
unbounded false bound none = refl

-- what the header of a new state asks for is enough
pub enough_for_new : (bound : ℕ) (h : Header) (y : Sketch) (len : ℕ) → h ≡ new_header bound → IsLgK bound → len ≡ len_asked_for h y → HasRoomToMerge h y (len - 10) → 10 ≤ len → len ≤ 10 + most_elements h.lg_k
    → AreEnoughToMerge y (new_header bound) len
enough_for_new bound h y len is lg_k asked room least most = subst (λ (g : Header). AreEnoughToMerge y g len) is
    (record { header_fits = least; lg_k = subst (λ (g : Header). IsLgK g.lg_k) (sym is) lg_k; room = room; most = most; asked = asked })

-- the sketch of a new state has no registers
new_has_some : (bound : ℕ) (begun : List (List ℕ)) (h : Header) → IsNewState bound false begun → HasHeader begun h → HasSomeRegister (sketch_in h (drop 10 begun))
new_has_some bound begun h fresh has inside =
    let same : empty_sketch bound Hll8 ≡ sketch_in h (drop 10 begun) = one_sketch begun (empty_sketch bound Hll8) (sketch_in h (drop 10 begun)) fresh.sketch (means begun h has) in
    absurd (true≢false (sym inside ∙ ap (λ (x : Sketch). in_registers x.content) (sym same)))

-- if a new state has room for a sketch, the sketch is merged into it
pub joins_new : (bound widths : ℕ) (y : Sketch) (old begun new : List (List ℕ)) (size_old size_new code : ℕ) (h : Header) → is_decided bound old ≡ true → IsLgK bound → IsNewState bound false begun → HasHeader begun h
    → HasRoomToMerge h y (length (drop 10 begun)) → JoinsSketch bound widths y begun new size_old size_new code → JoinsUnder bound widths y old new size_old size_new code
joins_new bound widths y old begun new size_old size_new code h decided is fresh has room (joined joins lg_k_open sizes) = at_bound decided is begun fresh (joined joins lg_k_open sizes)
joins_new bound widths y old begun new size_old size_new code h decided is fresh has room (no_room_to_join len joins lg_k_open sizes) =
    let g : Header = joins.before.header in
    absurd (joins.is.lacks (subst (λ (f : Header). HasRoomToMerge f y (length (drop 10 begun))) (one_header begun h g has joins.before.has ∙ sym (under bound g y is)) room))
joins_new bound widths y old begun new size_old size_new code h decided is fresh has room (other_lg_k joins same sizes) =
    let g : Header = joins.before.header in
    let x : Sketch = sketch_in g (drop 10 begun) in
    let b = not (nat_eq bound 0) in
    absurd (true≢false (sym (joins.is.refused (new_has_some bound begun g fresh joins.before.has)) ∙ not_refused b x y (bounded_same b x.lg_k y (bounded bound is))))
