-- SPDX-License-Identifier: Apache-2.0
-- Coupons that are all added to registers in the cleared state.
use Rattle.std.proofs.Common.{◌≡◌, ℕ, ◌-◌, ◌^◌, ◌≤◌, Bool, true, false, nat_eq, List, length, take, refl, sym, ap, ◌∙◌, arith}
use Rattle.std.specs.Prelude.{if◌then◌else◌}
use Rattle.std.specs.Cmp.Lexicographic.{pointwise}
use Rattle.hll_base.specs.Join.{join}
use Rattle.hll_base.specs.declared.hll_type.HllType.TheVariants.{Hll8}
use Rattle.hll_coupons.specs.Fold.{fold_to}
use Rattle.hll_coupons.specs.Pair.{set_of}
use Rattle.hll_registers.specs.State.{cleared_state, state_after}
use Rattle.hll_sketch.proofs.Emptiness.{listed-none}
use Rattle.hll_sketch.proofs.Merges.{in_turn}
use Rattle.hll_sketch.specs.Adding.{add}
use Rattle.hll_sketch.specs.Laws.{add_in_turn}
use Rattle.hll_sketch.specs.Value.{Sketch, registers}
use Rattle.hll_state.specs.Counter.{sketch_in, content_of}
use Rattle.hll_state.specs.Header.{of_registers}
use Rattle.hll_state.specs.Registers.{values}
use Rattle.hll_state.specs.declared.header.Header.{Header}

-- the cleared state stays, whether registers change or not
stays_cleared : (old new : List ℕ) → cleared_state ≡ state_after old new cleared_state
stays_cleared old new = of (pointwise nat_eq old new)
  where
    of : (b : Bool) → cleared_state ≡ (if b then cleared_state else cleared_state)
    of true = refl
    of false = refl

-- coupons added in turn are added together
pub all_added : (x : Sketch) (order : List ℕ) → 1 ≤ length order → add_in_turn x order ≡ add x (set_of order)
all_added x order some = in_turn x order (λ none. omega (arith, some, ap length (listed-none order none)))

pub all_raised : (h : Header) → h.held ≡ of_registers cleared_state → (old new : List (List ℕ)) (order : List ℕ) → 1 ≤ length order
    → values (take (2 ^ (h.lg_k - 2)) new) ≡ join (values (take (2 ^ (h.lg_k - 2)) old)) (fold_to (set_of order) h.lg_k)
    → sketch_in h new ≡ add_in_turn (sketch_in h old) order
all_raised h is old new order some raised =
    let R : List ℕ = values (take (2 ^ (h.lg_k - 2)) old) in
    let V : List ℕ = values (take (2 ^ (h.lg_k - 2)) new) in
    let now : Sketch = record { lg_k = h.lg_k; width = Hll8; content = registers V cleared_state } in
    let was : Sketch = record { lg_k = h.lg_k; width = Hll8; content = registers R cleared_state } in
    let added : now ≡ add was (set_of order) = λ i. record { lg_k = h.lg_k; width = Hll8; content = registers (raised i) (stays_cleared R (join R (fold_to (set_of order) h.lg_k)) i) } in
    ap (λ held. let x : Sketch = record { lg_k = h.lg_k; width = Hll8; content = content_of h.lg_k held new } in x) is
    ∙ added ∙ sym (all_added was order some)
    ∙ ap (λ held. let x : Sketch = record { lg_k = h.lg_k; width = Hll8; content = content_of h.lg_k held old } in add_in_turn x order) (sym is)
