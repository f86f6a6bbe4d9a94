-- SPDX-License-Identifier: Apache-2.0
-- 8-bit registers into which other sketches are merged in place.
use Rattle.std.proofs.Common.{◌≡◌, ℕ, ◌≤◌, true, false, ◌&&◌, nat_eq, refl, sym, ap, ◌∙◌, arith, inl, inr}
use Rattle.std.specs.FinSet.{empty, len, len-empty}
use Rattle.std.specs.Ordering.{nat_cmp}
use Rattle.std.specs.Prelude.{min}
use Rattle.std.proofs.lemmas.Bool.{cases_Bool, cond-true, cond-false, eq-eqb}
use Rattle.hll_base.specs.declared.hll_type.HllType.{HllType}
use Rattle.hll_sketch.specs.Adding.{add, content_with}
use Rattle.hll_sketch.specs.Merging.{merge, merge_content, empty_union}
use Rattle.hll_sketch.specs.Union.{IsGadget}
use Rattle.hll_sketch.specs.Value.{Sketch, Content, coupons, registers, in_registers, is_empty, has_nonzero_registers, pairs_of, IsLegal}
use Rattle.hll_sketch.proofs.Adding.{lg_k-merge}
use Rattle.hll_sketch.proofs.Merges.{merged_whole, other_empty}

-- an empty union becomes a copy of 8-bit registers
pub merge-first : (m : ℕ) (x : Sketch) → IsGadget m x → in_registers x.content ≡ true → IsLegal x → merge m (empty_union m) x ≡ x
merge-first m x gadget inside legal =
    cond-false (is_empty x) (empty_union m) (merge_content m (empty_union m) x x.content) (gadget.registers inside) ∙ of x.lg_k x.width x.content gadget inside legal
  where
    of : (k : ℕ) (w : HllType) (c : Content) → let y : Sketch = record { lg_k = k; width = w; content = c } in
        IsGadget m y → in_registers c ≡ true → IsLegal y → merge_content m (empty_union m) y c ≡ y
    of k w (coupons S p) gadget inside legal = absurd (cc)
    of k w (registers R s) gadget inside legal =
        sym (merged_whole m (empty_union m) k R s (eq-eqb (len empty) 0 (len-empty nat_cmp)) gadget.lg_k refl legal.lg_k.high legal.content.0.size)
        ∙ (λ i. let y : Sketch = record { lg_k = k; width = sym gadget.width i; content = registers R s } in y)

-- a gadget with registers still has registers
pub in_registers-merge : (m : ℕ) (g x : Sketch) → in_registers g.content ≡ true → is_empty g ≡ false → in_registers (merge m g x).content ≡ true
in_registers-merge m g x inside some = elim (cases_Bool (is_empty x)) [
  | inl t ↦ ap (λ (y : Sketch). in_registers y.content) (cond-true (is_empty x) g (merge_content m g x x.content) t) ∙ inside
  | inr f ↦ ap (λ (y : Sketch). in_registers y.content) (cond-false (is_empty x) g (merge_content m g x x.content) f) ∙ of x.content
]
  where
    stay : (c : Content) → in_registers c ≡ true → in_registers (content_with g.lg_k c (pairs_of x)) ≡ true
    stay (coupons S p) inside = absurd (cc)
    stay (registers R s) inside = refl

    of : (c : Content) → in_registers (merge_content m g x c).content ≡ true
    of (coupons S p) =
        ap (λ (y : Sketch). in_registers y.content) (cond-false (is_empty g && nat_eq g.lg_k x.lg_k) (record g { content = x.content }) (add g (pairs_of x)) (other_empty (is_empty g) g.lg_k x.lg_k some))
        ∙ stay g.content inside
    of (registers R s) = refl

-- the lg_k is unchanged if no other is smaller
pub lg_k-merge_within : (m : ℕ) (g x : Sketch) → g.lg_k ≤ x.lg_k → (merge m g x).lg_k ≡ g.lg_k
lg_k-merge_within m g x below = lg_k-merge m g x ∙ elim (cases_Bool (has_nonzero_registers x)) [
  | inl t ↦ cond-true (has_nonzero_registers x) (min g.lg_k x.lg_k) g.lg_k t ∙ (let least : min g.lg_k x.lg_k ≡ g.lg_k = omega (arith, below) in least)
  | inr f ↦ cond-false (has_nonzero_registers x) (min g.lg_k x.lg_k) g.lg_k f
]
