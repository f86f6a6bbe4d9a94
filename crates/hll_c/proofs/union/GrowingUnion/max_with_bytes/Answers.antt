-- SPDX-License-Identifier: Apache-2.0
use Rattle.std.proofs.Common.{true, ◌≡◌, ℕ, ◌≤◌, All, List, length, take, drop, ◌++◌, refl, sym, subst, ◌∙◌}
use Rattle.std.proofs.lemmas.Bool.{le-leb}
use Rattle.hll_arrays.proofs.ReadingRegisters.{small-from}
use Rattle.hll_base.specs.declared.hll_type.HllType.TheVariants.{Hll8}
use Rattle.hll_registers.proofs.States.{IsState-cleared}
use Rattle.hll_registers.specs.State.{cleared_state}
use Rattle.hll_registers.specs.declared.estimate_state.EstimateState.{EstimateState}
use Rattle.hll_sketch.specs.Merging.{merge}
use Rattle.hll_sketch.specs.Value.{Sketch, IsLegal, registers, in_registers}
use Rattle.hll_state.specs.Counter.{sketch_in}
use Rattle.hll_state.specs.Header.{IsWithin}
use Rattle.hll_state.specs.Merged.{HasSomeRegister}
use Rattle.hll_c.specs.Steps.{Union, IsUnder, union_so_far}
use Rattle.hll_c.proofs.GrowingUnions.{registers_in_place, emptied, written_back}
use Rattle.hll_c.proofs.union.GrowingUnion.max_with_bytes.Goals as goal

-- the elements that were written back
pub invariant_of-self-then-greatest-gt-MAX_VALUE : goal.invariant_of-self-then-greatest-gt-MAX_VALUE
invariant_of-self-then-greatest-gt-MAX_VALUE c = emptied c.self.inside.lg_max_k c.new-self-inside.result _ c.self.invariant.lg_k c.new-self-inside.ensures

module _ (c : goal.Else-greatest-gt-MAX_VALUE) where
  abbrev old : List (List ℕ)
  old = c.self.inside.elements.items

  abbrev new : List (List ℕ)
  new = c.max_with_bytes.new.body

  size : length new ≡ length c.deref_mut.result.now
  size = c.max_with_bytes.auto.body

  back : take c.self.inside.elements.len (new ++ drop (length new) old) ≡ new
  back = written_back old new c.self.inside.elements.len (size ∙ c.deref_mut.ensures.len)

  module _ (y : Sketch) (state : EstimateState) (lg_k : y.lg_k ≡ c.args.lg_k) (content : y.content ≡ registers c.args.bytes.now state) (legal : IsLegal y) where
    both : IsUnder c.self.inside.lg_max_k c.max_with_bytes.new.self new × (sketch_in c.max_with_bytes.new.self new ≡ merge c.self.inside.lg_max_k (sketch_in c.self.inside.header old) y)
    both =
        let before : c.deref_mut.result.now ≡ old = c.deref_mut.ensures.value in
        let given = c.in_ok-greatest.ensures in
        let is : sketch_in c.max_with_bytes.new.self new ≡ merge c.self.inside.header.lg_k (sketch_in c.self.inside.header old) y =
        subst (λ xs. HasSomeRegister (sketch_in c.self.inside.header xs) → sketch_in c.max_with_bytes.new.self new ≡ merge c.self.inside.header.lg_k (sketch_in c.self.inside.header xs) y) before
        (given.merged y state lg_k content) c.self.invariant.gadget.registers in
        let inside : in_registers (sketch_in c.self.inside.header old).content ≡ true = subst (λ xs. in_registers (sketch_in c.self.inside.header xs).content ≡ true) before given.registers in
        registers_in_place c.self.inside.lg_max_k y c.self.inside.header old c.max_with_bytes.new.self new c.self.invariant legal (subst (IsWithin c.max_with_bytes.new.self) (sym size) c.max_with_bytes.ensures.within)
        (c.self.invariant.gadget.registers inside) is

pub invariant_of-self-else-greatest-gt-MAX_VALUE : goal.invariant_of-self-else-greatest-gt-MAX_VALUE
invariant_of-self-else-greatest-gt-MAX_VALUE c =
    let Q : List ℕ = c.args.bytes.now in
    let low : c.in_ok-greatest.greatest ≤ 63 = c.if-greatest-gt-MAX_VALUE.false in
    let small : All (λ v. v ≤ 63) Q = small-from Q (c.in_ok-greatest.ensures.greatest 63 ∙ le-leb c.in_ok-greatest.greatest 63 low) in
    let y : Sketch = record { lg_k = c.args.lg_k; width = Hll8; content = registers Q cleared_state } in
    let legal : IsLegal y = record { lg_k = c.requires.lg_k; content = (record { size = c.requires.size; small = small }, IsState-cleared) } in
    subst (IsUnder c.self.inside.lg_max_k c.max_with_bytes.new.self) (sym (back c)) (both c y cleared_state refl refl legal).0

pub returns-else-greatest-gt-MAX_VALUE-clause-merged : goal.returns-else-greatest-gt-MAX_VALUE-clause-merged
returns-else-greatest-gt-MAX_VALUE-clause-merged c few y state lg_k content legal =
    subst (λ (u : Union). union_so_far (record { lg_max_k = c.self.inside.lg_max_k; header = c.max_with_bytes.new.self; elements = take c.self.inside.elements.len (new c ++ drop (length (new c)) (old c)) }) ≡ merge u.lg_max_k (union_so_far u) y) c.self.view_is
    (subst (λ xs. sketch_in c.max_with_bytes.new.self xs ≡ merge c.self.inside.lg_max_k (sketch_in c.self.inside.header (old c)) y) (sym (back c)) (both c y state lg_k content legal).1)
