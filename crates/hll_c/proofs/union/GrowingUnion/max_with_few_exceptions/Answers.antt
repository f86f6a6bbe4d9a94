-- SPDX-License-Identifier: Apache-2.0
use Rattle.std.proofs.Common.{true, false, Bool, ◌≡◌, ◌<◌, ℕ, List, length, take, drop, ◌++◌, refl, sym, ap, subst, ◌∙◌}
use Rattle.std.proofs.lemmas.List.Elements.{All-from_get_or}
use Rattle.hll_sketch.specs.Merging.{merge}
use Rattle.hll_sketch.specs.Value.{Sketch, IsLegal, in_registers}
use Rattle.hll_sketch.proofs.MergedImages.{read_is_legal}
use Rattle.hll_state.specs.Counter.{sketch_in}
use Rattle.hll_state.specs.Header.{IsWithin}
use Rattle.hll_state.specs.Merged.{HasSomeRegister}
use Rattle.hll_state.specs.declared.header.Header.{Header}
use Rattle.hll_c.specs.Steps.{Union, IsUnder, union_so_far}
use Rattle.hll_c.proofs.GrowingUnions.{registers_in_place, written_back}
use Rattle.hll_c.proofs.union.GrowingUnion.max_with_few_exceptions.Goals as goal

module _ (c : goal.After-self-1) where
  abbrev bound : ℕ
  bound = c.self.inside.lg_max_k

  abbrev h : Header
  h = c.self.inside.header

  abbrev g : Header
  g = c.max_with_few_exceptions.new.self

  abbrev old : List (List ℕ)
  old = c.self.inside.elements.items

  abbrev new : List (List ℕ)
  new = c.max_with_few_exceptions.new.body

  abbrev y : Sketch
  y = c.in-Some.ensures.read.sketch

  size : length new ≡ length c.deref_mut.result.now
  size = c.max_with_few_exceptions.auto.body

  -- the elements that were written back
  back : take c.self.inside.elements.len (new ++ drop (length new) old) ≡ new
  back = written_back old new c.self.inside.elements.len (size ∙ c.deref_mut.ensures.len)

  both : c.max_with_few_exceptions.result ≡ true → IsUnder bound g new × (sketch_in g new ≡ merge bound (sketch_in h old) y)
  both did =
      let before : c.deref_mut.result.now ≡ old = c.deref_mut.ensures.value in
      let of = c.in-Some.ensures in
      let legal : IsLegal y = read_is_legal c.args.image.now y (All-from_get_or (λ n. n < 256) c.args.image.now 0 (λ i within. (c.type_inv.image i).fits)) of.read.read in
      let is : sketch_in g new ≡ merge h.lg_k (sketch_in h old) y =
      subst (λ xs. HasSomeRegister (sketch_in h xs) → sketch_in g new ≡ merge h.lg_k (sketch_in h xs) y) before
      (c.max_with_few_exceptions.ensures.merged did y of.state of.read.lg_k of.read.content) c.self.invariant.gadget.registers in
      let inside : in_registers (sketch_in h old).content ≡ true = subst (λ xs. in_registers (sketch_in h xs).content ≡ true) before (c.max_with_few_exceptions.ensures.registers did) in
      registers_in_place bound y h old g new c.self.invariant legal (subst (IsWithin g) (sym size) c.max_with_few_exceptions.ensures.within) (c.self.invariant.gadget.registers inside) is

  kept : c.max_with_few_exceptions.result ≡ false → (g ≡ h) × (new ≡ old)
  kept none = let same = c.max_with_few_exceptions.ensures.unchanged none in (same.0, same.1 ∙ c.deref_mut.ensures.value)

  under : (did : Bool) → c.max_with_few_exceptions.result ≡ did → IsUnder bound g new
  under true is = (both is).0
  under false is = let same = kept is in subst (λ (x : Header). IsUnder bound x new) (sym same.0) (subst (IsUnder bound h) (sym same.1) c.self.invariant)

pub invariant_of-self : goal.invariant_of-self
invariant_of-self c = subst (IsUnder (bound c) (g c)) (sym (back c)) (under c c.max_with_few_exceptions.result refl)

pub returns-clause-merged : goal.returns-clause-merged
returns-clause-merged c did = record {
  sketch = y c;
  read = c.in-Some.ensures.read.read;
  gadget = subst (λ (u : Union). union_so_far (record { lg_max_k = bound c; header = g c; elements = take c.self.inside.elements.len (new c ++ drop (length (new c)) (old c)) }) ≡ merge u.lg_max_k (union_so_far u) (y c)) c.self.view_is
      (subst (λ xs. sketch_in (g c) xs ≡ merge (bound c) (sketch_in (h c) (old c)) (y c)) (sym (back c)) (both c did).1);
  bound = ap (λ (u : Union). u.lg_max_k) c.self.view_is;
}

pub returns-clause-unchanged : goal.returns-clause-unchanged
returns-clause-unchanged c none =
    let same = kept c none in
    let union : Header → List (List ℕ) → Union = λ x xs. record { lg_max_k = bound c; header = x; elements = xs } in
    (λ i. union (same.0 i) ((back c ∙ same.1) i)) ∙ c.self.view_is
