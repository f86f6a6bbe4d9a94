-- SPDX-License-Identifier: Apache-2.0
use Rattle.std.proofs.Common.{◌≡◌, ℕ, List, length, take, drop, ◌++◌, sym, subst, ◌∙◌}
use Rattle.hll_sketch.specs.BorrowedImage.{sketch_of_borrowed}
use Rattle.hll_sketch.specs.Value.{Sketch}
use Rattle.hll_c.specs.Steps.{Union, IsUnder, IsMergedInPlace}
use Rattle.hll_c.proofs.GrowingUnions.{in_place, written_back}
use Rattle.hll_c.proofs.union.GrowingUnion.update_in_place.Goals as goal

module _ (c : goal.After-self-1) where
  abbrev old : List (List ℕ)
  old = c.self.inside.elements.items

  abbrev new : List (List ℕ)
  new = c.join.new.body

  abbrev y : Sketch
  y = sketch_of_borrowed c.args.image.now

  size : length new ≡ length c.deref_mut.result.now
  size = c.join.auto.body

  back : take c.self.inside.elements.len (new ++ drop (length new) old) ≡ new
  back = written_back old new c.self.inside.elements.len (size ∙ c.deref_mut.ensures.len)

  both : IsUnder c.self.inside.lg_max_k c.join.new.self new × IsMergedInPlace y (record { lg_max_k = c.self.inside.lg_max_k; header = c.self.inside.header; elements = old }) (record { lg_max_k = c.self.inside.lg_max_k; header = c.join.new.self; elements = new }) c.join.result
  both = in_place c.self.inside.lg_max_k y c.self.inside.header old c.deref_mut.result.now c.join.new.self new c.join.result c.self.invariant c.requires c.deref_mut.ensures.value size c.join.ensures.within c.join.ensures.joined

pub invariant_of-self : goal.invariant_of-self
invariant_of-self c = subst (IsUnder c.self.inside.lg_max_k c.join.new.self) (sym (back c)) (both c).0

pub returns-clause-merged : goal.returns-clause-merged
returns-clause-merged c =
    subst (λ (u : Union). IsMergedInPlace (y c) u (record { lg_max_k = c.self.inside.lg_max_k; header = c.join.new.self; elements = take c.self.inside.elements.len (new c ++ drop (length (new c)) (old c)) }) c.join.result) c.self.view_is
    (subst (λ xs. IsMergedInPlace (y c) (record { lg_max_k = c.self.inside.lg_max_k; header = c.self.inside.header; elements = old c }) (record { lg_max_k = c.self.inside.lg_max_k; header = c.join.new.self; elements = xs }) c.join.result) (sym (back c)) (both c).1)
