-- SPDX-License-Identifier: Apache-2.0
use Rattle.std.proofs.Common.{ℕ, ◌-◌, List, length, drop, refl, sym, ap, subst, ◌∙◌}
use Rattle.std.proofs.lemmas.Bool.{true≢false}
use borrow.Rule.Slice.PartMut.{mid_of}
use Rattle.hll_state.specs.Counter.{sketch_in, IsResolved}
use Rattle.hll_state.specs.Memory.{HasHeader}
use Rattle.hll_state.specs.declared.header.Header.{Header}
use Rattle.hll_state.proofs.States.{one_header, opened, rest_borrowed, rest_written, means, kept, same_widths, grows, read_own, open_written}
use Rattle.hll_state.proofs.memory.resolve.Goals as goal

-- what is resolved under one header of elements is so under another
of_own : (elements : List (List ℕ)) (g h : Header) → HasHeader elements g → HasHeader elements h → IsResolved g (drop 10 elements) → IsResolved h (mid_of 10 (length elements - 10) elements)
of_own elements g h had has is = subst (λ (y : Header). IsResolved y (mid_of 10 (length elements - 10) elements)) (one_header elements g h had has) (subst (IsResolved g) (sym (rest_borrowed elements)) is)

pub returns-then-is_resolved-clause-resolved : goal.returns-then-is_resolved-clause-resolved
returns-then-is_resolved-clause-resolved c =
    subst (IsResolved c.in_ok-header.header) (rest_borrowed c.args.elements.now) (c.is_resolved.ensures.0 c.if-is_resolved.true)

pub returns-then-is_resolved-clause-some : goal.returns-then-is_resolved-clause-some
returns-then-is_resolved-clause-some c =
    let e : List (List ℕ) = c.args.elements.now in
    let h : Header = c.in_ok-header.header in
    record { sketch = sketch_in h (drop 10 e); was = means e h c.in_ok-header.ensures.some; is = refl }

pub returns-then-is_resolved-clause-widths : goal.returns-then-is_resolved-clause-widths
returns-then-is_resolved-clause-widths c = λ g has. sym (same_widths c.args.elements.now c.in_ok-header.header c.in_ok-header.ensures.some g has)

pub returns-then-is_resolved-clause-read : goal.returns-then-is_resolved-clause-read
returns-then-is_resolved-clause-read c = read_own c.args.elements.now

pub returns-clause-resolved : goal.returns-clause-resolved
returns-clause-resolved c =
    let e : List (List ℕ) = c.args.elements.now in
    let has : HasHeader e c.in_ok-header.header = c.in_ok-header.ensures.some in
    let rest = c.close.ensures.rest ∙ rest_written e c.resolve.new.body has.there in
    subst (IsResolved c.resolve.new.self) (sym rest) c.resolve.ensures.resolved

pub returns-clause-some : goal.returns-clause-some
returns-clause-some c =
    let e : List (List ℕ) = c.args.elements.now in
    let h : Header = c.in_ok-header.header in
    let g : Header = c.resolve.new.self in
    let has : HasHeader e h = c.in_ok-header.ensures.some in
    let rest = c.close.ensures.rest ∙ rest_written e c.resolve.new.body has.there in
    record {
      sketch = sketch_in h (drop 10 e);
      was = means e h has;
      is = sym (opened e c.resolve.new.body h g has c.resolve.ensures.same) ∙ ap (sketch_in g) (sym rest);
    }

pub returns-clause-widths : goal.returns-clause-widths
returns-clause-widths c = λ g has. c.resolve.ensures.widths ∙ ap (λ (h : Header). h.widths) (one_header c.args.elements.now c.in_ok-header.header g c.in_ok-header.ensures.some has)

pub returns-clause-read : goal.returns-clause-read
returns-clause-read c =
    let e : List (List ℕ) = c.args.elements.now in
    let h : Header = c.in_ok-header.header in
    let g : Header = c.resolve.new.self in
    let has : HasHeader e h = c.in_ok-header.ensures.some in
    let rest = c.close.ensures.rest ∙ rest_written e c.resolve.new.body has.there in
    record {
      kept = λ s. kept e c.close.new.elements h g has c.close.ensures.header (ap (sketch_in g) rest ∙ opened e c.resolve.new.body h g has c.resolve.ensures.same);
      grows = grows 0 e c.close.new.elements h g has c.close.ensures.header (record { widths = c.resolve.ensures.widths; takes = c.resolve.ensures.room 0 });
      resolved = λ x had is. absurd (true≢false (sym (c.is_resolved.ensures.1 (of_own e x h had has is)) ∙ c.if-is_resolved.false));
      unchanged = λ none. absurd (none (record { header = h; has = has }));
      lg_k_open = c.close.ensures.lg_k_open ∙ open_written e c.resolve.new.body has.there;
    }

pub returns-then-is_resolved-clause-settled : goal.returns-then-is_resolved-clause-settled
returns-then-is_resolved-clause-settled c = λ h had.
    let e : List (List ℕ) = c.args.elements.now in
    subst (λ (y : Header). IsResolved y (drop 10 e)) (one_header e c.in_ok-header.header h c.in_ok-header.ensures.some had)
    (subst (IsResolved c.in_ok-header.header) (rest_borrowed e) (c.is_resolved.ensures.0 c.if-is_resolved.true))

pub returns-clause-settled : goal.returns-clause-settled
returns-clause-settled c = λ h had.
    let e : List (List ℕ) = c.args.elements.now in
    let n : List (List ℕ) = c.close.new.elements in
    let has : HasHeader e c.in_ok-header.header = c.in_ok-header.ensures.some in
    let rest = c.close.ensures.rest ∙ rest_written e c.resolve.new.body has.there in
    subst (λ (y : Header). IsResolved y (drop 10 n)) (one_header n c.resolve.new.self h c.close.ensures.header had)
    (subst (IsResolved c.resolve.new.self) (sym rest) c.resolve.ensures.resolved)
