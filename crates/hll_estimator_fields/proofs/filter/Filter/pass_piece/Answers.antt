-- SPDX-License-Identifier: Apache-2.0
use Rattle.std.proofs.Common.{◌≡◌, ◌+◌, ◌++◌, ◌∷◌, [], ℕ, List, Some, take, drop, refl, sym, ap, subst, ◌∙◌, append_assoc, arith}
use Rattle.std.specs.Prelude.{◌==◌, position}
use Rattle.std.specs.Str.Lines.{strip_carriage_return}
use Rattle.std.proofs.lemmas.List.{append-nil}
use Rattle.hll_text.specs.Cuts.{IsOpen, Closes}
use Rattle.hll_text.specs.Text.{ended_lines, open_line}
use Rattle.hll_text.proofs.CutLemmas.{closes-some, closes-none, open-none}
use Rattle.hll_text.proofs.PartLemmas.{ended-none}
use Rattle.hll_estimator_fields.proofs.PassingLemmas.{Passes-none, Passes-append, Passes-of, Stops-after, Stops-before, Stops-of}
use Rattle.hll_estimator_fields.proofs.filter.Filter.pass_piece.Goals as goal

pub lines-init : goal.lines-init
lines-init g c = record {
  front = [];
  ended = refl;
  rest = refl;
  open_bytes = c.requires.open;
  passes = Passes-none _ _ _ _ (omega (arith, c.args.self.now.small)) c.requires.works;
}

pub returns-in-Ok : goal.returns-in-Ok
returns-in-Ok g c =
    let inv = c.lines.invariant in
    let pending : List ℕ = c.lines.self.pending.items in
    let rest : List ℕ = c.lines.rest.now in
    let closed : Closes pending rest pending rest [] = closes-none pending rest inv.open_bytes c.in-None.ensures.cut in
    let all : ended_lines (c.args.self.now.pending.items ++ c.args.piece.now) ≡ inv.front =
    inv.ended ∙ ap (λ ls. inv.front ++ ls) (closed.lines ∙ ended-none rest c.in-None.ensures.cut) ∙ append-nil inv.front in (
      c.in-Ok.ensures.items ∙ sym (inv.rest ∙ closed.open_bytes ∙ ap (λ bs. pending ++ bs) (open-none rest c.in-None.ensures.cut)),
      Passes-of _ _ inv.front _ _ _ _ (sym all) inv.passes,
    )

-- a line that ends in the rest of a piece, and the lines after it
next : (pending bytes rest more : List ℕ) (at : ℕ) → IsOpen pending → position (λ b. b == 10) rest ≡ Some at → bytes ≡ take at rest → more ≡ drop (at + 1) rest →
    Closes pending rest [] more (strip_carriage_return (pending ++ bytes) ∷ [])
next pending bytes rest more at opened found is after =
    subst (λ ms. Closes pending rest [] ms (strip_carriage_return (pending ++ bytes) ∷ [])) (sym after)
    (subst (λ bs. Closes pending rest [] (drop (at + 1) rest) (strip_carriage_return (pending ++ bs) ∷ [])) (sym is) (closes-some pending rest at opened found))

pub returns-in-Err-end_line : goal.returns-in-Err-end_line
returns-in-Err-end_line g c =
    let inv = c.lines.invariant in
    let pending : List ℕ = c.lines.self.pending.items in
    let cut = c.in-Some.ensures.cut in
    let line : List ℕ = strip_carriage_return (pending ++ c.in-Some.bytes.now) in
    let closed : Closes pending c.lines.rest.now [] c.in-Some.more.now (line ∷ []) = next pending _ _ _ cut.0 inv.open_bytes cut.1 cut.2 cut.3 in
    let all : ended_lines (c.args.self.now.pending.items ++ c.args.piece.now) ≡ (inv.front ++ line ∷ []) ++ ended_lines c.in-Some.more.now =
    inv.ended ∙ ap (λ ls. inv.front ++ ls) closed.lines ∙ sym (append_assoc inv.front (line ∷ []) (ended_lines c.in-Some.more.now)) in
    Stops-of _ _ _ _ _ _ _ (sym all)
    (Stops-before _ (inv.front ++ line ∷ []) (ended_lines c.in-Some.more.now) _ _ _ _ (Stops-after _ _ inv.front (line ∷ []) _ _ _ _ _ _ inv.passes c.in-Err-end_line.ensures))

pub lines-preserved : goal.lines-preserved
lines-preserved g c =
    let inv = c.lines.invariant in
    let pending : List ℕ = c.lines.self.pending.items in
    let cut = c.in-Some.ensures.cut in
    let line : List ℕ = strip_carriage_return (pending ++ c.in-Some.bytes.now) in
    let closed : Closes pending c.lines.rest.now [] c.in-Some.more.now (line ∷ []) = next pending _ _ _ cut.0 inv.open_bytes cut.1 cut.2 cut.3 in
    let passed = c.in_default.ensures in
    let empty : c.end_line.new.self.pending.items ≡ [] = passed.0 in
    record {
      front = inv.front ++ line ∷ [];
      ended = inv.ended ∙ ap (λ ls. inv.front ++ ls) closed.lines ∙ sym (append_assoc inv.front (line ∷ []) (ended_lines c.in-Some.more.now))
          ∙ ap (λ bs. (inv.front ++ line ∷ []) ++ ended_lines (bs ++ c.in-Some.more.now)) (sym empty);
      rest = inv.rest ∙ closed.open_bytes ∙ ap (λ bs. open_line (bs ++ c.in-Some.more.now)) (sym empty);
      open_bytes = subst IsOpen (sym empty) closed.still;
      passes = Passes-append _ _ _ inv.front (line ∷ []) _ _ _ _ _ inv.passes passed.1;
    }
