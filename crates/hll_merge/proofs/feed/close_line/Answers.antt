-- SPDX-License-Identifier: Apache-2.0
use Rattle.std.proofs.Common.{◌≡◌, ◌+◌, ◌-◌, ◌++◌, [], ◌∷◌, List, ℕ, length, take, drop, inl, inr, refl, sym, ap, subst, ◌∙◌, arith}
use Rattle.std.specs.Str.Lines.{strip_carriage_return}
use Rattle.hll_text.specs.Text.{ended_lines, line_number, reading}
use Rattle.hll_merge.specs.Accepting.{Gives, IsFaultOfLine}
use Rattle.hll_text.specs.Cuts.{Closes}
use Rattle.hll_merge.specs.Stack.{StackStops}
use Rattle.hll_text.proofs.PartLemmas.{take-rest}
use Rattle.hll_text.proofs.CutLemmas.{closes-some, closes-none}
use Rattle.hll_merge.proofs.feed.close_line.Goals as goal

pub returns-in_default : goal.returns-in_default
returns-in_default g c = (
  [],
  closes-none c.args.pending.now.items c.args.piece.now c.requires (sym c.line_end.ensures ∙ c.in_default.is),
  let n : c.args.count ≡ line_number (c.args.count + 0) = omega (arith, c.ranges.count.fits) in n,
  λ ts h. (ts, refl, h),
)

pub returns-in-Ok : goal.returns-in-Ok
returns-in-Ok g c =
    let pending : List ℕ = c.args.pending.now.items in
    let piece : List ℕ = c.args.piece.now in
    let line : List ℕ = strip_carriage_return (pending ++ take c.in-Some.at piece) in
    let is : c.without_return.result.now ≡ line = c.without_return.ensures ∙ ap strip_carriage_return (c.as_slice.ensures.value ∙ c.in_default-extend_from_slice.ensures.items) in
    let closed : Closes pending piece [] (drop (c.in-Some.at + 1) piece) (line ∷ []) = closes-some pending piece c.in-Some.at c.requires (sym c.in-Some.ensures) in (
      line ∷ [],
      subst (λ left. Closes pending piece left (take (length piece - (c.in-Some.at + 1)) (drop (c.in-Some.at + 1) piece)) (line ∷ [])) (sym c.clear.ensures.items)
          (subst (λ rest. Closes pending piece [] rest (line ∷ [])) (sym (take-rest (c.in-Some.at + 1) piece)) closed),
      c.saturating_add-number.ensures,
      λ ts h. let next = c.in-Ok.ensures.ok ts h in (next.0, (next.0, subst (λ l. Gives reading ts l next.0) is next.1, refl), next.2),
    )

pub returns-in-Err-carry_line : goal.returns-in-Err-carry_line
returns-in-Err-carry_line g c = subst (StackStops c.args.stack.now c.args.count (ended_lines (c.args.pending.now.items ++ c.args.piece.now))) (sym c.at-in-Err-carry_line.ensures) (λ ts h.
    let pending : List ℕ = c.args.pending.now.items in
    let piece : List ℕ = c.args.piece.now in
    let line : List ℕ = strip_carriage_return (pending ++ take c.in-Some.at piece) in
    let is : c.without_return.result.now ≡ line = c.without_return.ensures ∙ ap strip_carriage_return (c.as_slice.ensures.value ∙ c.in_default-extend_from_slice.ensures.items) in
    elim (c.in-Err-carry_line.ensures.err ts h) [
      | inl m ↦ inl m
      | inr f ↦ inr (record {
        front = [];
        line = line;
        rest = ended_lines (drop (c.in-Some.at + 1) piece);
        is = (closes-some pending piece c.in-Some.at c.requires (sym c.in-Some.ensures)).lines;
        stack = ts;
        runs = refl;
        fault = subst (λ l. IsFaultOfLine reading ts l c.in-Err-carry_line.fault) is f;
        at = let n : c.saturating_add-number.result ≡ line_number (c.args.count + 0 + 1) = omega (arith, c.saturating_add-number.ensures) in n;
      })
    ])
