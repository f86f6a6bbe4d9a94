-- SPDX-License-Identifier: Apache-2.0
-- Lemmas on the result of a run.
use Rattle.std.proofs.Common.{◌≡◌, ◌⊎◌, ℕ, Option, None, Some, List, [], ◌++◌, inl, refl, sym, ◌∙◌, ap, subst, append_assoc, Result, Ok, Err}
use Rattle.std.specs.Result.{IsErrAnd, MatchResult}
use Rattle.std.proofs.lemmas.List.{append-nil}
use Rattle.std.specs.Io.KnownBytes.{Consumes, IsAtEnd}
use Rattle.std.specs.Str.Lines.{lines}
use Rattle.hll_sketch.specs.Layout.{SketchLayout, sketch_of}
use Rattle.hll_sketch.specs.Written.{Written}
use Rattle.hll_text.specs.declared.fault.Fault.TheVariants.{Memory}
use Rattle.hll_text.specs.declared.fault.MergeError.{MergeError}
use Rattle.hll_text.specs.Text.{ended_lines, open_line, line_of_rest, printed_line, reading}
use Rattle.hll_text.proofs.CutLemmas.{ended_lines-append, lines-ended}
use Rattle.hll_merge.specs.Accepting.{FaultsAtLine, IsFirstFault}
use Rattle.hll_merge.specs.Feeding.{Feed, IsFedBy, going, stopped, IsOutcomeOf}
use Rattle.hll_merge.specs.Run.{IsAnswer, IsAllOf}
use Rattle.hll_merge.proofs.FeedingLemmas.{FaultsFrom-before}

pub answer : (text line bytes : List ℕ) (x : SketchLayout) → IsOutcomeOf text x → Written bytes (sketch_of x) → line ≡ printed_line bytes → IsAnswer text line
answer text line bytes x o written shown = record {
  plan = o.plan;
  accepted = o.accepted;
  holds = o.holds;
  bytes = bytes;
  written = subst (Written bytes) o.value written;
  shown = shown;
}

-- a reader at its end has returned all that it had
pub all_of : (before after : Option (List ℕ)) (text : List ℕ) → Consumes before after text → IsAtEnd after → IsAllOf before text
all_of None after text h e = tt
all_of (Some xs) None text h e = absurd h
all_of (Some xs) (Some ys) text h e = sym (h ∙ ap (λ zs. text ++ zs) e ∙ append-nil text)

-- an error that is passed on
pub refused_with : {T E : Type 0} (P : T → Type 0) (Q : E → Type 0) (r : Result T E) (e : E) → IsErrAnd r (λ f. f ≡ e) → Q e → MatchResult r P Q
refused_with P Q (Ok x) e h q = absurd h
refused_with P Q (Err f) e h q = subst Q (sym h) q

-- the fault that is kept is that of the text
pub fault_of_fed : (text : List ℕ) (s : Feed) (e : MergeError) → IsFedBy text s → s.fault ≡ Some e → (e.fault ≡ Memory) ⊎ FaultsAtLine reading (ended_lines text) e
fault_of_fed text s e (going f p n ts r h) some = absurd (let same : None ≡ Some e = sym f ∙ some in cc)
fault_of_fed text s e (stopped d f p h) some =
    let same : d ≡ e = let both : Some d ≡ Some e = sym f ∙ some in cc in
    subst (λ x. (x.fault ≡ Memory) ⊎ FaultsAtLine reading (ended_lines text) x) same h

-- a prefix of the text was read
pub record Whole (before : Option (List ℕ)) (taken : List ℕ) : Type 0 where
  pub text : List ℕ
  pub more : List ℕ
  pub is : text ≡ taken ++ more
  pub all : IsAllOf before text

pub whole_of : (before after : Option (List ℕ)) (taken : List ℕ) → Consumes before after taken → Whole before taken
whole_of None after taken h = record { text = taken; more = []; is = sym (append-nil taken); all = tt }
whole_of (Some xs) None taken h = elim h [ ]
whole_of (Some xs) (Some ys) taken h = record { text = xs; more = ys; is = h; all = refl }

-- a fault of the lines that end in a prefix of a text is the first fault of the text
pub first_of_front : (text taken more : List ℕ) (e : MergeError) → text ≡ taken ++ more → FaultsAtLine reading (ended_lines taken) e → IsFirstFault text e
first_of_front text taken more e is f =
    let after : List (List ℕ) = ended_lines (open_line taken ++ more) in
    let last : List (List ℕ) = line_of_rest (open_line (taken ++ more)) in
    let all : lines (taken ++ more) ≡ ended_lines taken ++ (after ++ last) =
    lines-ended (taken ++ more) ∙ ap (λ ls. ls ++ last) (ended_lines-append taken more) ∙ append_assoc (ended_lines taken) after last in
    inl (subst (λ t. FaultsAtLine reading (lines t) e) (sym is) (subst (λ ls. FaultsAtLine reading ls e) (sym all) (FaultsFrom-before [] 0 (ended_lines taken) (after ++ last) e f)))
