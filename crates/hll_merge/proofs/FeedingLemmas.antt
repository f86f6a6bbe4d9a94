-- SPDX-License-Identifier: Apache-2.0
-- Lemmas on a plan that comes in pieces.
use Rattle.std.proofs.Common.{◌≡◌, ℕ, ◌+◌, false, nat_eq, List, [], ◌∷◌, ◌++◌, length, Option, Some, None, MatchOption, inl, inr, refl, sym, ◌∙◌, ap, subst, arith, append_assoc}
use Rattle.std.specs.Io.KnownBytes.{Consumes, Keeps}
use Rattle.std.specs.Str.Lines.{lines}
use Rattle.std.proofs.lemmas.List.{length-append}
use Rattle.hll_sketch.specs.Layout.{SketchLayout}
use Rattle.hll_text.specs.declared.fault.Fault.TheVariants.{Stack}
use Rattle.hll_text.specs.declared.fault.MergeError.{MergeError}
use Rattle.hll_text.specs.Text.{ended_lines, open_line, line_of_rest, line_number, reading}
use Rattle.hll_text.proofs.CutLemmas.{ended_lines-append, open_line-append, lines-ended}
use Rattle.hll_merge.specs.Plan.{Plan}
use Rattle.hll_merge.specs.Accepting.{Runs, FaultsFrom, FaultsAtLine, Accepts}
use Rattle.hll_merge.specs.Stack.{AllRepresent, StackRuns, StackStops, StackGives, StackFaults}
use Rattle.hll_merge.specs.Feeding.{Feed, TakesPiece, RefusesPiece, Finishes, RefusesEnd, IsFedBy, going, stopped, unfed, IsOutcomeOf, StopsText}
use Rattle.hll_merge.proofs.Headline.{text_holds}
use Rattle.hll_merge.proofs.StackLemmas.{AllRepresent-one, length-AllRepresent}

-- ---- lines in turn, and then more lines

pub Runs-append : (ts us vs : List Plan) (ls ms : List (List ℕ)) → Runs reading ts ls us → Runs reading us ms vs → Runs reading ts (ls ++ ms) vs
Runs-append ts us vs [] ms h g = subst (λ xs. Runs reading xs ms vs) h g
Runs-append ts us vs (l ∷ ls) ms h g = (h.0, h.1, Runs-append h.0 us vs ls ms h.2 g)

-- a fault of lines after others
pub FaultsFrom-after : (ts us : List Plan) (n m : ℕ) (ls ms : List (List ℕ)) (e : MergeError) → Runs reading ts ls us → m ≡ line_number (n + length ls)
    → FaultsFrom reading us m ms e → FaultsFrom reading ts n (ls ++ ms) e
FaultsFrom-after ts us n m ls ms e h k f = record {
  front = ls ++ f.front;
  line = f.line;
  rest = f.rest;
  is = ap (λ xs. ls ++ xs) f.is ∙ sym (append_assoc ls f.front (f.line ∷ f.rest));
  stack = f.stack;
  runs = Runs-append ts us f.stack ls f.front h f.runs;
  fault = f.fault;
  at = let line : e.line ≡ line_number (n + length (ls ++ f.front) + 1) = omega (arith, k, f.at, length-append ls f.front) in line;
}

-- a fault of lines is still one when more lines follow
pub FaultsFrom-before : (ts : List Plan) (n : ℕ) (ls ms : List (List ℕ)) (e : MergeError) → FaultsFrom reading ts n ls e → FaultsFrom reading ts n (ls ++ ms) e
FaultsFrom-before ts n ls ms e f = record {
  front = f.front;
  line = f.line;
  rest = f.rest ++ ms;
  is = ap (λ xs. xs ++ ms) f.is ∙ append_assoc f.front (f.line ∷ f.rest) ms;
  stack = f.stack;
  runs = f.runs;
  fault = f.fault;
  at = f.at;
}

-- ---- streams

-- the lines that end in a text and a piece are those of the text, and then those of the pending bytes and the piece
lines-more : (text piece pending : List ℕ) → pending ≡ open_line text → ended_lines (text ++ piece) ≡ ended_lines text ++ ended_lines (pending ++ piece)
lines-more text piece pending e = ended_lines-append text piece ∙ ap (λ bytes. ended_lines text ++ ended_lines (bytes ++ piece)) (sym e)

pub takes-stream : (text piece : List ℕ) (s u : Feed) → IsFedBy text s → s.fault ≡ None → TakesPiece s piece u → IsFedBy (text ++ piece) u
takes-stream text piece s u (going f p n ts r h) none t =
    let before : List (List ℕ) = ended_lines text in
    let more : List (List ℕ) = ended_lines (s.pending ++ piece) in
    let all = lines-more text piece s.pending p in
    let run = t.runs ts h in
    let count : u.count ≡ line_number (length (ended_lines (text ++ piece))) = omega (arith, t.count, n, ap length all, length-append before more) in
    going t.fault (t.pending ∙ ap (λ bytes. open_line (bytes ++ piece)) p ∙ sym (open_line-append text piece)) count run.0
    (subst (λ ls. Runs reading [] ls run.0) (sym all) (Runs-append [] ts run.0 before more r run.1)) run.2
takes-stream text piece s u (stopped e f p h) none t = absurd (let same : None ≡ Some e = sym none ∙ f in cc)

pub refuses-stream : (text piece : List ℕ) (s u : Feed) (e : MergeError) → IsFedBy text s → s.fault ≡ None → RefusesPiece s piece u e → IsFedBy (text ++ piece) u
refuses-stream text piece s u e (going f p n ts r h) none t =
    let before : List (List ℕ) = ended_lines text in
    let more : List (List ℕ) = ended_lines (s.pending ++ piece) in
    stopped e t.fault t.pending (elim (t.first ts h) [
      | inl m ↦ inl m
      | inr faults ↦ inr (subst (λ ls. FaultsAtLine reading ls e) (sym (lines-more text piece s.pending p)) (FaultsFrom-after [] ts 0 s.count before more e r (let k : s.count ≡ line_number (0 + length before) = omega (arith, n) in k) faults))
    ])
refuses-stream text piece s u e (stopped d f p h) none t = absurd (let same : None ≡ Some d = sym none ∙ f in cc)

pub stays-stream : (text piece : List ℕ) (s : Feed) (e : MergeError) → IsFedBy text s → s.fault ≡ Some e → IsFedBy (text ++ piece) s
stays-stream text piece s e (going f p n ts r h) some = absurd (let same : None ≡ Some e = sym f ∙ some in cc)
stays-stream text piece s e (stopped d f p (inl m)) some = stopped d f p (inl m)
stays-stream text piece s e (stopped d f p (inr h)) some =
    stopped d f p (inr (subst (λ ls. FaultsAtLine reading ls d) (sym (ended_lines-append text piece)) (FaultsFrom-before [] 0 (ended_lines text) (ended_lines (open_line text ++ piece)) d h)))

-- with no text yet
pub unfed-stream : IsFedBy [] unfed
unfed-stream = going refl refl (let none : 0 ≡ line_number (length (ended_lines [])) = omega arith in none) [] refl tt

pub none_of_option : {X A : Type 0} (B : X → Type 0) (o : Option X) → o ≡ None → MatchOption o A B → A
none_of_option B None e h = h
none_of_option B (Some x) e h = absurd (cc)

pub Consumes-keeps : (a b c : Option (List ℕ)) (xs : List ℕ) → Consumes a b xs → Keeps b c → Consumes a c xs
Consumes-keeps None b c xs h k = tt
Consumes-keeps (Some us) None c xs h k = elim h [ ]
Consumes-keeps (Some us) (Some bs) None xs h k = elim k [ ]
Consumes-keeps (Some us) (Some bs) (Some cs) xs h k = h ∙ ap (λ zs. xs ++ zs) (sym k)

-- ---- the end of a text

pub one-left : (xs : List ℕ) → nat_eq (length xs) 0 ≡ false → line_of_rest xs ≡ xs ∷ []
one-left [] e = absurd (cc)
one-left (x ∷ xs) e = refl

-- a feed that did not fail, and what of its text is left
pub record Gone (text : List ℕ) (s : Feed) : Type 0 where
  pub count : s.count ≡ line_number (length (ended_lines text))
  pub stack : List Plan
  pub runs : Runs reading [] (ended_lines text) stack
  pub all : AllRepresent s.stack stack
  pub lines : lines text ≡ ended_lines text ++ line_of_rest s.pending

pub gone : (text : List ℕ) (s : Feed) → IsFedBy text s → s.fault ≡ None → Gone text s
gone text s (going f p n ts r h) none = record {
  count = n;
  stack = ts;
  runs = r;
  all = h;
  lines = lines-ended text ∙ ap (λ bytes. ended_lines text ++ line_of_rest bytes) (sym p);
}
gone text s (stopped e f p h) none = absurd (let same : None ≡ Some e = sym none ∙ f in cc)

-- what is left of the text was carried out on the sketches of a feed
pub ends-empty : (s : Feed) → s.pending ≡ [] → StackRuns s.stack (line_of_rest s.pending) s.stack
ends-empty s none = subst (λ bytes. StackRuns s.stack (line_of_rest bytes) s.stack) (sym none) (λ ts h. (ts, refl, h))

pub ends-line : (s : Feed) (new : List SketchLayout) → nat_eq (length s.pending) 0 ≡ false → StackGives reading s.stack s.pending new → StackRuns s.stack (line_of_rest s.pending) new
ends-line s new some gives = subst (λ ls. StackRuns s.stack ls new) (sym (one-left s.pending some)) (λ ts h. let next = gives ts h in (next.0, (next.0, next.1, refl), next.2))

pub ends-fault : (s : Feed) (e : MergeError) → nat_eq (length s.pending) 0 ≡ false → StackFaults reading s.stack s.pending e.fault → e.line ≡ line_number (s.count + 1) → StackStops s.stack s.count (line_of_rest s.pending) e
ends-fault s e some faults at = subst (λ ls. StackStops s.stack s.count ls e) (sym (one-left s.pending some)) (λ ts h. elim (faults ts h) [
  | inl m ↦ inl m
  | inr f ↦ inr (record {
    front = [];
    line = s.pending;
    rest = [];
    is = refl;
    stack = ts;
    runs = refl;
    fault = f;
    at = let line : e.line ≡ line_number (s.count + 0 + 1) = omega (arith, at) in line;
  })
])

-- not exactly one sketch is left
pub ends-not_one : (s : Feed) (xs : List SketchLayout) (e : MergeError) → StackRuns s.stack (line_of_rest s.pending) xs → (length xs ≡ 1 → ⊥) → e.fault ≡ Stack → e.line ≡ line_number (s.count + length (line_of_rest s.pending)) → RefusesEnd s e
ends-not_one s xs e runs other fault at = λ ts h. let run = runs ts h in inr (inr (record {
  stack = run.0;
  runs = run.1;
  left = λ one. other (length-AllRepresent xs run.0 run.2 ∙ one);
  fault = fault;
  at = at;
}))

-- ---- the whole text

-- what is left of the text was carried out after the lines that ended
run-whole : (text : List ℕ) (s : Feed) (g : Gone text s) (us : List Plan) → Runs reading g.stack (line_of_rest s.pending) us → Runs reading [] (lines text) us
run-whole text s g us run = subst (λ ls. Runs reading [] ls us) (sym g.lines) (Runs-append [] g.stack us (ended_lines text) (line_of_rest s.pending) g.runs run)

-- the number of lines of the text
pub lines-counted : (text : List ℕ) (s : Feed) (n : ℕ) → IsFedBy text s → s.fault ≡ None → n ≡ line_number (s.count + length (line_of_rest s.pending)) → n ≡ line_number (length (lines text))
lines-counted text s n h none is =
    let g : Gone text s = gone text s h none in
    let all : n ≡ line_number (length (lines text)) = omega (arith, is, g.count, ap length g.lines, length-append (ended_lines text) (line_of_rest s.pending)) in
    all

-- the one sketch that is left is the outcome of the text's plan
pub finishes-stream : (text : List ℕ) (s : Feed) (x : SketchLayout) → IsFedBy text s → s.fault ≡ None → Finishes s x → IsOutcomeOf text x
finishes-stream text s x h none f =
    let g : Gone text s = gone text s h none in
    let run = f g.stack g.all in
    let t = AllRepresent-one x (x ∷ []) run.0 refl run.2 in
    let whole : Runs reading [] (lines text) run.0 = run-whole text s g run.0 run.1 in
    let accepted : Accepts text t.0 = subst (Runs reading [] (lines text)) t.1 whole in
    record { plan = t.0; accepted = accepted; holds = text_holds text t.0 accepted; value = t.2 }

-- the fault at the end is the first fault of the text
pub refuses_end-stream : (text : List ℕ) (s : Feed) (e : MergeError) → IsFedBy text s → s.fault ≡ None → RefusesEnd s e → StopsText text e
refuses_end-stream text s e h none r =
    let g : Gone text s = gone text s h none in
    let before : List (List ℕ) = ended_lines text in
    let last : List (List ℕ) = line_of_rest s.pending in
    elim (r g.stack g.all) [
      | inl m ↦ inl m
      | inr (inl f) ↦ inr (inl (subst (λ ls. FaultsAtLine reading ls e) (sym g.lines) (FaultsFrom-after [] g.stack 0 s.count before last e g.runs (let k : s.count ≡ line_number (0 + length before) = omega (arith, g.count) in k) f)))
      | inr (inr f) ↦ inr (inr (record {
        stack = f.stack;
        runs = run-whole text s g f.stack f.runs;
        left = f.left;
        fault = f.fault;
        at = let line : e.line ≡ line_number (0 + length (lines text)) = omega (arith, f.at, g.count, ap length g.lines, length-append before last) in line;
      }))
    ]
