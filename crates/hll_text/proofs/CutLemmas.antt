-- SPDX-License-Identifier: Apache-2.0
-- Lemmas on the ended lines of a text in pieces, and on what follows them.
use Rattle.std.proofs.Common.{◌≡◌, ℕ, suc, ◌+◌, ◌<◌, Bool, true, false, cond, nat_eq, List, [], ◌∷◌, ◌++◌, length, take, drop, Some, None, refl, sym, ◌∙◌, ap, subst, arith}
use Rattle.std.specs.List.{slice_split, onto_first, position}
use Rattle.std.specs.Str.Lines.{lines, lines_of_parts, strip_carriage_return}
use Rattle.std.proofs.lemmas.Bool.Decides.{nat_tests}
use Rattle.std.proofs.lemmas.List.Splits.{slice_split-cons_no}
use Rattle.std.proofs.lemmas.List.Elements.{All-head, All-tail, All-nil, All-cons}
use Rattle.hll_text.specs.Text.{ended_parts, ended_lines, last_part, open_line, line_of_rest}
use Rattle.hll_text.specs.Cuts.{IsOpen, Closes, LinesOfCuts}
use Rattle.hll_text.proofs.PartLemmas.{ended_parts-cons, length-parts, parts-some, parts-none}

-- the parts except the last one
abbrev front_parts : List (List ℕ) → List (List ℕ)
front_parts [] = []
front_parts (last ∷ []) = []
front_parts (part ∷ next ∷ more) = part ∷ front_parts (next ∷ more)

abbrev parts : List ℕ → List (List ℕ)
parts text = slice_split (λ b. nat_eq b 10) text

-- a byte that is not a mark is put before the first part, even if that part is the one that is cut
onto_front : (x : ℕ) (ps : List (List ℕ)) (b : List ℕ) → nat_eq x 10 ≡ false
    → onto_first x (front_parts ps ++ parts (last_part ps ++ b)) ≡ front_parts (onto_first x ps) ++ parts (last_part (onto_first x ps) ++ b)
onto_front x [] b e = sym (slice_split-cons_no (λ c. nat_eq c 10) x b e)
onto_front x (part ∷ []) b e = sym (slice_split-cons_no (λ c. nat_eq c 10) x (part ++ b) e)
onto_front x (part ∷ next ∷ more) b e = refl

after_mark : (ps : List (List ℕ)) (b : List ℕ) → 0 < length ps
    → [] ∷ (front_parts ps ++ parts (last_part ps ++ b)) ≡ front_parts ([] ∷ ps) ++ parts (last_part ([] ∷ ps) ++ b)
after_mark [] b h = absurd (omega arith)
after_mark (part ∷ more) b h = refl

-- the parts of a text that is cut: those of the first piece but the last, and those of that last with the second piece
parts-append : (a b : List ℕ) → parts (a ++ b) ≡ front_parts (parts a) ++ parts (last_part (parts a) ++ b)
parts-append [] b = refl
parts-append (x ∷ a) b = by_mark (parts-append a b) (nat_eq x 10) refl
  where
    by_mark : parts (a ++ b) ≡ front_parts (parts a) ++ parts (last_part (parts a) ++ b) → (t : Bool) → nat_eq x 10 ≡ t → parts ((x ∷ a) ++ b) ≡ front_parts (parts (x ∷ a)) ++ parts (last_part (parts (x ∷ a)) ++ b)
    by_mark more true e =
        ap (λ t. cond t ([] ∷ parts (a ++ b)) (onto_first x (parts (a ++ b)))) e
        ∙ ap (λ ps. [] ∷ ps) more
        ∙ after_mark (parts a) b (length-parts 10 a)
        ∙ ap (λ t. front_parts (cond t ([] ∷ parts a) (onto_first x (parts a))) ++ parts (last_part (cond t ([] ∷ parts a) (onto_first x (parts a))) ++ b)) (sym e)
    by_mark more false e =
        ap (λ t. cond t ([] ∷ parts (a ++ b)) (onto_first x (parts (a ++ b)))) e
        ∙ ap (onto_first x) more
        ∙ onto_front x (parts a) b e
        ∙ ap (λ t. front_parts (cond t ([] ∷ parts a) (onto_first x (parts a))) ++ parts (last_part (cond t ([] ∷ parts a) (onto_first x (parts a))) ++ b)) (sym e)

last_part-cons : (x : List ℕ) (ps : List (List ℕ)) → 0 < length ps → last_part (x ∷ ps) ≡ last_part ps
last_part-cons x [] h = absurd (omega arith)
last_part-cons x (y ∷ more) h = refl

positive-append : (xs ys : List (List ℕ)) → 0 < length ys → 0 < length (xs ++ ys)
positive-append [] ys h = h
positive-append (x ∷ xs) ys h = omega arith

ended_parts-append : (ps qs : List (List ℕ)) → 0 < length qs → ended_parts (front_parts ps ++ qs) ≡ ended_parts ps ++ ended_parts qs
ended_parts-append [] qs h = refl
ended_parts-append (x ∷ []) qs h = refl
ended_parts-append (x ∷ y ∷ more) qs h =
    ended_parts-cons x (front_parts (y ∷ more) ++ qs) (positive-append (front_parts (y ∷ more)) qs h)
    ∙ ap (λ ls. strip_carriage_return x ∷ ls) (ended_parts-append (y ∷ more) qs h)

last_part-append : (ps qs : List (List ℕ)) → 0 < length qs → last_part (front_parts ps ++ qs) ≡ last_part qs
last_part-append [] qs h = refl
last_part-append (x ∷ []) qs h = refl
last_part-append (x ∷ y ∷ more) qs h =
    last_part-cons x (front_parts (y ∷ more) ++ qs) (positive-append (front_parts (y ∷ more)) qs h) ∙ last_part-append (y ∷ more) qs h

-- the ended lines of a text that is cut: those of the first piece, and those of its open line with the second piece
pub ended_lines-append : (a b : List ℕ) → ended_lines (a ++ b) ≡ ended_lines a ++ ended_lines (open_line a ++ b)
ended_lines-append a b = ap ended_parts (parts-append a b) ∙ ended_parts-append (parts a) _ (length-parts 10 (open_line a ++ b))

-- and its open line
pub open_line-append : (a b : List ℕ) → open_line (a ++ b) ≡ open_line (open_line a ++ b)
open_line-append a b = ap last_part (parts-append a b) ∙ last_part-append (parts a) _ (length-parts 10 (open_line a ++ b))

lines_of_parts-ended : (ps : List (List ℕ)) → lines_of_parts ps ≡ ended_parts ps ++ line_of_rest (last_part ps)
lines_of_parts-ended [] = refl
lines_of_parts-ended ([] ∷ []) = refl
lines_of_parts-ended ((b ∷ more) ∷ []) = one b more
  where
    positive : (n : ℕ) → nat_eq (suc n) 0 ≡ false
    positive n = grind (arith, nat_tests)

    one : (c : ℕ) (cs : List ℕ) → lines_of_parts ((c ∷ cs) ∷ []) ≡ (c ∷ cs) ∷ []
    one c cs = ap (λ t. cond t [] ((c ∷ cs) ∷ [])) (positive (length cs))
lines_of_parts-ended (x ∷ y ∷ more) = ap (λ ls. strip_carriage_return x ∷ ls) (lines_of_parts-ended (y ∷ more))

-- the lines of a text: those that ended, and the one that lacks its LF
pub lines-ended : (text : List ℕ) → lines text ≡ ended_lines text ++ line_of_rest (open_line text)
lines-ended text = lines_of_parts-ended (parts text)

-- the open line after the first LF, and if there is no LF
pub open-some : (xs : List ℕ) (i : ℕ) → position (λ b. nat_eq b 10) xs ≡ Some i → open_line xs ≡ open_line (drop (i + 1) xs)
open-some xs i e = ap last_part (parts-some 10 xs i e).0 ∙ last_part-cons (take i xs) _ (length-parts 10 (drop (i + 1) xs))

pub open-none : (xs : List ℕ) → position (λ b. nat_eq b 10) xs ≡ None → open_line xs ≡ xs
open-none xs e = ap last_part (parts-none 10 xs e)

-- ---- bytes without an LF

-- bytes before the first part
abbrev before_parts : List ℕ → List (List ℕ) → List (List ℕ)
before_parts bytes [] = bytes ∷ []
before_parts bytes (part ∷ more) = (bytes ++ part) ∷ more

onto_before : (b : ℕ) (bytes : List ℕ) (ps : List (List ℕ)) → onto_first b (before_parts bytes ps) ≡ before_parts (b ∷ bytes) ps
onto_before b bytes [] = refl
onto_before b bytes (part ∷ more) = refl

parts-before : (bytes text : List ℕ) → IsOpen bytes → parts (bytes ++ text) ≡ before_parts bytes (parts text)
parts-before [] text h = none (parts text) (length-parts 10 text)
  where
    none : (ps : List (List ℕ)) → 0 < length ps → ps ≡ before_parts [] ps
    none [] h = absurd (omega arith)
    none (part ∷ more) h = refl
parts-before (b ∷ bytes) text h =
    slice_split-cons_no (λ c. nat_eq c 10) b (bytes ++ text) (All-head (λ c. nat_eq c 10 ≡ false) b bytes h)
    ∙ ap (onto_first b) (parts-before bytes text (All-tail (λ c. nat_eq c 10 ≡ false) b bytes h))
    ∙ onto_before b bytes (parts text)

-- if the next piece has an LF
pub closes-some : (pending piece : List ℕ) (i : ℕ) → IsOpen pending → position (λ b. nat_eq b 10) piece ≡ Some i
    → Closes pending piece [] (drop (i + 1) piece) (strip_carriage_return (pending ++ take i piece) ∷ [])
closes-some pending piece i h e =
    let cut : parts (pending ++ piece) ≡ (pending ++ take i piece) ∷ parts (drop (i + 1) piece) =
    parts-before pending piece h ∙ ap (before_parts pending) (parts-some 10 piece i e).0 in
    let full = length-parts 10 (drop (i + 1) piece) in
    record {
      lines = ap ended_parts cut ∙ ended_parts-cons (pending ++ take i piece) _ full;
      open_bytes = ap last_part cut ∙ last_part-cons (pending ++ take i piece) _ full;
      still = All-nil (λ b. nat_eq b 10 ≡ false);
    }

-- if it has none
pub closes-none : (pending piece : List ℕ) → IsOpen pending → position (λ b. nat_eq b 10) piece ≡ None → Closes pending piece pending piece []
closes-none pending piece h e =
    let none = parts-none 10 piece e in
    let cut : parts (pending ++ piece) ≡ (pending ++ piece) ∷ [] = parts-before pending piece h ∙ ap (before_parts pending) none in
    record {
      lines = ap ended_parts cut ∙ sym (ap ended_parts none);
      open_bytes = ap last_part cut ∙ ap (λ bytes. pending ++ bytes) (sym (ap last_part none));
      still = h;
    }

-- the bytes after the last LF have none
pub open_line-open : (text : List ℕ) → IsOpen (open_line text)
open_line-open [] = All-nil (λ b. nat_eq b 10 ≡ false)
open_line-open (x ∷ text) = by_mark (nat_eq x 10) refl (open_line-open text)
  where
    after : (ps : List (List ℕ)) → IsOpen (last_part ps) → IsOpen (last_part ([] ∷ ps))
    after [] h = h
    after (part ∷ more) h = h

    onto : (ps : List (List ℕ)) → nat_eq x 10 ≡ false → IsOpen (last_part ps) → IsOpen (last_part (onto_first x ps))
    onto [] e h = All-cons (λ b. nat_eq b 10 ≡ false) x [] e (All-nil (λ b. nat_eq b 10 ≡ false))
    onto (part ∷ []) e h = All-cons (λ b. nat_eq b 10 ≡ false) x part e h
    onto (part ∷ next ∷ more) e h = h

    by_mark : (t : Bool) → nat_eq x 10 ≡ t → IsOpen (open_line text) → IsOpen (open_line (x ∷ text))
    by_mark true e h = subst (λ t. IsOpen (last_part (cond t ([] ∷ parts text) (onto_first x (parts text))))) (sym e) (after (parts text) h)
    by_mark false e h = subst (λ t. IsOpen (last_part (cond t ([] ∷ parts text) (onto_first x (parts text))))) (sym e) (onto (parts text) e h)

-- the law of cuts
pub lines_of_cuts : LinesOfCuts
lines_of_cuts a b = record { ended = ended_lines-append a b; rest = open_line-append a b; whole = lines-ended (a ++ b) }
