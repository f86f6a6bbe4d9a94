-- SPDX-License-Identifier: Apache-2.0
-- Lemmas on lines that are passed on.
use Rattle.std.proofs.Common.{◌≡◌, ◌⊎◌, ℕ, ◌+◌, ◌<◌, Bool, true, false, List, [], ◌∷◌, ◌++◌, length, take, Option, Some, None, Result, Ok, Err, inl, inr, refl, sym, ap, subst, ◌∙◌, append_assoc, arith}
use Rattle.std.specs.Prelude.{◌==◌}
use Rattle.std.specs.Io.KnownBytes.{Appends}
use Rattle.std.specs.Result.{IsErrAnd, MatchResult, OnOk, IfErr}
use Rattle.std.proofs.lemmas.List.{append-nil, length-append}
use Rattle.hll_base.specs.declared.error.Reason.{Reason}
use Rattle.hll_base.specs.declared.error.Reason.TheVariants as reasons
use Rattle.hll_sketch.specs.Checks.{first_failing, header_checks, checks_after, first_fault, size_fault}
use Rattle.hll_sketch.specs.Image.{IsReadAs}
use Rattle.hll_sketch.specs.Value.{Sketch}
use Rattle.hll_sketch.proofs.FirstFailing.{none_before}
use Rattle.hll_sketch.proofs.FirstFaults.{faultless_is_image}
use Rattle.hll_text.specs.declared.fault.Fault.{Fault}
use Rattle.hll_text.specs.declared.fault.Fault.TheVariants.{Memory, Write}
use Rattle.hll_text.specs.declared.fault.MergeError.{MergeError}
use Rattle.hll_text.specs.Step.{fault_of}
use Rattle.hll_text.specs.Text.{image, image_step, line_number, line_of_rest, printed_line}
use Rattle.hll_text.proofs.StreamLemmas.{Appends-nil, Appends-more}
use Rattle.hll_estimator_fields.specs.Passing.{IsPassed, IsRefusedFor, ArePassed, StopsLine, Stops, Passes}

-- ---- lines

ArePassed-append : (a b : List (List ℕ)) (x y : List ℕ) → ArePassed a x → ArePassed b y → ArePassed (a ++ b) (x ++ y)
ArePassed-append [] b x y h k = subst (ArePassed b) (sym (ap (λ s. s ++ y) h)) k
ArePassed-append (line ∷ a) b x y h k = (h.0, h.1 ++ y, h.2, ArePassed-append a b h.1 y h.3 k, ap (λ s. s ++ y) h.4 ∙ append_assoc h.0 h.1 y)

pub one_passed : (line printed : List ℕ) → IsPassed line printed → ArePassed (line ∷ []) printed
one_passed line printed h = (printed, [], h, refl, sym (append-nil printed))

-- no line
pub Passes-none : (n m : ℕ) (o : Option (List ℕ)) (f : Bool) → m ≡ line_number n → f ≡ false → Passes n [] m o o f
Passes-none n m o f number works = record { number = omega (arith, number); out = []; passed = refl; written = Appends-nil o; works = works }

-- one line
pub Passes-one : (n m : ℕ) (line : List ℕ) (o p : Option (List ℕ)) (f : Bool) → m ≡ line_number (n + 1) →
    (f ≡ false) × (printed : List ℕ) × IsPassed line printed × Appends o p printed → Passes n (line ∷ []) m o p f
Passes-one n m line o p f number h = record { number = omega (arith, number); out = h.1; passed = one_passed line h.1 h.2; written = h.3; works = h.0 }

-- some lines, and then others
pub Passes-append : (n m k : ℕ) (a b : List (List ℕ)) (o p q : Option (List ℕ)) (f g : Bool) → Passes n a m o p f → Passes m b k p q g → Passes n (a ++ b) k o q g
Passes-append n m k a b o p q f g x y = record {
  number = omega (arith, x.number, y.number, length-append a b);
  out = x.out ++ y.out;
  passed = ArePassed-append a b x.out y.out x.passed y.passed;
  written = Appends-more o p q x.out y.out x.written y.written;
  works = y.works;
}

-- ---- stops

-- a stop at one line
pub Stops-one : (n m : ℕ) (line : List ℕ) (o p : Option (List ℕ)) (f : Bool) (e : Fault) → m ≡ line_number (n + 1) → StopsLine line o p f e →
    Stops n (line ∷ []) o p f (record { line = m; fault = e })
Stops-one n m line o p f e number h = elim h [
  | inl kept ↦
      elim kept.2 [
        | inl memory ↦ inl (record { fault = memory; front = []; rest = line ∷ []; is = refl; out = []; passed = refl; written = kept.1; works = kept.0 })
        | inr refused ↦ inr (inl (record {
          front = [];
          line = line;
          rest = [];
          is = refl;
          at = omega (arith, number);
          fault = refused;
          out = [];
          passed = refl;
          written = kept.1;
          works = kept.0;
        }))
      ]
  | inr cut ↦ inr (inr (record {
    fault = cut.1;
    front = [];
    line = line;
    rest = [];
    is = refl;
    at = omega (arith, number);
    out = [];
    passed = refl;
    printed = cut.2;
    next = cut.3;
    sent = cut.4;
    short = cut.5;
    written = cut.6;
    fails = cut.0;
  }))
]

-- a stop after lines that were passed on
pub Stops-after : (n m : ℕ) (a b : List (List ℕ)) (o p q : Option (List ℕ)) (f g : Bool) (e : MergeError) → Passes n a m o p f → Stops m b p q g e → Stops n (a ++ b) o q g e
Stops-after n m a b o p q f g e x h = elim h [
  | inl s ↦ inl (record {
    fault = s.fault;
    front = a ++ s.front;
    rest = s.rest;
    is = ap (λ ls. a ++ ls) s.is ∙ sym (append_assoc a s.front s.rest);
    out = x.out ++ s.out;
    passed = ArePassed-append a s.front x.out s.out x.passed s.passed;
    written = Appends-more o p q x.out s.out x.written s.written;
    works = s.works;
  })
  | inr more ↦
      elim more [
        | inl s ↦ inr (inl (record {
          front = a ++ s.front;
          line = s.line;
          rest = s.rest;
          is = ap (λ ls. a ++ ls) s.is ∙ sym (append_assoc a s.front (s.line ∷ s.rest));
          at = omega (arith, s.at, x.number, length-append a s.front);
          fault = s.fault;
          out = x.out ++ s.out;
          passed = ArePassed-append a s.front x.out s.out x.passed s.passed;
          written = Appends-more o p q x.out s.out x.written s.written;
          works = s.works;
        }))
        | inr s ↦ inr (inr (record {
          fault = s.fault;
          front = a ++ s.front;
          line = s.line;
          rest = s.rest;
          is = ap (λ ls. a ++ ls) s.is ∙ sym (append_assoc a s.front (s.line ∷ s.rest));
          at = omega (arith, s.at, x.number, length-append a s.front);
          out = x.out ++ s.out;
          passed = ArePassed-append a s.front x.out s.out x.passed s.passed;
          printed = s.printed;
          next = s.next;
          sent = s.sent;
          short = s.short;
          written = subst (Appends o q) (sym (append_assoc x.out s.out (take s.sent s.printed))) (Appends-more o p q x.out (s.out ++ take s.sent s.printed) x.written s.written);
          fails = s.fails;
        }))
      ]
]

-- a stop before other lines
pub Stops-before : (n : ℕ) (a b : List (List ℕ)) (o p : Option (List ℕ)) (f : Bool) (e : MergeError) → Stops n a o p f e → Stops n (a ++ b) o p f e
Stops-before n a b o p f e h = elim h [
  | inl s ↦ inl (record {
    fault = s.fault;
    front = s.front;
    rest = s.rest ++ b;
    is = ap (λ ls. ls ++ b) s.is ∙ append_assoc s.front s.rest b;
    out = s.out;
    passed = s.passed;
    written = s.written;
    works = s.works;
  })
  | inr more ↦
      elim more [
        | inl s ↦ inr (inl (record {
          front = s.front;
          line = s.line;
          rest = s.rest ++ b;
          is = ap (λ ls. ls ++ b) s.is ∙ append_assoc s.front (s.line ∷ s.rest) b;
          at = s.at;
          fault = s.fault;
          out = s.out;
          passed = s.passed;
          written = s.written;
          works = s.works;
        }))
        | inr s ↦ inr (inr (record {
          fault = s.fault;
          front = s.front;
          line = s.line;
          rest = s.rest ++ b;
          is = ap (λ ls. ls ++ b) s.is ∙ append_assoc s.front (s.line ∷ s.rest) b;
          at = s.at;
          out = s.out;
          passed = s.passed;
          printed = s.printed;
          next = s.next;
          sent = s.sent;
          short = s.short;
          written = s.written;
          fails = s.fails;
        }))
      ]
]

-- ---- one line

-- bytes that are read as a sketch have the size that they need
pub sized_if_read : (bytes : List ℕ) (x : Sketch) → IsReadAs bytes x → size_fault bytes ≡ None
sized_if_read bytes x read =
    none_before (header_checks bytes ++ (checks_after bytes).size) (checks_after bytes).content
    (ap first_failing (append_assoc (header_checks bytes) (checks_after bytes).size (checks_after bytes).content) ∙ (faultless_is_image bytes).1 (x, read))

-- the fault of bytes that were decoded
pub refused_bytes : (line bytes : List ℕ) (r : Reason) (e : Fault) → image_step line ≡ Ok (image bytes) → e ≡ fault_of r → (r ≡ reasons.Memory) ⊎ (first_fault bytes ≡ Some r) → (e ≡ Memory) ⊎ IsRefusedFor line e
refused_bytes line bytes r e digits is h = elim h [
  | inl memory ↦ inl (is ∙ ap fault_of memory)
  | inr fault ↦ inr (inr (bytes, digits, r, fault, is))
]

-- a line whose bytes are rejected
pub refused_line : {T : Type 0} (P : T → Type 0) (line bytes : List ℕ) (old : Option (List ℕ)) (failed : Bool) (r : Reason) (result : Result T Fault) → IsErrAnd result (λ e. e ≡ fault_of r) → failed ≡ false →
    image_step line ≡ Ok (image bytes) → (r ≡ reasons.Memory) ⊎ (first_fault bytes ≡ Some r) → MatchResult result P (λ e. StopsLine line old old failed e)
refused_line P line bytes old failed r (Ok x) is works digits fault = absurd is
refused_line P line bytes old failed r (Err e) is works digits fault = inl (works, Appends-nil old, refused_bytes line bytes r e digits is fault)

-- what is written for a line that is passed on
pub written_line : {T : Type 0} (line new : List ℕ) (old now : Option (List ℕ)) (was failed : Bool) (r : Result T Fault) → was ≡ false → IsPassed line (printed_line new) →
    OnOk r (Appends old now (printed_line new) × (failed ≡ was)) →
    IfErr r (λ e. (e ≡ Write) × (failed ≡ true) × (n : ℕ) × (n < length (printed_line new)) × Appends old now (take n (printed_line new))) →
    MatchResult r (λ _. (failed ≡ false) × (printed : List ℕ) × IsPassed line printed × Appends old now printed) (λ e. StopsLine line old now failed e)
written_line line new old now was failed (Ok x) works passed ok err = (ok.1 ∙ works, printed_line new, passed, ok.0)
written_line line new old now was failed (Err e) works passed ok err = inr (err.1, err.0, printed_line new, passed, err.2, err.3, err.4)

-- the line of bytes that are there
pub one_rest : (bytes : List ℕ) → (length bytes == 0) ≡ false → line_of_rest bytes ≡ bytes ∷ []
one_rest [] h = absurd (cc)
one_rest (b ∷ more) h = refl

-- ---- the same lines

pub Passes-of : (n m : ℕ) (a b : List (List ℕ)) (o p : Option (List ℕ)) (f : Bool) → a ≡ b → Passes n a m o p f → Passes n b m o p f
Passes-of n m a b o p f e x = subst (λ ls. Passes n ls m o p f) e x

pub Stops-of : (n : ℕ) (a b : List (List ℕ)) (o p : Option (List ℕ)) (f : Bool) (s : MergeError) → a ≡ b → Stops n a o p f s → Stops n b o p f s
Stops-of n a b o p f s e x = subst (λ ls. Stops n ls o p f s) e x

pub Stops-same : (n : ℕ) (a : List (List ℕ)) (o p : Option (List ℕ)) (f : Bool) (s t : MergeError) → s ≡ t → Stops n a o p f s → Stops n a o p f t
Stops-same n a o p f s t e x = subst (Stops n a o p f) e x

pub StopsLine-of : (a b : List ℕ) (o p : Option (List ℕ)) (f : Bool) (e : Fault) → a ≡ b → StopsLine a o p f e → StopsLine b o p f e
StopsLine-of a b o p f e is x = subst (λ line. StopsLine line o p f e) is x
