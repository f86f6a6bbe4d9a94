-- SPDX-License-Identifier: Apache-2.0
-- Lemmas on the result of a run.
use Rattle.std.proofs.Common.{◌≡◌, ℕ, Bool, false, List, Option, Result, Ok, Err, inl, inr, refl, sym, ap, ◌∙◌, ◌++◌}
use Rattle.std.specs.Io.KnownBytes.{Consumes, IsAtEnd}
use Rattle.std.specs.Result.{MatchResult}
use Rattle.std.specs.Str.Lines.{lines}
use Rattle.hll_text.specs.declared.fault.MergeError.{MergeError}
use Rattle.hll_text.specs.Text.{ended_lines, open_line, line_of_rest}
use Rattle.hll_text.proofs.CutLemmas.{lines-ended}
use Rattle.hll_estimator_fields.specs.Passing.{Passes, Stops}
use Rattle.hll_estimator_fields.specs.Run.{Streams, Succeeds, IsRefused}
use Rattle.hll_estimator_fields.proofs.PassingLemmas.{Passes-append, Passes-of, Stops-after, Stops-of}

-- the lines of a text, the last of which is pending
whole : (text pending : List ℕ) → pending ≡ open_line text → ended_lines text ++ line_of_rest pending ≡ lines text
whole text pending is = ap (λ bs. ended_lines text ++ line_of_rest bs) is ∙ sym (lines-ended text)

-- the reader is at its end, and the lines that ended were passed on; then the line that lacks its LF was passed on or not
pub finished : {T : Type 0} (r : Result T MergeError) (s : Streams) (mid : Option (List ℕ)) (failed : Bool) (text pending : List ℕ) (n : ℕ) →
    s.reader_failed ≡ false → Consumes s.before s.after text → IsAtEnd s.after → pending ≡ open_line text → Passes 0 (ended_lines text) n s.old mid failed →
    MatchResult r (λ _. (m : ℕ) × Passes n (line_of_rest pending) m mid s.new s.writer_failed) (λ e. Stops n (line_of_rest pending) mid s.new s.writer_failed e) →
    MatchResult r (λ _. Succeeds s) (λ e. IsRefused s e)
finished (Ok x) s mid failed text pending n reader read end is ended rest =
    let all = Passes-of 0 rest.0 _ (lines text) s.old s.new s.writer_failed (whole text pending is)
    (Passes-append 0 n rest.0 (ended_lines text) (line_of_rest pending) s.old mid s.new failed s.writer_failed ended rest.1) in
    record { reader = reader; writer = all.works; text = text; read = read; whole = end; out = all.out; passed = all.passed; written = all.written }
finished (Err e) s mid failed text pending n reader read end is ended rest =
    inl (record {
      reader = reader;
      taken = text;
      read = read;
      ls = lines text;
      lines_of = inr (end, refl);
      stop = Stops-of 0 _ (lines text) s.old s.new s.writer_failed e (whole text pending is)
          (Stops-after 0 n (ended_lines text) (line_of_rest pending) s.old mid s.new failed s.writer_failed e ended rest);
    })
