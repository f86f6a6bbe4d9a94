-- SPDX-License-Identifier: Apache-2.0
-- The line that is printed for an error (docs/PLAN.md, "Faults").
use Rattle.std.specs.Prelude.{◌≡◌, ◌<◌, ℕ, length, List, [], ◌∷◌, ◌++◌, Option, Result, MatchResult, codes, decimal}
use Rattle.std.specs.Io.KnownBytes.{Appends}
use Rattle.hll_base.specs.Reason.{word_of}
use Rattle.hll_text.specs.declared.fault.Fault.{Fault}
use Rattle.hll_text.specs.declared.fault.Fault.TheVariants as faults
use Rattle.hll_text.specs.declared.fault.MergeError.{MergeError}

-- the words of a fault
abbrev pub words_of : Fault → List ℕ
words_of faults.Syntax = codes "syntax"
words_of faults.Range = codes "range"
words_of faults.Hex = codes "hex"
words_of (faults.Image reason) = codes "image " ++ word_of reason
words_of faults.Stack = codes "stack"
words_of faults.Memory = codes "memory"
words_of faults.Read = codes "read"
words_of faults.Write = codes "write"
words_of faults.Fold = codes "fold"

-- `line L: `, the words, and LF
abbrev pub refusal_line : MergeError → List ℕ
refusal_line refusal = (codes "line " ++ (decimal refusal.line ++ codes ": ")) ++ (words_of refusal.fault ++ 10 ∷ [])

-- a proper prefix of the bytes was written
pub record AppendsFront (old new : Option (List ℕ)) (bytes : List ℕ) : Type 0 where
  pub sent : List ℕ
  pub rest : List ℕ
  pub parts : bytes ≡ sent ++ rest
  pub lacks : 0 < length rest
  pub appended : Appends old new sent

-- at Ok the bytes were written; at Err, which is Write, a proper prefix of them
abbrev pub Sends : {T : Type 0} → Option (List ℕ) → Option (List ℕ) → Result T Fault → List ℕ → Type 0
Sends old new result bytes = MatchResult result (λ _. Appends old new bytes) (λ e. (e ≡ faults.Write) × AppendsFront old new bytes)
