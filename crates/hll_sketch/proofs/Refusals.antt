-- SPDX-License-Identifier: Apache-2.0
-- What the error of a reader says of the bytes.
use Rattle.std.proofs.Common.{◌≡◌, ℕ, ◌⊎◌, List, Some, Result, inl, inr}
use Rattle.std.proofs.lemmas.Result.{IfErr-weaker}
use Rattle.std.specs.Prelude.{IfErr}
use Rattle.hll_base.specs.declared.error.Reason.{Reason}
use Rattle.hll_base.specs.declared.error.Reason.TheVariants.{Memory}
use Rattle.hll_sketch.specs.Checks.{first_fault}
use Rattle.hll_sketch.specs.Fault.{IsFault}
use Rattle.hll_sketch.specs.Refusal.{IsRefusal}
use Rattle.hll_sketch.proofs.FirstFaults.{first_fault_stands}

-- a reason of data
pub refused : (b : List ℕ) (r : Reason) → first_fault b ≡ Some r → (r ≡ Memory → ⊥) → IsRefusal b r
refused b r first data' = record { first = inr first; asked = λ full. absurd (data' full) }

-- an error that is passed on
pub refusal-err : {T : Type 0} (b : List ℕ) (r : Result T Reason) → IfErr r (IsRefusal b) → IfErr r (λ e. (e ≡ Memory) ⊎ IsFault b e)
refusal-err b r h = IfErr-weaker r _ _ (λ e is. elim is.first [ inl full ↦ inl full | inr first ↦ inr (first_fault_stands b e first) ]) h
