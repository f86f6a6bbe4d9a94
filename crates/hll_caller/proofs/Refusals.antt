-- SPDX-License-Identifier: Apache-2.0
-- What an error means for a plan if no stream failed.
use Rattle.std.proofs.Common.{◌≡◌, ◌⊎◌, ℕ, true, false, List, Option, Some, inl, inr, sym, ◌∙◌, subst}
use Rattle.hll_text.specs.declared.fault.Fault.TheVariants.{Memory}
use Rattle.hll_text.specs.declared.fault.MergeError.{MergeError}
use Rattle.hll_merge.specs.Accepting.{IsFirstFault}
use Rattle.hll_merge.specs.Run.{IsAllOf, IsRefused, Streams}

-- an allocation failed, or it is the first fault of the text
pub refused_by_text : (s : Streams) (text : List ℕ) (e : MergeError) → s.before ≡ Some text → s.reader_failed ≡ false → s.writer_failed ≡ false → IsRefused s e
    → (e.fault ≡ Memory) ⊎ IsFirstFault text e
refused_by_text s text e is reader writer (inl m) = inl m.fault
refused_by_text s text e is reader writer (inr (inl n)) =
    let same : n.text ≡ text = subst (λ (o : Option (List ℕ)). IsAllOf o n.text) is n.all in
    inr (subst (λ t. IsFirstFault t e) same n.first)
refused_by_text s text e is reader writer (inr (inr (inl r))) = absurd (let both : true ≡ false = sym r.reader ∙ reader in cc)
refused_by_text s text e is reader writer (inr (inr (inr w))) = absurd (let both : true ≡ false = sym w.writer ∙ writer in cc)
