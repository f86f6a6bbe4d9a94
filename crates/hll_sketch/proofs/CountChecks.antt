-- SPDX-License-Identifier: Apache-2.0
-- Which check of the counts after a header fails first.
use Rattle.std.proofs.Common.{◌≡◌, ℕ, ◌-◌, ◌^◌, ◌≤◌, Bool, true, false, cond, List, [], ◌∷◌, ◌++◌, length, take, drop, Some, None, ap, ◌∙◌}
use Rattle.std.proofs.lemmas.List.{take-append-drop}
use Rattle.hll_base.specs.declared.error.Reason.TheVariants as reasons
use Rattle.hll_registers.specs.Payload.{num_at_cur_min, exception_count}
use Rattle.hll_sketch.specs.Image.{lg_k_byte, HasExceptionTable, IsReadAs}
use Rattle.hll_sketch.specs.Checks.{Check, first_failing, header_checks, checks_after, hll4_checks, checks_of_counts, count_fault}
use Rattle.hll_sketch.specs.Value.{Sketch}
use Rattle.hll_sketch.proofs.Checks.{passed, failed, Decides-leb, Decides-counts, Decides-table}
use Rattle.hll_sketch.proofs.FirstFailing.{none_before}
use Rattle.hll_sketch.proofs.SizedImages.{sized_if_read}

-- ---- 4-bit registers

module _ (b : List ℕ) where
  pub four_counted : 40 ≤ length b → (num_at_cur_min (drop 8 b) ≤ 2 ^ lg_k_byte b) × (exception_count (drop 8 b) ≤ 2 ^ lg_k_byte b)
      → HasExceptionTable b → first_failing (checks_of_counts (hll4_checks b)) ≡ None
  four_counted there counts table = passed _ _ _ (Decides-leb 40 (length b)) there ∙ passed _ _ _ (Decides-counts b) counts ∙ passed _ _ _ (Decides-table b) table

  pub four_of_other_table : 40 ≤ length b → (num_at_cur_min (drop 8 b) ≤ 2 ^ lg_k_byte b) × (exception_count (drop 8 b) ≤ 2 ^ lg_k_byte b)
      → (HasExceptionTable b → ⊥) → first_failing (checks_of_counts (hll4_checks b)) ≡ Some reasons.LgArr
  four_of_other_table there counts other = passed _ _ _ (Decides-leb 40 (length b)) there ∙ passed _ _ _ (Decides-counts b) counts ∙ failed _ _ _ (Decides-table b) other

-- ---- all images

-- if no check fails, none of the last checks fails
none_after : (cs ds : List Check) → first_failing (cs ++ ds) ≡ None → first_failing ds ≡ None
none_after [] ds e = e
none_after (c ∷ cs) ds e = of c.passes (none_after cs ds) e
  where
    of : (t : Bool) → (first_failing (cs ++ ds) ≡ None → first_failing ds ≡ None) → cond t (first_failing (cs ++ ds)) (Some c.reason) ≡ None → first_failing ds ≡ None
    of true further n = further n
    of false further n = let other : Some c.reason ≡ None = n in absurd (cc)

-- the header and the counts of an image have no fault
pub header_if_read : (b : List ℕ) (x : Sketch) → IsReadAs b x → first_failing (header_checks b) ≡ None
header_if_read b x read = none_before (header_checks b) (checks_after b).size (sized_if_read b x read)

pub counted_if_read : (b : List ℕ) (x : Sketch) → IsReadAs b x → count_fault b ≡ None
counted_if_read b x read =
    let size : List Check = (checks_after b).size in
    let n : ℕ = length size - 1 in
    let none : first_failing size ≡ None = none_after (header_checks b) size (sized_if_read b x read) in
    none_before (take n size) (drop n size) (ap first_failing (take-append-drop n size) ∙ none)
