-- SPDX-License-Identifier: Apache-2.0
use Rattle.std.proofs.Common.{◌≡◌, ◌^◌, ◌-◌, ◌≤◌, List, ℕ, Some, drop, sym, ap, subst, ◌∙◌, arith}
use Rattle.std.specs.Int.{w32, from_le_bytes}
use Rattle.std.proofs.lemmas.List.{drop-drop}
use Rattle.hll_base.proofs.Errors.{IfErr-passed}
use Rattle.hll_registers.specs.Payload.{num_at_cur_min, exception_count}
use Rattle.hll_sketch.specs.Checks.{first_failing, hll4_checks, checks_of_counts}
use Rattle.hll_sketch.specs.Image.{lg_k_byte}
use Rattle.hll_sketch.specs.declared.header.Header.{Header}
use Rattle.hll_sketch.proofs.CountChecks.{four_counted, four_of_other_table}
use Rattle.hll_sketch.proofs.image_head.counts_of_four.Goals as goal

-- the numbers that were read are the counts, and they are in range
in_range : (b : List ℕ) (least count registers k : ℕ) → least ≡ from_le_bytes w32 (drop 32 b) → count ≡ from_le_bytes w32 (drop 36 b) → registers ≡ 2 ^ k → k ≡ lg_k_byte b
    → least ≤ registers → count ≤ registers
    → (count ≡ exception_count (drop 8 b)) × ((num_at_cur_min (drop 8 b) ≤ 2 ^ lg_k_byte b) × (exception_count (drop 8 b) ≤ 2 ^ lg_k_byte b))
in_range b least count registers k at_least at_count size is low high =
    let least_is : least ≡ num_at_cur_min (drop 8 b) = at_least ∙ ap (from_le_bytes w32) (sym (drop-drop 24 8 b)) in
    let count_is : count ≡ exception_count (drop 8 b) = at_count ∙ ap (from_le_bytes w32) (sym (drop-drop 28 8 b)) in
    let whole : registers ≡ 2 ^ lg_k_byte b = size ∙ ap (λ n. 2 ^ n) is in
    (count_is, (omega (arith, low, least_is, whole), omega (arith, high, count_is, whole)))

pub returns-in_err-buckets-clause-err : goal.returns-in_err-buckets-clause-err
returns-in_err-buckets-clause-err c =
    let b : List ℕ = c.args.bytes.now in
    let counts = in_range b c.number_at-least.result c.number_at-count.result c.two_to-registers.result c.args.header.lg_k c.number_at-least.ensures.number c.number_at-count.ensures.number
    c.two_to-registers.ensures (ap (λ (h : Header). h.lg_k) c.requires.header) (omega (arith, c.if-least-registers.false)) (omega (arith, c.if-count-registers.false)) in
    IfErr-passed (λ e. first_failing (checks_of_counts (hll4_checks b)) ≡ Some e) c.from_residual.result c.in_err-buckets.field-0.0 c.from_residual.ensures.1
    (subst (λ e. first_failing (checks_of_counts (hll4_checks b)) ≡ Some e) (sym c.in_err-buckets.ensures.err)
    (four_of_other_table b (omega (arith, c.if-bytes-lt-HLL_PREAMBLE_SIZE.false)) counts.1 (c.in_err-buckets.ensures.other b c.requires.header counts.0)))

pub returns-clause-ok : goal.returns-clause-ok
returns-clause-ok c =
    let b : List ℕ = c.args.bytes.now in
    let counts = in_range b c.number_at-least.result c.number_at-count.result c.two_to-registers.result c.args.header.lg_k c.number_at-least.ensures.number c.number_at-count.ensures.number
    c.two_to-registers.ensures (ap (λ (h : Header). h.lg_k) c.requires.header) (omega (arith, c.if-least-registers.false)) (omega (arith, c.if-count-registers.false)) in
    let half : c.two_to.result ≡ 2 ^ (lg_k_byte b - 1) = c.two_to.ensures ∙ ap (λ (h : Header). 2 ^ (h.lg_k - 1)) c.requires.header in (
      four_counted b (omega (arith, c.if-bytes-lt-HLL_PREAMBLE_SIZE.false)) counts.1 (c.in_ok-buckets.ensures.table b c.requires.header counts.0),
      omega (arith, half, c.in_ok-buckets.ensures.buckets b c.requires.header counts.0),
      counts.0,
    )
