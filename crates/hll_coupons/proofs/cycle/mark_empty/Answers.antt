-- SPDX-License-Identifier: Apache-2.0
use Rattle.std.proofs.Common.{arith, ◌≡◌, ℕ, ◌+◌, ◌*◌, ◌%◌, ◌^◌, ◌<◌, ◌∙◌, List, get_or, sym, ap}
use Rattle.std.proofs.lemmas.Bool.{true≢false}
use Rattle.std.proofs.lemmas.List.{get_or_default}
use Rattle.std.proofs.lemmas.Nat.{pow_pos, mod_below}
use Rattle.hll_coupons.specs.Blocks.{bit_of}
use Rattle.hll_coupons.specs.Cycle.{bucket_after}
use Rattle.hll_coupons.proofs.Cycles.{next_after, Marks, marks_empty, marks_filled, marked_bits, marked_none}
use Rattle.hll_coupons.proofs.cycle.mark_empty.Goals as goal
use Rattle.hll_coupons.proofs.cycle.mark_empty.Goals.{then-is_empty, else-is_empty}

pub loop-steps-preserved : goal.loop-steps-preserved
loop-steps-preserved c =
    let lg : ℕ = c.args.lg_size in
    let stride : ℕ = c.args.stride in
    let buckets : List ℕ = c.args.buckets.now in
    let steps : ℕ = c.loop-steps.steps in
    let inv = c.loop-steps.invariant in
    let below : c.loop-steps.bucket < 2 ^ lg = omega (arith, inv.bucket, mod_below (steps * stride) (2 ^ lg) (pow_pos lg)) in
    let entry : get_or buckets (bucket_after lg stride steps) 0 ≡ c.index-buckets-bucket.result =
    ap (λ p. get_or buckets p 0) (sym inv.bucket) ∙ get_or_default buckets c.loop-steps.bucket 0 c.index-buckets-bucket.result (omega (arith, below, c.requires.size)) ∙ sym c.index-buckets-bucket.is in
    let marks : Marks c.loop-steps.blocks c.if-is_empty.blocks steps (get_or buckets (bucket_after lg stride steps) 0) = elim c.if-is_empty.branch [
      | then-is_empty w ↦ marks_empty c.loop-steps.blocks c.if-is_empty.blocks steps (get_or buckets (bucket_after lg stride steps) 0) (entry ∙ c.is_empty.ensures.0 w.if-is_empty.true)
          (ap (λ v. bit_of v steps) w.blocks-is ∙ w.set.ensures.same) (λ j o. ap (λ v. bit_of v j) w.blocks-is ∙ w.set.ensures.others j o)
      | else-is_empty w ↦ marks_filled c.loop-steps.blocks c.if-is_empty.blocks steps (get_or buckets (bucket_after lg stride steps) 0)
          (λ z. true≢false (sym (c.is_empty.ensures.1 (sym entry ∙ z)) ∙ w.if-is_empty.false)) w.blocks-is (inv.none steps (omega arith))
    ] in
    record {
      bucket = c.wrapped-bucket.ensures ∙ ap (λ p. (p + stride) % 2 ^ lg) inv.bucket ∙ next_after lg stride steps;
      size = omega (arith, c.if-is_empty.auto.blocks, c.loop-steps.auto.blocks, inv.size);
      bits = marked_bits c.loop-steps.blocks c.if-is_empty.blocks steps (λ s. get_or buckets (bucket_after lg stride s) 0) marks inv.bits;
      none = marked_none c.loop-steps.blocks c.if-is_empty.blocks steps (get_or buckets (bucket_after lg stride steps) 0) marks inv.none;
    }
