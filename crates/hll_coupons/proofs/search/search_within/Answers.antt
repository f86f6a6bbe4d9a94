-- SPDX-License-Identifier: Apache-2.0
use Rattle.std.proofs.Common.{arith, ◌≡◌, ◌+◌, ◌*◌, ◌%◌, ◌^◌, ◌≤◌, ◌⊎◌, ◌∙◌, ℕ, sym, ap, inl, inr}
use Rattle.std.proofs.lemmas.Bool.{true≢false}
use Rattle.std.proofs.lemmas.Nat.{pow_pos, mod_below}
use Rattle.std.proofs.Math.Pow.{pow_mono}
use Rattle.hll_coupons.specs.Probe.{stride_of}
use Rattle.hll_coupons.specs.Keys.{key_of}
use Rattle.hll_coupons.proofs.Searching.{next_bucket}
use Rattle.hll_coupons.proofs.Walks.{ends_here, passes_more}
use Rattle.hll_coupons.proofs.search.search_within.Goals as goal
use Rattle.hll_coupons.proofs.search.search_within.Goals.{then-is_empty-via-then-is_empty, then-is_empty-via-else-is_empty+then-of-key}

pub loop-init : goal.loop-init
loop-init c = record {
  bucket = c.wrapped-bucket.ensures ∙ ap (λ m. m % 2 ^ c.args.lg_size) (omega arith);
  passes = λ j l. absurd (omega arith);
}

pub bounds-buckets-bucket : goal.bounds-buckets-bucket
bounds-buckets-bucket c =
    omega (arith, c.loop.invariant.bucket, c.requires.size, mod_below (c.args.key + c.loop.counter * stride_of c.args.lg_size c.args.key) (2 ^ c.args.lg_size) (pow_pos c.args.lg_size))

pub overflow_add-bucket : goal.overflow_add-bucket
overflow_add-bucket c =
    let few : 2 ^ c.args.lg_size ≤ 2 ^ 26 = pow_mono c.requires.small in
    omega (arith, few, c.loop.invariant.bucket, c.stride_of-stride.ensures.small, mod_below (c.args.key + c.loop.counter * stride_of c.args.lg_size c.args.key) (2 ^ c.args.lg_size) (pow_pos c.args.lg_size))

pub returns-then-is_empty-clause-found : goal.returns-then-is_empty-clause-found
returns-then-is_empty-clause-found c =
    let end : (c.index-buckets-bucket.result ≡ 0) ⊎ (key_of c.args.by c.index-buckets-bucket.result ≡ c.args.key) = elim c.then-is_empty.branch [
      | then-is_empty-via-then-is_empty w ↦ inl (c.is_empty.ensures.0 w.if-is_empty.true)
      | then-is_empty-via-else-is_empty+then-of-key w ↦ inr (sym w.of.ensures ∙ w.if-of-key.true)
    ] in
    ends_here (key_of c.args.by) c.args.lg_size c.args.key c.loop.counter c.loop.bucket c.index-buckets-bucket.result c.args.buckets.now c.requires.size (omega (arith, c.loop-test.true, c.requires.size, c.requires.limit))
    c.loop.invariant.bucket c.loop.invariant.passes c.index-buckets-bucket.is end

pub loop-preserved : goal.loop-preserved
loop-preserved c =
    let lg : ℕ = c.args.lg_size in
    let key : ℕ = c.args.key in
    record {
      bucket = c.wrapped-bucket-in-loop.ensures ∙ (λ i. (c.loop.invariant.bucket i + c.stride_of-stride.ensures.stride i) % 2 ^ lg) ∙ next_bucket lg key (stride_of lg key) c.loop.counter;
      passes = passes_more (key_of c.args.by) c.args.lg_size c.args.key c.loop.counter c.loop.bucket c.index-buckets-bucket.result c.args.buckets.now c.requires.size (omega (arith, c.loop-test.true, c.requires.size, c.requires.limit))
          c.loop.invariant.bucket c.loop.invariant.passes c.index-buckets-bucket.is
          (λ z. true≢false (sym (c.is_empty.ensures.1 z) ∙ c.if-is_empty.false)) (λ z. c.if-of-key.false (c.of.ensures ∙ z));
    }
