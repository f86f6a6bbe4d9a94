-- SPDX-License-Identifier: Apache-2.0
use Rattle.std.proofs.Common.{ℕ, ◌∙◌, sym, ap, inl, inr}
use Rattle.std.specs.FinSet.{contains}
use Rattle.std.proofs.lemmas.Bool.{cases_Bool, true≢false}
use Rattle.hll_coupons.specs.Table.{Table, coupons_of}
use Rattle.hll_coupons.proofs.Sets.{IsEnd, end_of, full_end, found_end, lacking_end}
use mathlib.Core.Bool.{not}
use Rattle.hll_coupons.proofs.hash_set.HashSet.contains.Goals as goal

pub returns-in-Some : goal.returns-in-Some
returns-in-Some g c =
    let t : Table = c.self.inside.container in
    let w : ℕ = c.args.coupon in
    let is : IsEnd t w c.in-Some.bucket c.index-buckets-bucket.result = end_of t w c.in-Some.bucket c.index-buckets-bucket.result _ _ _ c.self.invariant.probed.size c.lg_size.ensures.size c.buckets-buckets.ensures.buckets c.raw.ensures c.in-Some.ensures.found c.index-buckets-bucket.is in
    elim (cases_Bool c.is_empty.result) [
      | inl empty ↦
          ap not empty ∙ sym (lacking_end t w c.self.invariant.probed c.in-Some.bucket c.index-buckets-bucket.result is (c.is_empty.ensures.0 empty))
          ∙ ap (λ (u : Table). contains (coupons_of u) w) c.self.view_is
      | inr some ↦
          ap not some ∙ sym (found_end t w c.self.invariant.probed c.in-Some.bucket c.index-buckets-bucket.result is (λ z. true≢false (sym (c.is_empty.ensures.1 z) ∙ some)))
          ∙ ap (λ (u : Table). contains (coupons_of u) w) c.self.view_is
    ]

pub returns-in-None : goal.returns-in-None
returns-in-None g c =
    sym (full_end c.self.inside.container c.args.coupon _ _ _ c.self.invariant.probed c.lg_size.ensures.size c.buckets-buckets.ensures.buckets c.raw.ensures c.in-None.ensures.full).1
    ∙ ap (λ (u : Table). contains (coupons_of u) c.args.coupon) c.self.view_is
