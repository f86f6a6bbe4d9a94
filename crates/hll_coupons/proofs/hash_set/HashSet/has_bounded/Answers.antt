-- SPDX-License-Identifier: Apache-2.0
use Rattle.std.proofs.Common.{ℕ, ◌∙◌, sym, ap, inl, inr}
use Rattle.std.specs.FinSet.{contains}
use Rattle.std.proofs.lemmas.Bool.{cases_Bool, true≢false}
use Rattle.hll_coupons.specs.Table.{Table, coupons_of}
use Rattle.hll_coupons.proofs.Sets.{IsEnd, end_of, found_end, lacking_end}
use mathlib.Core.Bool.{not}
use Rattle.hll_coupons.proofs.hash_set.HashSet.has_bounded.Goals as goal

pub returns : goal.returns
returns g c =
    let t : Table = c.self.inside.container in
    let w : ℕ = c.args.coupon in
    let is : IsEnd t w c.in_ok-bucket.bucket c.index-buckets-bucket.result = end_of t w c.in_ok-bucket.bucket c.index-buckets-bucket.result _ _ _ c.self.invariant.probed.size c.lg_size-lg_size.ensures.size c.buckets-buckets.ensures.buckets c.raw.ensures c.in_ok-bucket.ensures.found c.index-buckets-bucket.is in
    elim (cases_Bool c.is_empty.result) [
      | inl empty ↦
          ap not empty ∙ sym (lacking_end t w c.self.invariant.probed c.in_ok-bucket.bucket c.index-buckets-bucket.result is (c.is_empty.ensures.0 empty))
          ∙ ap (λ (u : Table). contains (coupons_of u) w) c.self.view_is
      | inr some ↦
          ap not some ∙ sym (found_end t w c.self.invariant.probed c.in_ok-bucket.bucket c.index-buckets-bucket.result is (λ z. true≢false (sym (c.is_empty.ensures.1 z) ∙ some)))
          ∙ ap (λ (u : Table). contains (coupons_of u) w) c.self.view_is
    ]
