-- SPDX-License-Identifier: Apache-2.0
use Rattle.std.proofs.Common.{arith, ◌≡◌, ◌≤◌, ◌∙◌, refl, sym, ap, subst, get_or}
use Rattle.std.specs.Prelude.{IfSome}
use Rattle.hll_coupons.specs.AuxMap.{value_in}
use Rattle.hll_coupons.specs.Pair.{slot_of}
use Rattle.hll_coupons.specs.Probe.{EndsAt}
use Rattle.hll_coupons.specs.Table.{Table}
use Rattle.hll_coupons.proofs.Maps.{value_at_end, value_in_full, small_value}
use Rattle.hll_coupons.proofs.Putting.{ends_as, passes_as, read_at}
use Rattle.hll_coupons.proofs.aux_map.AuxMap.get.Goals as goal

pub returns-in_err-bucket-clause-value : goal.returns-in_err-bucket-clause-value
returns-in_err-bucket-clause-value g c =
    c.from_residual.ensures
    ∙ sym (value_in_full _ c.self.invariant c.args.slot (passes_as slot_of _ _ _ _ _ _ c.lg_size.ensures.size c.buckets-buckets.ensures.buckets refl c.in_err-bucket.ensures.full))
    ∙ ap (λ m. value_in m c.args.slot) c.self.view_is

pub returns-clause-value : goal.returns-clause-value
returns-clause-value g c =
    let t : Table = c.self.inside.table in
    let ends : EndsAt slot_of t.lg_size t.buckets c.args.slot c.in_ok-bucket.bucket =
    ends_as slot_of _ _ _ _ _ _ _ c.lg_size.ensures.size c.buckets-buckets.ensures.buckets refl c.in_ok-bucket.ensures.found in
    let entry : get_or t.buckets c.in_ok-bucket.bucket 0 ≡ c.index-buckets-bucket.result =
    read_at _ t.buckets _ _ c.buckets-buckets.ensures.buckets (omega (arith, ends.within, c.self.invariant.probed.size)) c.index-buckets-bucket.is in
    c.value_of_bucket.ensures ∙ value_at_end _ c.self.invariant c.args.slot c.in_ok-bucket.bucket c.index-buckets-bucket.result ends entry ∙ ap (λ m. value_in m c.args.slot) c.self.view_is

pub returns-clause-small : goal.returns-clause-small
returns-clause-small g c =
    let t : Table = c.self.inside.table in
    let ends : EndsAt slot_of t.lg_size t.buckets c.args.slot c.in_ok-bucket.bucket =
    ends_as slot_of _ _ _ _ _ _ _ c.lg_size.ensures.size c.buckets-buckets.ensures.buckets refl c.in_ok-bucket.ensures.found in
    let entry : get_or t.buckets c.in_ok-bucket.bucket 0 ≡ c.index-buckets-bucket.result =
    read_at _ t.buckets _ _ c.buckets-buckets.ensures.buckets (omega (arith, ends.within, c.self.invariant.probed.size)) c.index-buckets-bucket.is in
    subst (λ v. IfSome v (λ v. (1 ≤ v) × (v ≤ 63))) (sym c.value_of_bucket.ensures)
    (small_value _ c.self.invariant c.in_ok-bucket.bucket c.index-buckets-bucket.result (omega (arith, ends.within, c.self.invariant.probed.size)) entry)
