-- SPDX-License-Identifier: Apache-2.0
use Rattle.std.proofs.Common.{arith, ◌≡◌, ◌∙◌, nat_eq, sym, ap, get_or}
use Rattle.std.specs.FinSet.{contains}
use Rattle.hll_coupons.specs.AuxMap.{ExceptionMap}
use Rattle.hll_coupons.specs.Pair.{slot_of}
use Rattle.hll_coupons.specs.Probe.{EndsAt}
use Rattle.hll_coupons.specs.Table.{Table, coupons_of}
use Rattle.hll_coupons.proofs.Maps.{has_at_end, has_in_full}
use Rattle.hll_coupons.proofs.Putting.{ends_as, passes_as, read_at}
use Rattle.hll_coupons.proofs.TableLemmas.{full_of_valued}
use Rattle.hll_coupons.proofs.aux_map.AuxMap.has.Goals as goal

pub returns-in-Some : goal.returns-in-Some
returns-in-Some g c =
    let t : Table = c.self.inside.table in
    let ends : EndsAt slot_of t.lg_size t.buckets (slot_of c.args.entry) c.in-Some.bucket =
    ends_as slot_of _ _ _ _ _ _ _ c.lg_size.ensures.size c.buckets-buckets.ensures.buckets c.slot.ensures.slot c.in-Some.ensures.found in
    let entry : get_or t.buckets c.in-Some.bucket 0 ≡ c.index-buckets-bucket.result =
    read_at _ t.buckets _ _ c.buckets-buckets.ensures.buckets (omega (arith, ends.within, c.self.invariant.probed.size)) c.index-buckets-bucket.is in
    c.eq.ensures ∙ ap (λ w. nat_eq w c.args.entry) (sym entry)
    ∙ has_at_end _ c.self.invariant c.args.entry c.in-Some.bucket (full_of_valued c.args.entry c.requires) ends
    ∙ ap (λ (m : ExceptionMap). contains (coupons_of m.table) c.args.entry) c.self.view_is

pub returns-in-None : goal.returns-in-None
returns-in-None g c =
    sym (has_in_full _ c.self.invariant c.args.entry (full_of_valued c.args.entry c.requires)
    (passes_as slot_of _ _ _ _ _ _ c.lg_size.ensures.size c.buckets-buckets.ensures.buckets c.slot.ensures.slot c.in-None.ensures.full))
    ∙ ap (λ (m : ExceptionMap). contains (coupons_of m.table) c.args.entry) c.self.view_is
