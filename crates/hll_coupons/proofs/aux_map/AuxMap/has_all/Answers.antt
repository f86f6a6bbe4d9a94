-- SPDX-License-Identifier: Apache-2.0
use Rattle.std.proofs.Common.{◌∙◌, sym, ap}
use Rattle.hll_coupons.specs.AuxMap.{ExceptionMap}
use Rattle.hll_coupons.specs.Pair.{IsPair}
use Rattle.hll_coupons.specs.Table.{coupons_of, coupons_in}
use Rattle.hll_coupons.proofs.Members.{is_subset-of_all, is_subset-of_missing}
use Rattle.hll_coupons.proofs.Putting.{last_of_all}
use Rattle.hll_coupons.proofs.Yielded.{given}
use Rattle.hll_coupons.proofs.aux_map.AuxMap.has_all.Goals as goal

pub has-requires : goal.has-requires
has-requires g c =
    (last_of_all IsPair (coupons_in c.other.inside.table.buckets) _ _ c.in-Some.entry
    (given _ _ _ _ _ (c.into_iter-entry-iterator.ensures.into_iter_gives ∙ c.iter-entry-items.ensures) c.loop-entry.yielded_by c.in-Some.ensures.steps) c.other.invariant.table.valued).valued

pub returns-then-not-has : goal.returns-then-not-has
returns-then-not-has g c =
    is_subset-of_missing (coupons_of c.args.self.now.table) _ _ _ c.in-Some.entry
    (given _ _ _ _ _ (c.into_iter-entry-iterator.ensures.into_iter_gives ∙ c.iter-entry-items.ensures ∙ ap (λ (m : ExceptionMap). coupons_in m.table.buckets) c.other.view_is) c.loop-entry.yielded_by c.in-Some.ensures.steps)
    (sym c.has.ensures ∙ c.if-not-has.true)

pub returns : goal.returns
returns g c =
    is_subset-of_all (coupons_of c.args.self.now.table) _ _
    (given _ _ _ _ _ (c.into_iter-entry-iterator.ensures.into_iter_gives ∙ c.iter-entry-items.ensures ∙ ap (λ (m : ExceptionMap). coupons_in m.table.buckets) c.other.view_is) c.loop-entry.yielded_by c.in-None.ensures.steps.0)
    c.loop-entry.invariant
