-- SPDX-License-Identifier: Apache-2.0
use Rattle.std.proofs.Common.{arith, ◌≡◌, ◌<◌, ◌∙◌, sym, ap, not, nat_eq}
use Rattle.std.specs.List.{list_any}
use Rattle.std.specs.FinSet.{contains}
use Rattle.hll_coupons.specs.Pair.{set_of}
use Rattle.hll_coupons.specs.Storage.{buckets_in}
use Rattle.hll_coupons.specs.Table.{coupons_of, coupons_in}
use Rattle.hll_coupons.proofs.Members.{contains-coupons_in, contains-zero}
use Rattle.hll_coupons.proofs.container.Container.contains.Goals as goal

pub returns-then-not-is_empty : goal.returns-then-not-is_empty
returns-then-not-is_empty g c =
    let not_zero : c.args.coupon ≡ 0 → ⊥ = λ z. cc (c.is_empty.ensures.1 z, c.if-not-is_empty.true) in
    let full : 0 < c.args.coupon = omega arith in
    c.contains.ensures.value
    ∙ ap (λ xs. list_any (λ y. nat_eq y c.args.coupon) xs) c.as_slice.ensures
    ∙ contains-coupons_in (buckets_in c.self.inside.buckets) c.args.coupon full
    ∙ ap (λ t. contains (coupons_of t) c.args.coupon) c.self.view_is

pub returns-else-not-is_empty : goal.returns-else-not-is_empty
returns-else-not-is_empty g c =
    let zero : c.args.coupon ≡ 0 = c.is_empty.ensures.0 c.if-not-is_empty.false in
    ap not c.if-not-is_empty.false
    ∙ sym (contains-zero (buckets_in c.self.inside.buckets))
    ∙ ap (λ n. contains (set_of (coupons_in (buckets_in c.self.inside.buckets))) n) (sym zero)
    ∙ ap (λ t. contains (coupons_of t) c.args.coupon) c.self.view_is
