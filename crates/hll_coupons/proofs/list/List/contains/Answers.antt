-- SPDX-License-Identifier: Apache-2.0
use Rattle.std.proofs.Common.{◌≡◌, ℕ, List, length, take, nat_eq, sym, ap, ◌∙◌}
use Rattle.std.specs.List.{list_any}
use Rattle.std.specs.FinSet.{contains, contains-from_list_nat}
use Rattle.std.proofs.Math.Seq.{take-append_seam}
use Rattle.hll_coupons.specs.Table.{Table, coupons_of, coupons_in}
use Rattle.hll_coupons.proofs.list.List.contains.Goals as goal

pub returns : goal.returns
returns g c =
    let t : Table = c.self.inside.container in
    let coupons : List ℕ = coupons_in t.buckets in
    let front : take (length coupons) t.buckets ≡ coupons = ap (take (length coupons)) c.self.invariant ∙ take-append_seam coupons _ in
    let slice : take c.len.result c.buckets.result.now ≡ coupons = (λ i. take (c.len.ensures.count i) (c.buckets.ensures.buckets i)) ∙ front in
    c.contains.ensures.value
    ∙ ap (λ xs. list_any (λ y. nat_eq y c.args.coupon) xs) slice
    ∙ sym (contains-from_list_nat coupons c.args.coupon)
    ∙ ap (λ t. contains (coupons_of t) c.args.coupon) c.self.view_is
