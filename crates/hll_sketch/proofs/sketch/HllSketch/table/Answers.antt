-- SPDX-License-Identifier: Apache-2.0
use Rattle.std.proofs.Common.{◌≡◌, ◌^◌, ◌≤◌, length, ap, subst, sym, ◌∙◌, arith}
use Rattle.std.proofs.Math.Pow.{pow_mono}
use Rattle.hll_coupons.specs.Table.{Table, coupons_in}
use Rattle.hll_sketch.specs.Layout as layouts
use Rattle.hll_sketch.specs.Layout.{layout_of, IsLayoutFor}
use Rattle.hll_sketch.proofs.sketch.HllSketch.table.Goals as goal

pub returns-in-List-clause-legal : goal.returns-in-List-clause-legal
returns-in-List-clause-legal g c =
    let k = c.self.inside.lg_config_k in
    let legal : IsLayoutFor k (layouts.list c.in-List.hll_type c.in-List.list) = subst (IsLayoutFor k) (ap layout_of c.in-List.is) c.self.invariant.1 in
    let size : c.container.result.now.lg_size ≡ 3 = ap (λ (t : Table). t.lg_size) c.container.ensures.same ∙ legal in
    let few : length (coupons_in c.container.result.now.buckets) ≤ 2 ^ 3 = subst (λ n. length (coupons_in c.container.result.now.buckets) ≤ 2 ^ n) size c.table_is_legal.ensures.within in
    let same = ap (λ (t : Table). length (coupons_in t.buckets)) (c.container.ensures.same ∙ sym c.container-in-List.ensures.same) in
    omega (arith, few, same)

pub returns-in-Set-clause-legal : goal.returns-in-Set-clause-legal
returns-in-Set-clause-legal g c =
    let k = c.self.inside.lg_config_k in
    let legal : IsLayoutFor k (layouts.set c.in-Set.hll_type c.in-Set.set) = subst (IsLayoutFor k) (ap layout_of c.in-Set.is) c.self.invariant.1 in
    let most : 2 ^ c.in-Set.set.lg_size ≤ 2 ^ 18 = pow_mono {j = 18} (omega (arith, legal.1, c.self.invariant.0.high)) in
    let same = ap (λ (t : Table). length (coupons_in t.buckets)) c.container-in-Set.ensures.same in
    omega (arith, most, legal.2, same)
