-- SPDX-License-Identifier: Apache-2.0
-- What a sketch holds is a legal sketch value.
use Rattle.std.proofs.Common.{◌≡◌, ℕ, ◌≤◌, ◌^◌, length, ap, inl, inr, arith}
use Rattle.hll_coupons.specs.Table.{Table, coupons_in, IsTable}
use Rattle.hll_base.specs.declared.hll_type.HllType.{HllType}
use Rattle.hll_sketch.specs.Layout as layouts
use Rattle.hll_sketch.specs.Layout.{SketchLayout, sketch_of, IsLayoutFor}
use Rattle.hll_sketch.specs.Value.{IsLgK, IsLegal}
use Rattle.hll_sketch.proofs.LegalImages.{ArePairs-set_of}

pub list_legal : (k : ℕ) (w : HllType) (t : Table) → IsLgK k → IsLayoutFor k (layouts.list w t) → IsTable t → length (coupons_in t.buckets) ≤ 2 ^ t.lg_size →
    IsLegal (sketch_of (record { lg_k = k; layout = layouts.list w t }))
list_legal k w t lg_k three table most =
    let eight : 2 ^ t.lg_size ≡ 8 = ap (λ q. 2 ^ q) three in
    record {
      lg_k = lg_k;
      content = (ArePairs-set_of (coupons_in t.buckets) table.valued, inl (three, omega (arith, table.distinct, most, eight)));
    }

pub set_legal : (k : ℕ) (w : HllType) (t : Table) → IsLgK k → IsLayoutFor k (layouts.set w t) → IsTable t → IsLegal (sketch_of (record { lg_k = k; layout = layouts.set w t }))
set_legal k w t lg_k legal table = record {
  lg_k = lg_k;
  content = (ArePairs-set_of (coupons_in t.buckets) table.valued, inr (legal.0, legal.1, omega (arith, table.distinct, legal.2)));
}
