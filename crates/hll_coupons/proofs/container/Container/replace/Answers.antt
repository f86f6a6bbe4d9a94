-- SPDX-License-Identifier: Apache-2.0
use Rattle.std.proofs.Common.{arith, ℕ, ◌≡◌, ◌≢◌, ◌<◌, ◌^◌, ◌∙◌, sym, ap, subst, List, length, slice_index, slice_set}
use Rattle.hll_coupons.specs.Pair.{IsPair}
use Rattle.hll_coupons.specs.Table.{Table, IsTable, coupons_in}
use Rattle.hll_coupons.proofs.Replacing.{IsTable-replace}
use Rattle.hll_coupons.proofs.TableLemmas.{full_of_valued, small_buckets}
use Rattle.hll_coupons.proofs.container.Container.replace.Goals as goal

-- the number of coupons stays, and the table is legal
replaced_in : (t now : Table) (bucket coupon : ℕ) (after : List ℕ) → after ≡ slice_set t.buckets bucket coupon → t ≡ now → IsTable t → bucket < 2 ^ now.lg_size → slice_index now.buckets bucket ≢ 0 → IsPair coupon →
    ((p : ℕ) → p < length now.buckets → p ≢ bucket → slice_index now.buckets p ≢ coupon) →
    IsTable (record { lg_size = t.lg_size; buckets = after }) × (length (coupons_in after) ≡ length (coupons_in t.buckets))
replaced_in t now bucket coupon after is same table inside filled pair others =
    subst (λ ps. IsTable (record { lg_size = t.lg_size; buckets = ps }) × (length (coupons_in ps) ≡ length (coupons_in t.buckets))) (sym is) (
    IsTable-replace t bucket table (subst (λ (u : Table). bucket < 2 ^ u.lg_size) (sym same) inside)
    (λ z. filled (ap (λ (u : Table). slice_index u.buckets bucket) (sym same) ∙ z))
    coupon pair (full_of_valued coupon pair.valued)
    (λ q within other is. others q (subst (λ (u : Table). q < length u.buckets) same within) other (ap (λ (u : Table). slice_index u.buckets q) (sym same) ∙ is)))

pub invariant_of-self : goal.invariant_of-self
invariant_of-self g c =
    let r = replaced_in _ _ c.args.bucket c.args.coupon _ c.set.ensures c.self.view_is c.self.invariant.0 c.requires.inside c.requires.filled
    (record { valued = c.requires.valued; small = omega (arith, c.value.ensures.value, c.value.ensures.small) }) c.requires.others in
    (r.0, c.self.invariant.1 ∙ sym r.1)

pub returns-clause-table : goal.returns-clause-table
returns-clause-table g c =
    (replaced_in _ _ c.args.bucket c.args.coupon _ c.set.ensures c.self.view_is c.self.invariant.0 c.requires.inside c.requires.filled
    (record { valued = c.requires.valued; small = omega (arith, c.value.ensures.value, c.value.ensures.small) }) c.requires.others).0

pub returns-clause-count : goal.returns-clause-count
returns-clause-count g c =
    (replaced_in _ _ c.args.bucket c.args.coupon _ c.set.ensures c.self.view_is c.self.invariant.0 c.requires.inside c.requires.filled
    (record { valued = c.requires.valued; small = omega (arith, c.value.ensures.value, c.value.ensures.small) }) c.requires.others).1
    ∙ ap (λ (t : Table). length (coupons_in t.buckets)) c.self.view_is

pub set-requires-clause-small : goal.set-requires-clause-small
set-requires-clause-small g c =
    let within : c.args.bucket < 2 ^ c.self.inside.lg_size = subst (λ (t : Table). c.args.bucket < 2 ^ t.lg_size) (sym c.self.view_is) c.requires.inside in
    omega (arith, within, c.self.invariant.0.size, small_buckets _ c.self.invariant.0)
