-- SPDX-License-Identifier: Apache-2.0
use Rattle.std.proofs.Common.{arith, ℕ, ◌≡◌, ◌<◌, ◌^◌, ◌+◌, ◌∙◌, sym, ap, subst, List, length, slice_index, slice_set, false}
use Rattle.std.specs.FinSet.{contains}
use Rattle.hll_coupons.specs.Pair.{IsPair}
use Rattle.hll_coupons.specs.Table.{Table, IsTable, coupons_in, coupons_of}
use Rattle.hll_coupons.proofs.TableLemmas.{IsTable-put, length-coupons_in-table, small_buckets}
use Rattle.hll_coupons.proofs.container.Container.put.Goals as goal

pub overflow_add-self : goal.overflow_add-self
overflow_add-self g c =
    omega (arith, c.self.invariant.1, length-coupons_in-table _ c.self.invariant.0, c.self.invariant.0.size, small_buckets _ c.self.invariant.0)

-- the number of coupons grows by one, and the table is legal
put_in : (t now : Table) (bucket coupon len : ℕ) (after : List ℕ) → after ≡ slice_set t.buckets bucket coupon → t ≡ now → IsTable t → len ≡ length (coupons_in t.buckets) → bucket < 2 ^ now.lg_size → slice_index now.buckets bucket ≡ 0 → IsPair coupon →
    contains (coupons_of now) coupon ≡ false → IsTable (record { lg_size = t.lg_size; buckets = after }) × (len + 1 ≡ length (coupons_in after))
put_in t now bucket coupon len after is same table count inside empty pair fresh =
    let put = IsTable-put t bucket coupon table (subst (λ (u : Table). bucket < 2 ^ u.lg_size) (sym same) inside) (ap (λ (u : Table). slice_index u.buckets bucket) same ∙ empty) pair
    (ap (λ u. contains (coupons_of u) coupon) same ∙ fresh) in
    (subst (λ ps. IsTable (record { lg_size = t.lg_size; buckets = ps })) (sym is) put.0, ap (λ n. n + 1) count ∙ sym put.1 ∙ ap (λ ps. length (coupons_in ps)) (sym is))

pub invariant_of-self : goal.invariant_of-self
invariant_of-self g c =
    put_in _ _ c.args.bucket c.args.coupon c.self.inside.len _ c.set.ensures c.self.view_is c.self.invariant.0 c.self.invariant.1 c.requires.inside c.requires.empty
    (record { valued = c.requires.valued; small = omega (arith, c.value.ensures.value, c.value.ensures.small) }) c.requires.fresh

pub returns-clause-table : goal.returns-clause-table
returns-clause-table g c =
    (put_in _ _ c.args.bucket c.args.coupon c.self.inside.len _ c.set.ensures c.self.view_is c.self.invariant.0 c.self.invariant.1 c.requires.inside c.requires.empty
    (record { valued = c.requires.valued; small = omega (arith, c.value.ensures.value, c.value.ensures.small) }) c.requires.fresh).0

pub set-requires-clause-small : goal.set-requires-clause-small
set-requires-clause-small g c =
    let within : c.args.bucket < 2 ^ c.self.inside.lg_size = subst (λ (t : Table). c.args.bucket < 2 ^ t.lg_size) (sym c.self.view_is) c.requires.inside in
    omega (arith, within, c.self.invariant.0.size, small_buckets _ c.self.invariant.0)
