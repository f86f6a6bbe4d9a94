-- SPDX-License-Identifier: Apache-2.0
use Rattle.std.proofs.Common.{◌≤◌, ◌^◌, ◌∙◌, arith, sym, ap, subst, length}
use Rattle.std.specs.FinSet.{len, len-empty}
use Rattle.std.specs.Ordering.{nat_cmp}
use Rattle.std.proofs.Math.Pow.{pow_mono}
use Rattle.hll_coupons.proofs.Maps.{few_entries}
use Rattle.hll_registers.specs.FourBits.{exceptions_in, IsMapFor, unboxed}
use Rattle.hll_coupons.specs.AuxMap.{ExceptionMap}
use Rattle.hll_coupons.specs.Table.{coupons_in}
use Rattle.hll_registers.proofs.exception_map.count_exceptions.Goals as goal

pub returns-in-Some-clause-bound : goal.returns-in-Some-clause-bound
returns-in-Some-clause-bound g c k h =
    let is = (subst (λ o. IsMapFor k (unboxed o)) c.in-Some.is h).0 in
    let few : 2 ^ c.in-Some.map.value.lg_k ≤ 2 ^ 21 = pow_mono is.high in
    omega (arith, c.len.ensures.count, few_entries c.in-Some.map.value is, few, ap (λ (t : ExceptionMap). length (coupons_in t.table.buckets)) c.deref.ensures)

pub returns-in-None-clause-count : goal.returns-in-None-clause-count
returns-in-None-clause-count g c k h = sym (ap (λ e. len (exceptions_in (unboxed e))) c.in-None.is ∙ len-empty nat_cmp)
