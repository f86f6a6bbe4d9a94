-- SPDX-License-Identifier: Apache-2.0
use Rattle.std.proofs.Common.{◌≤◌, ◌^◌, ◌∙◌, arith, sym, ap, subst}
use Rattle.std.specs.FinSet.{len, len-empty}
use Rattle.std.specs.Ordering.{nat_cmp}
use Rattle.std.proofs.Math.Pow.{pow_mono}
use Rattle.hll_coupons.specs.AuxMap.{table_bytes, ExceptionMap}
use Rattle.hll_registers.specs.FourBits.{exceptions_in, IsMapFor, unboxed}
use Rattle.hll_registers.proofs.exception_map.bytes_of_buckets.Goals as goal

pub returns-in-Some-clause-bound : goal.returns-in-Some-clause-bound
returns-in-Some-clause-bound g c k h =
    let few : 2 ^ c.in-Some.map.value.table.lg_size ≤ 2 ^ 26 = pow_mono (subst (λ o. IsMapFor k (unboxed o)) c.in-Some.is h).0.table.small in
    omega (arith, c.estimated_size.ensures, few, ap (λ (t : ExceptionMap). 2 ^ t.table.lg_size) c.deref.ensures)

pub returns-in-None-clause-size : goal.returns-in-None-clause-size
returns-in-None-clause-size g c k h = sym (ap (λ e. table_bytes k (len (exceptions_in (unboxed e)))) c.in-None.is ∙ ap (table_bytes k) (len-empty nat_cmp))
