-- SPDX-License-Identifier: Apache-2.0
use Rattle.std.proofs.Common.{◌∙◌, ap, sym}
use Rattle.hll_registers.specs.FourBits.{exception_in, unboxed}
use Rattle.hll_coupons.specs.AuxMap.{value_in}
use Rattle.hll_registers.proofs.exception_map.put_fallen.Goals as goal

pub put_fallen_entries-requires-clause-above : goal.put_fallen_entries-requires-clause-above
put_fallen_entries-requires-clause-above g c s v e = c.requires.above s v (ap (λ o. exception_in (unboxed o) s) c.in-Some.is ∙ ap (λ t. value_in t s) (sym c.deref.ensures) ∙ e)
