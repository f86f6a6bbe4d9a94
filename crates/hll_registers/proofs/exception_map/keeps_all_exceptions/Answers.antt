-- SPDX-License-Identifier: Apache-2.0
use Rattle.std.proofs.Common.{◌∙◌, ap, sym, subst}
use Rattle.hll_registers.specs.FourBits.{exception_in, unboxed}
use Rattle.hll_coupons.specs.AuxMap.{value_in, IsMap}
use Rattle.hll_registers.proofs.exception_map.keeps_all_exceptions.Goals as goal

pub are_all_above-requires-clause-map : goal.are_all_above-requires-clause-map
are_all_above-requires-clause-map g c = subst IsMap (sym c.deref.ensures) (c.requires.map c.in-Some.map.value (ap unboxed c.in-Some.is))

pub returns-in-Some-clause-all : goal.returns-in-Some-clause-all
returns-in-Some-clause-all g c e s v is = c.are_all_above.ensures.all e s v (ap (λ t. value_in t s) c.deref.ensures ∙ ap (λ o. exception_in (unboxed o) s) (sym c.in-Some.is) ∙ is)
