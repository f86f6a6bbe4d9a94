-- SPDX-License-Identifier: Apache-2.0
use Rattle.std.proofs.Common.{◌≡◌, ◌<◌, ◌^◌, Some, ap, sym, subst, ◌∙◌}
use Rattle.hll_registers.specs.FourBits.{exception_in, unboxed, IsMapFor}
use Rattle.hll_registers.proofs.same_registers.are_all_in.Goals as goal

pub returns-in-Some-Some-clause-some : goal.returns-in-Some-Some-clause-some
returns-in-Some-Some-clause-some g c f =
    let x = c.are_all_entries_of.ensures.some f in
    let here : unboxed c.args.map.now ≡ Some c.deref-in-Some-Some.result.now = ap unboxed c.in-Some-Some.is-0 ∙ ap (λ t. Some t) (sym c.deref-in-Some-Some.ensures) in
    let there : unboxed c.args.other.now ≡ Some c.deref.result.now = ap unboxed c.in-Some-Some.is-1 ∙ ap (λ t. Some t) (sym c.deref.ensures) in
    let map : IsMapFor c.args.lg_k (Some c.deref.result.now) = subst (IsMapFor c.args.lg_k) there c.requires.other in (
      x.0,
      x.1,
      subst (λ k. x.0 < 2 ^ k) map.1 x.2,
      ap (λ o. exception_in o x.0) here ∙ x.3,
      λ is. x.4 (sym (ap (λ o. exception_in o x.0) there) ∙ is),
    )
