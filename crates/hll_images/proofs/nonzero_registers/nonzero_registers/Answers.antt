-- SPDX-License-Identifier: Apache-2.0
use Rattle.std.proofs.Common.{ℕ, List, All, sym, ap, subst, ◌∙◌}
use Rattle.std.specs.List.Sorted.{IsNonDecreasing}
use Rattle.std.proofs.lemmas.List.Sorted.{IsNonDecreasingBy-from_sort}
use Rattle.std.proofs.lemmas.Result.{IfOk-weaker}
use Rattle.hll_coupons.specs.Fold.{raw_coupons_from}
use Rattle.hll_images.specs.Keys.{IsKey, registers_of_keys}
use Rattle.hll_images.proofs.NonzeroRegisters.{registers_of_permutation, keys_of_permutation}
use Rattle.hll_images.proofs.nonzero_registers.nonzero_registers.Goals as goal

pub first_of_each_slot-requires : goal.first_of_each_slot-requires
first_of_each_slot-requires g c = subst IsNonDecreasing (sym c.deref.ensures.value) (IsNonDecreasingBy-from_sort (λ x. x) c.sort_unstable.new.self.items c.sort_unstable.ensures.sorted)

pub returns-clause-ok : goal.returns-clause-ok
returns-clause-ok g c =
    let k : ℕ = c.args.lg_k in
    let keys : List ℕ = c.in_ok-keys.keys.items in
    let sorted : List ℕ = c.sort_unstable.new.self.items in
    let moved = c.sort_unstable.ensures.permutation in
    IfOk-weaker c.first_of_each_slot.result _ _ (λ v is.
    is k (subst (λ qs. All (IsKey k) qs) (sym c.deref.ensures.value) (keys_of_permutation k keys sorted moved c.in_ok-keys.ensures.keys))
    ∙ ap (raw_coupons_from 0) (ap (registers_of_keys k) c.deref.ensures.value ∙ registers_of_permutation k keys sorted moved ∙ c.in_ok-keys.ensures.registers)) c.first_of_each_slot.ensures.ok
