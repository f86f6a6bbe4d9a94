-- SPDX-License-Identifier: Apache-2.0
use Rattle.std.proofs.Common.{ℕ, ◌-◌, ◌^◌, List, ◌∷◌, refl, sym, ap, subst, ◌∙◌}
use Rattle.std.specs.List.Sorted.{IsStrictlyIncreasing}
use Rattle.std.proofs.lemmas.Bool.{true≢false}
use Rattle.hll_coupons.specs.Pair.{set_of}
use Rattle.hll_images.proofs.CouponImages.{ascends_after}
use Rattle.hll_images.proofs.SortedCoupons.{sorted_members, coupons_from_sorted, sorted_from_coupons}
use Rattle.hll_images.proofs.sorted.sorted_numbers.Goals as goal

-- the numbers ascend from the greatest one with the value 0
abbrev Ascend : List ℕ → Type 0
Ascend ws = IsStrictlyIncreasing ((2 ^ 26 - 1) ∷ ws)

pub returns-clause-some : goal.returns-clause-some
returns-clause-some c =
    let order : List ℕ = c.sort_unstable.new.self in
    record {
      increasing = ascends_after _ (c.ascend.ensures.0 c.if-not-ascend.false);
      members = ap set_of c.write_raw_coupons.ensures ∙ sorted_members c.args.numbers.now _ order refl c.sort_unstable.ensures.permutation;
    }

pub returns-clause-are : goal.returns-clause-are
returns-clause-are c =
    let order : List ℕ = c.sort_unstable.new.self in
    coupons_from_sorted c.args.numbers.now _ order refl c.sort_unstable.ensures.permutation (subst Ascend c.write_raw_coupons.ensures (c.ascend.ensures.0 c.if-not-ascend.false))

pub returns-then-not-ascend-clause-none : goal.returns-then-not-ascend-clause-none
returns-then-not-ascend-clause-none c = λ are.
    let order : List ℕ = c.sort_unstable.new.self in
    let up : Ascend order = sorted_from_coupons c.args.numbers.now _ order refl c.sort_unstable.ensures.permutation c.sort_unstable.ensures.sorted are in
    true≢false (sym (c.ascend.ensures.1 (subst Ascend (sym c.write_raw_coupons.ensures) up)) ∙ c.if-not-ascend.true)
