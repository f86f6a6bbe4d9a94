-- SPDX-License-Identifier: Apache-2.0
use Rattle.std.proofs.Common.{◌≡◌, ◌+◌, ◌≤◌, ℕ, List, length, take, drop, subst, sym, ap, ◌∙◌, arith}
use Rattle.std.specs.Int.{w32, from_le_bytes}
use Rattle.std.specs.FinSet.{union}
use Rattle.std.specs.List.Sorted.{IsStrictlyIncreasing}
use Rattle.std.proofs.lemmas.List.{take-map, drop-map, take_rest}
use Rattle.hll_coupons.specs.Coupons.{IsAscending}
use Rattle.hll_coupons.specs.Pair.{set_of}
use Rattle.hll_state.specs.CouponRun.{raws}
use Rattle.hll_state.proofs.Sets.{set_of-split}
use Rattle.hll_state.proofs.Raws.{take-raws_take, take-raws_append}
use Rattle.hll_state.proofs.settle.merge_tail.Goals as goal

pub merge-requires-clause-ascends : goal.merge-requires-clause-ascends
merge-requires-clause-ascends c =
    subst IsStrictlyIncreasing (sym (take-raws_take c.args.run (c.args.run + c.sort_all-distinct.result) c.args.coupons.now (omega arith))) c.requires.ascends

pub merge-requires-clause-others : goal.merge-requires-clause-others
merge-requires-clause-others c =
    subst IsStrictlyIncreasing (take-map (from_le_bytes w32) c.sort_all-distinct.result c.sort_all-distinct.new.coupons) c.sort_all-distinct.ensures.ascending.increasing

pub returns-clause-ascending : goal.returns-clause-ascending
returns-clause-ascending c =
    let run : ℕ = c.args.run in
    let coupons : List (List ℕ) = c.args.coupons.now in
    let distinct : ℕ = c.sort_all-distinct.result in
    let within : c.merge.result ≤ length c.merge.new.coupons = omega (arith, c.merge.ensures.within, c.merge.auto.coupons) in
    let front : take run (raws (take (run + distinct) coupons)) ≡ take run (raws coupons) = take-raws_take run (run + distinct) coupons (omega arith) in
    let tail : set_of (raws (take distinct c.sort_all-distinct.new.coupons)) ≡ set_of (drop run (raws coupons)) =
    ap set_of (sym (take-map (from_le_bytes w32) distinct c.sort_all-distinct.new.coupons)) ∙ c.sort_all-distinct.ensures.ascending.members
    ∙ ap (λ ys. set_of (raws ys)) (c.copy_from_slice.ensures.after ∙ take_rest coupons run) ∙ ap set_of (sym (drop-map (from_le_bytes w32) run coupons)) in
    let all : union (set_of (take run (raws (take (run + distinct) coupons)))) (set_of (raws (take distinct c.sort_all-distinct.new.coupons))) ≡ set_of (raws coupons) =
    (λ i. union (set_of (front i)) (tail i)) ∙ set_of-split run (raws coupons) in
    subst (λ ys. IsAscending ys (set_of (raws coupons))) (sym (take-raws_append c.merge.result c.merge.new.coupons (drop (run + distinct) coupons) within))
    (subst (IsAscending (take c.merge.result (raws c.merge.new.coupons))) all c.merge.ensures.ascending)
