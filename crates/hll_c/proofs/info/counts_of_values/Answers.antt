-- SPDX-License-Identifier: Apache-2.0
use Rattle.std.proofs.Common.{◌≡◌, ℕ, ◌+◌, ◌<◌, List, map, take, set, get_or, length, refl, subst, ◌∙◌, arith}
use Rattle.std.proofs.lemmas.List.{get_or-map, length-map, length-set}
use Rattle.hll_coupons.specs.Pair.{value_of}
use Rattle.hll_c.specs.Info.{AreCountsOf}
use Rattle.hll_c.proofs.Counts.{counts_none, counts_more, counts_all}
use Rattle.hll_c.proofs.info.counts_of_values.Goals as goal

pub loop-raw-init : goal.loop-raw-init
loop-raw-init c = (counts_none, refl)

pub loop-raw-preserved : goal.loop-raw-preserved
loop-raw-preserved c =
    let raws : List ℕ = c.args.raw_coupons.now in
    let R : List ℕ = map value_of raws in
    let i : ℕ = c.loop-raw.raw-index in
    let counts : List ℕ = c.loop-raw.counts in
    let v : ℕ = value_of (get_or raws i 0) in
    let at : get_or R i 0 ≡ v = get_or-map value_of raws i 0 0 c.loop-raw-test.true in
    let inside : i < length R = omega (arith, c.loop-raw-test.true, length-map raws value_of) in
    let small : get_or R i 0 < 64 = omega (arith, at, c.type_inv.raw_coupons i) in (
      subst (λ w. AreCountsOf (take (i + 1) R) (set counts w (get_or counts w 0 + 1))) at (counts_more R counts i inside c.loop-raw.invariant.0 small c.loop-raw.invariant.1),
      length-set counts v (get_or counts v 0 + 1) ∙ c.loop-raw.invariant.1,
    )

pub returns-clause-counts : goal.returns-clause-counts
returns-clause-counts c =
    counts_all (map value_of c.args.raw_coupons.now) c.loop-raw.counts c.loop-raw.raw-index (omega (arith, c.loop-raw-test.false, length-map c.args.raw_coupons.now value_of)) c.loop-raw.invariant.0
