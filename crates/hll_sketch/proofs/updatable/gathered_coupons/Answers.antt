-- SPDX-License-Identifier: Apache-2.0
use Rattle.std.proofs.Common.{List, ℕ, sym, subst}
use Rattle.hll_coupons.specs.Coupons.{raw_coupons, AreCoupons}
use Rattle.hll_coupons.specs.Table.{coupons_in}
use Rattle.hll_sketch.specs.MergedIn.{IsOfCoupons}
use Rattle.hll_sketch.specs.Updatable.{HoldCoupons, HasUpdatableCoupons}
use Rattle.hll_sketch.specs.declared.updatable.Buckets.{Buckets}
use Rattle.hll_sketch.proofs.updatable.gathered_coupons.Goals as goal
use Rattle.hll_sketch.proofs.updatable.gathered_coupons.Goals.{in-List+in_ok-buckets-in-List, in-Set+in_ok-buckets-in-Set}

-- the raw coupons in the buckets
abbrev placed : Buckets → List ℕ
placed p = raw_coupons p.raw_coupons.count p.raw_coupons.bytes.now

-- the image is of the coupons in these buckets, if these hold that number of coupons
abbrev Means : List ℕ → Buckets → Type 0
Means b p = HoldCoupons p.filled (placed p) → IsOfCoupons b (coupons_in (placed p))

-- they do, if the image is updatable and has coupons
abbrev Holds : List ℕ → Buckets → Type 0
Holds b p = HasUpdatableCoupons b → HoldCoupons p.filled (placed p)

pub returns-clause-some : goal.returns-clause-some
returns-clause-some c =
    let b : List ℕ = c.args.bytes.now in
    let gathered = c.gather_filled.ensures.gathered c.if-not-gather_filled.false in
    let meaning : Means b c.match-header.buckets =
    elim c.match-header.branch [
      | in-List+in_ok-buckets-in-List w ↦ subst (Means b) (sym w.buckets-is) w.in_ok-buckets-in-List.ensures.coupons
      | in-Set+in_ok-buckets-in-Set w ↦ subst (Means b) (sym w.buckets-is) w.in_ok-buckets-in-Set.ensures.coupons
    ] in
    λ are. subst (IsOfCoupons b) (sym gathered) (meaning (record { are = subst AreCoupons gathered are; number = c.gather_filled.ensures.number.0 c.if-not-gather_filled.false }))

pub returns-clause-coupons : goal.returns-clause-coupons
returns-clause-coupons c =
    let b : List ℕ = c.args.bytes.now in
    let holds : Holds b c.match-header.buckets =
    elim c.match-header.branch [
      | in-List+in_ok-buckets-in-List w ↦ subst (Holds b) (sym w.buckets-is) w.in_ok-buckets-in-List.ensures.hold
      | in-Set+in_ok-buckets-in-Set w ↦ subst (Holds b) (sym w.buckets-is) w.in_ok-buckets-in-Set.ensures.hold
    ] in
    λ has. subst AreCoupons (sym (c.gather_filled.ensures.gathered c.if-not-gather_filled.false)) (holds has).are
