-- SPDX-License-Identifier: Apache-2.0
use Rattle.std.proofs.Common.{ℕ, zero, suc, ◌-◌, ◌^◌, ◌≤◌, ◌∷◌, List, sym, ◌∙◌, arith, Option, Some, None, IfSome, OnSome}
use Rattle.std.proofs.lemmas.Bool.{true≢false}
use Rattle.std.specs.List.Sorted.{IsStrictlyIncreasing}
use Rattle.hll_coupons.specs.Coupons.{raw_coupons}
use Rattle.hll_coupons.proofs.Merging.{length-raw_coupons}
use Rattle.hll_sketch.proofs.BorrowedCoupons.{increasing_coupons}
use Rattle.hll_images.proofs.CouponImages.{ascends_after, same_coupons}
use Rattle.hll_sketch.proofs.SizedImages.{IfNone_then}
use Rattle.hll_images.proofs.SortedCoupons.{not_evident}
use Rattle.hll_images.proofs.sorted.coupons_in_order.Goals as goal

pub returns-then-ascend-clause-some : goal.returns-then-ascend-clause-some
returns-then-ascend-clause-some c = c.in-Some.ensures.coupons (increasing_coupons _ (c.ascend.ensures.0 c.if-ascend.true))

pub returns-then-ascend-clause-ascend : goal.returns-then-ascend-clause-ascend
returns-then-ascend-clause-ascend c = ascends_after _ (c.ascend.ensures.0 c.if-ascend.true)

pub returns-then-coupons-gt-FEW-clause-none : goal.returns-then-coupons-gt-FEW-clause-none
returns-then-coupons-gt-FEW-clause-none c =
    let all : List ℕ = raw_coupons c.in-Some.coupons.count c.in-Some.coupons.bytes.now in
    not_evident c.args.bytes.now all c.in-Some.ensures.raw_coupons (c.in-Some.ensures.compact (omega (arith, c.if-coupons-gt-FEW.true))) (λ up. true≢false (sym (c.ascend.ensures.1 up) ∙ c.if-ascend.false))
    (λ few are. let no : ⊥ = omega (arith, few, length-raw_coupons c.in-Some.coupons.count c.in-Some.coupons.bytes.now, c.if-coupons-gt-FEW.true) in no)

-- raw coupons that don't ascend are some
some_fall : (n : ℕ) (b : List ℕ) → (IsStrictlyIncreasing ((2 ^ 26 - 1) ∷ raw_coupons n b) → ⊥) → 1 ≤ n
some_fall zero b falls = absurd (falls (λ k within. absurd (omega (arith, within))))
some_fall (suc n) b falls = omega arith

pub returns-clause-none : goal.returns-clause-none
returns-clause-none c =
    let all : List ℕ = raw_coupons c.in-Some.coupons.count c.in-Some.coupons.bytes.now in
    let falls : IsStrictlyIncreasing ((2 ^ 26 - 1) ∷ all) → ⊥ = λ up. true≢false (sym (c.ascend.ensures.1 up) ∙ c.if-ascend.false) in
    IfNone_then c.sorted.result c.sorted.ensures.none λ apart.
    not_evident c.args.bytes.now all c.in-Some.ensures.raw_coupons (c.in-Some.ensures.compact (some_fall c.in-Some.coupons.count _ falls)) (λ up. true≢false (sym (c.ascend.ensures.1 up) ∙ c.if-ascend.false)) (λ few are. apart are)

-- what holds for a value, if a fact holds whenever there is one
given : {X : Type 0} (r : Option X) {P R : X → Type 0} {Q : Type 0} → OnSome r Q → IfSome r P → (Q → (x : X) → P x → R x) → IfSome r R
given None q p f = tt
given (Some x) q p f = f q x p

pub returns-clause-some : goal.returns-clause-some
returns-clause-some c =
    let b : List ℕ = c.args.bytes.now in
    let all : List ℕ = raw_coupons c.in-Some.coupons.count c.in-Some.coupons.bytes.now in
    given c.sorted.result c.sorted.ensures.are c.sorted.ensures.some λ are w up. same_coupons b all (raw_coupons w.count w.bytes.now) (c.in-Some.ensures.coupons are) up.members

pub returns-clause-ascend : goal.returns-clause-ascend
returns-clause-ascend c = given c.sorted.result c.sorted.ensures.are c.sorted.ensures.some λ are w up. up.increasing
