-- SPDX-License-Identifier: Apache-2.0
use Rattle.std.proofs.Common.{◌≡◌, ◌≤◌, ◌<◌, ◌^◌, Some, length, sym, subst, ◌∙◌, arith, inl, inr}
use Rattle.hll_coupons.specs.Table.{coupons_in}
use Rattle.hll_sketch.specs.Stage as stages
use Rattle.hll_sketch.proofs.LegalSketches.{legal_size}
use Rattle.hll_sketch.proofs.folding.mode_of_coupons.Goals as goal

pub list_of-requires : goal.list_of-requires
list_of-requires g c =
    let is : stages.stage c.args.lg_k 3 c.len.result ≡ Some c.in-Some-eq3.field-0 = sym c.stage.ensures ∙ c.in-Some-eq3.is in
    elim (legal_size c.args.lg_k 3 c.len.result c.in-Some-eq3.field-0 is) [
      | inl few ↦ omega (arith, few.1, c.len.ensures.count, c.len.ensures.table.distinct)
      | inr large ↦ absurd (omega (arith, large.0, c.in-Some-eq3.field-0-test))
    ]

pub from_container-requires-clause-small : goal.from_container-requires-clause-small
from_container-requires-clause-small g c =
    let is : stages.stage c.args.lg_k 3 c.len.result ≡ Some c.in-Some.size = sym c.stage.ensures ∙ c.in-Some.is in
    elim (legal_size c.args.lg_k 3 c.len.result c.in-Some.size is) [
      | inl few ↦ omega (arith, few.0, c.from.ensures)
      | inr large ↦ omega (arith, large.1, c.requires.high, c.from.ensures)
    ]

pub from_container-requires-clause-room : goal.from_container-requires-clause-room
from_container-requires-clause-room g c =
    let is : stages.stage c.args.lg_k 3 c.len.result ≡ Some c.in-Some.size = sym c.stage.ensures ∙ c.in-Some.is in
    elim (legal_size c.args.lg_k 3 c.len.result c.in-Some.size is) [
      | inl few ↦ absurd (c.in-Some.size-test.1 few.0)
      | inr large ↦ subst (λ q. length (coupons_in c.args.table.now.buckets) ≤ 2 ^ q) (sym c.from.ensures) (omega (arith, large.2, c.len.ensures.count))
    ]

pub returns-in_ok-set-in-Some-clause-layout : goal.returns-in_ok-set-in-Some-clause-layout
returns-in_ok-set-in-Some-clause-layout g c =
    let is : stages.stage c.args.lg_k 3 c.len.result ≡ Some c.in-Some.size = sym c.stage.ensures ∙ c.in-Some.is in
    let size : c.in_ok-set-in-Some.set.lg_size ≡ c.in-Some.size = c.in_ok-set-in-Some.ensures.size ∙ c.from.ensures in
    elim (legal_size c.args.lg_k 3 c.len.result c.in-Some.size is) [
      | inl few ↦ absurd (c.in-Some.size-test.1 few.0)
      | inr large ↦ (
        omega (arith, large.0, size),
        omega (arith, large.1, size),
        subst (λ q. length (coupons_in c.in_ok-set-in-Some.set.buckets) < 2 ^ q) (sym size) (omega (arith, large.2, c.in_ok-set-in-Some.ensures.count, c.len.ensures.count)),
      )
    ]
