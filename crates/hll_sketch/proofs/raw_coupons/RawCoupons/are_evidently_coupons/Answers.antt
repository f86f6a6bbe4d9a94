-- SPDX-License-Identifier: Apache-2.0
use Rattle.std.proofs.Common.{◌≤◌, List, ℕ, length, inl, inr, sym, ◌∙◌, arith}
use Rattle.std.proofs.lemmas.Bool.{true≢false}
use Rattle.hll_coupons.specs.Coupons.{raw_coupons}
use Rattle.hll_coupons.proofs.Merging.{length-raw_coupons}
use Rattle.hll_sketch.proofs.raw_coupons.RawCoupons.are_evidently_coupons.Goals as goal

pub returns-then-self-gt-FEW : goal.returns-then-self-gt-FEW
returns-then-self-gt-FEW c = (
  λ e. absurd (true≢false (sym e)),
  λ evident. elim evident [
    | inl up ↦ absurd (true≢false (sym (c.ascend.ensures.1 up) ∙ c.if-ascend.false))
    | inr few ↦ absurd (omega (arith, few.0, length-raw_coupons c.args.self.now.count c.args.self.now.bytes.now, c.if-self-gt-FEW.true))
  ],
)

pub returns : goal.returns
returns c =
    let ws : List ℕ = raw_coupons c.args.self.now.count c.args.self.now.bytes.now in
    let few : length ws ≤ 128 = omega (arith, length-raw_coupons c.args.self.now.count c.args.self.now.bytes.now, c.if-self-gt-FEW.false) in (
      λ e. inr (few, c.differ.ensures.0 e),
      λ evident. elim evident [
        | inl up ↦ absurd (true≢false (sym (c.ascend.ensures.1 up) ∙ c.if-ascend.false))
        | inr both ↦ c.differ.ensures.1 both.1
      ],
    )
