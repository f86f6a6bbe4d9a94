-- SPDX-License-Identifier: Apache-2.0
use Rattle.std.proofs.Common.{◌≡◌, ℕ, ◌≤◌, ◌%◌, ◌<◌, refl, sym, ◌∙◌, arith}
use Rattle.std.proofs.lemmas.Bool.{true≢false}
use Rattle.hll_coupons.specs.Coupons.{raw_coupons}
use Rattle.hll_coupons.specs.Pair.{set_of, value_of}
use Rattle.hll_coupons.proofs.Members.{member_unless_lacking}
use Rattle.hll_sketch.proofs.Differing.{differ_none, differ_more, differ_without, differ_twice}
use Rattle.hll_sketch.proofs.raw_coupons.RawCoupons.differ.Goals as goal
use Rattle.hll_sketch.proofs.raw_coupons.RawCoupons.differ.Goals.{then-raw_coupon-le-LAST_WITHOUT_VALUE-via-then-raw_coupon-le-LAST_WITHOUT_VALUE, then-raw_coupon-le-LAST_WITHOUT_VALUE-via-else-raw_coupon-le-LAST_WITHOUT_VALUE+then-not-is_new}

pub loop-index-init : goal.loop-index-init
loop-index-init c = differ_none c.args.self.now.count 1024 c.args.self.now.bytes.now c.new-cursor.result _ c.new-cursor.ensures c.args.self.now.there refl

pub returns-then-raw_coupon-le-LAST_WITHOUT_VALUE : goal.returns-then-raw_coupon-le-LAST_WITHOUT_VALUE
returns-then-raw_coupon-le-LAST_WITHOUT_VALUE c =
    let read = c.in-Ok.ensures.ok in
    let w : ℕ = c.in-Ok.raw_coupon in (
      λ e. absurd (true≢false (sym e)),
      λ has. absurd (elim c.then-raw_coupon-le-LAST_WITHOUT_VALUE.branch [
        | then-raw_coupon-le-LAST_WITHOUT_VALUE-via-then-raw_coupon-le-LAST_WITHOUT_VALUE v ↦
            differ_without c.loop-index.index c.args.self.now.count 1024 c.args.self.now.bytes.now c.loop-index.cursor c.loop-index.marks
            c.loop-index.invariant c.loop-index-test.true w c.read_u32_le.new.self read.1 read.2
            (let none : value_of w ≡ 0 = omega (arith, v.if-raw_coupon-le-LAST_WITHOUT_VALUE.true) in none) has
        | then-raw_coupon-le-LAST_WITHOUT_VALUE-via-else-raw_coupon-le-LAST_WITHOUT_VALUE+then-not-is_new v ↦
            differ_twice c.loop-index.index c.args.self.now.count 1024 c.args.self.now.bytes.now c.loop-index.cursor c.loop-index.marks
            c.loop-index.invariant c.loop-index-test.true w c.read_u32_le.new.self read.1 read.2
            (member_unless_lacking (set_of (raw_coupons c.loop-index.index c.args.self.now.bytes.now)) w
            (λ none. true≢false (sym (v.is_new.ensures.1 none) ∙ v.if-not-is_new.true))) has
      ]),
    )

pub loop-index-preserved : goal.loop-index-preserved
loop-index-preserved c =
    let read = c.in-Ok.ensures.ok in
    let w : ℕ = c.in-Ok.raw_coupon in
    let valued : 1 ≤ value_of w = omega (arith, c.if-raw_coupon-le-LAST_WITHOUT_VALUE.false) in
    let within : w % 1024 < 1024 = omega arith in
    differ_more c.loop-index.index c.args.self.now.count 1024 c.args.self.now.bytes.now c.loop-index.cursor c.loop-index.marks c.loop-index.invariant
    c.loop-index-test.true w c.read_u32_le.new.self read.1 read.2 valued (c.is_new.ensures.0 c.if-not-is_new.false) within
