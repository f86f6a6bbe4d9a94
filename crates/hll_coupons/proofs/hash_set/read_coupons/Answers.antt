-- SPDX-License-Identifier: Apache-2.0
use Rattle.std.proofs.Common.{arith, ℕ, ◌≡◌, ◌∙◌, ◌++◌, ◌∷◌, [], inr, true, sym, ap, subst}
use Rattle.std.proofs.lemmas.Bool.{true≢false}
use Rattle.hll_coupons.specs.Coupons.{AreCoupons}
use Rattle.hll_coupons.specs.Pair.{value_of}
use Rattle.hll_coupons.proofs.Reading.{no_value}
use Rattle.hll_coupons.proofs.SetReading.{copied_none, copied_over, copied_raw_coupon, copied_more, copied_all}
use Rattle.hll_coupons.proofs.hash_set.read_coupons.Goals as goal
use Rattle.hll_coupons.proofs.hash_set.read_coupons.Goals.{else-is_empty-via-then-is_empty+else-not-compact, else-is_empty-via-else-is_empty}

pub loop-init : goal.loop-init
loop-init g c = copied_none c.args.compact c.args.buckets _ c.args.cursor c.in_ok-coupons.ensures.items c.requires

pub loop-preserved-then-not-compact : goal.loop-preserved-then-not-compact
loop-preserved-then-not-compact g c =
    let raw_coupon = c.in_ok-read_u32_le.ensures.ok in
    copied_over c.args.compact c.args.buckets c.loop.counter _ _ c.loop.cursor c.loop.invariant c.loop-test.true c.in_ok-read_u32_le.field-0 c.read_u32_le.new.self raw_coupon.1 raw_coupon.2
    (sym c.from_raw-coupon.ensures ∙ c.is_empty.ensures.0 c.if-is_empty.true) c.if-not-compact.true

pub returns-then-value-eq0-clause-err : goal.returns-then-value-eq0-clause-err
returns-then-value-eq0-clause-err g c =
    let raw_coupon = c.in_ok-read_u32_le.ensures.ok in
    let w : ℕ = c.in_ok-read_u32_le.field-0 in
    let filled : w ≡ 0 → c.args.compact ≡ true = λ z. elim c.else-is_empty.branch [
      | else-is_empty-via-then-is_empty+else-not-compact v ↦ v.if-not-compact.false
      | else-is_empty-via-else-is_empty v ↦ absurd (true≢false (sym (c.is_empty.ensures.1 (c.from_raw-coupon.ensures ∙ z)) ∙ v.if-is_empty.false))
    ] in
    let all = copied_raw_coupon c.args.compact c.args.buckets c.loop.counter _ _ c.loop.cursor c.loop.invariant c.loop-test.true w c.read_u32_le.new.self raw_coupon.1 raw_coupon.2 filled in
    inr (c.new.ensures, λ are. no_value c.loop.coupons.items _ w (ap value_of (sym c.from_raw-coupon.ensures) ∙ sym c.value.ensures.value ∙ c.if-value-eq0.true) (subst AreCoupons all are))

pub loop-preserved : goal.loop-preserved
loop-preserved g c =
    let raw_coupon = c.in_ok-read_u32_le.ensures.ok in
    let w : ℕ = c.in_ok-read_u32_le.field-0 in
    let filled : w ≡ 0 → c.args.compact ≡ true = λ z. elim c.else-is_empty.branch [
      | else-is_empty-via-then-is_empty+else-not-compact v ↦ v.if-not-compact.false
      | else-is_empty-via-else-is_empty v ↦ absurd (true≢false (sym (c.is_empty.ensures.1 (c.from_raw-coupon.ensures ∙ z)) ∙ v.if-is_empty.false))
    ] in
    copied_more c.args.compact c.args.buckets c.loop.counter _ _ c.loop.cursor c.loop.invariant c.loop-test.true w c.read_u32_le.new.self raw_coupon.1 raw_coupon.2 filled
    (record {
      valued = omega (arith, c.if-value-eq0.false, c.value.ensures.value, ap value_of c.from_raw-coupon.ensures);
      small = omega (arith, c.value.ensures.value, c.value.ensures.small, ap value_of c.from_raw-coupon.ensures);
    }) c.push.new.self.items
    (c.in_ok-push.ensures.items ∙ ap (λ x. c.loop.coupons.items ++ x ∷ []) c.from_raw-coupon.ensures)

pub returns-clause-ok : goal.returns-clause-ok
returns-clause-ok g c = copied_all c.args.compact c.args.buckets c.loop.counter _ _ c.loop.cursor c.loop.invariant c.loop-test.false

pub returns-clause-few : goal.returns-clause-few
returns-clause-few g c = omega (arith, c.loop.invariant.few)
