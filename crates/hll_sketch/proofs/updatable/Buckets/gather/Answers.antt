-- SPDX-License-Identifier: Apache-2.0
use Rattle.std.proofs.Common.{◌≡◌, ℕ, zero, suc, ◌+◌, ◌<◌, ◌≤◌, ◌⊎◌, inl, inr, refl, ap, ◌∙◌, arith, nat_eq}
use Rattle.std.proofs.Math.Bool.{not}
use mir.Val.{bool_byte}
use Rattle.std.proofs.lemmas.Bool.{ne_eqb}
use Rattle.hll_coupons.specs.Coupons.{raw_coupons}
use Rattle.hll_sketch.proofs.Gathering.{counted, gathered_more}
use Rattle.hll_sketch.proofs.updatable.Buckets.gather.Goals as goal
use Rattle.hll_sketch.proofs.updatable.Buckets.gather.Goals.{then-count-lt-FEW, else-count-lt-FEW}

-- a raw coupon is counted if it is not 0
counts : (w extra : ℕ) → extra ≡ bool_byte (not (nat_eq w 0)) → ((w ≡ 0) × (extra ≡ 0)) ⊎ ((0 < w) × (extra ≡ 1))
counts zero extra is = inl (refl, is)
counts (suc n) extra is = inr (omega arith, is ∙ ap (λ b. bool_byte (not b)) (ne_eqb (suc n) 0 (λ e. omega (arith, e))))

pub overflow_add-count : goal.overflow_add-count
overflow_add-count c =
    let read = c.in-Ok.ensures.ok in
    let few : c.loop.count ≤ c.loop.counter =
    counted c.loop.counter c.args.self.now.raw_coupons.count c.loop.count c.args.self.now.raw_coupons.bytes.now c.loop.cursor c.loop.room c.loop.invariant c.loop-test.true c.in-Ok.raw_coupon c.read_u32_le.new.self c.loop.room read.1 read.2 in
    elim (counts c.in-Ok.raw_coupon c.from-count.result c.from-count.ensures) [
      | inl none ↦ omega (arith, none.1, c.loop.auto.count-fits)
      | inr one ↦ omega (arith, one.1, few, c.loop-test.true)
    ]

pub loop-preserved : goal.loop-preserved
loop-preserved c =
    let read = c.in-Ok.ensures.ok in
    let extra = counts c.in-Ok.raw_coupon c.from-count.result c.from-count.ensures in
    elim c.if-count-lt-FEW.branch [
      | then-count-lt-FEW w ↦
          gathered_more c.loop.counter c.args.self.now.raw_coupons.count c.loop.count c.args.self.now.raw_coupons.bytes.now c.loop.cursor c.loop.room c.loop.invariant c.loop-test.true c.in-Ok.raw_coupon c.read_u32_le.new.self
          c.if-count-lt-FEW.room read.1 read.2 c.from-count.result extra c.if-count-lt-FEW.array_long
          (λ _. ap (raw_coupons c.loop.count) w.room-is ∙ w.put.ensures.kept) (λ _. ap (raw_coupons (c.loop.count + 1)) w.room-is ∙ w.put.ensures.put)
      | else-count-lt-FEW w ↦
          gathered_more c.loop.counter c.args.self.now.raw_coupons.count c.loop.count c.args.self.now.raw_coupons.bytes.now c.loop.cursor c.loop.room c.loop.invariant c.loop-test.true c.in-Ok.raw_coupon c.read_u32_le.new.self
          c.if-count-lt-FEW.room read.1 read.2 c.from-count.result extra c.if-count-lt-FEW.array_long
          (λ _. ap (raw_coupons c.loop.count) w.room-is) (λ few. absurd (omega (arith, few, w.if-count-lt-FEW.false)))
    ]
