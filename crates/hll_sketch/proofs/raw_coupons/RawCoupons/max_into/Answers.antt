-- SPDX-License-Identifier: Apache-2.0
use Rattle.std.proofs.Common.{◌≡◌, ℕ, ◌-◌, ◌/◌, ◌^◌, ◌∷◌, [], List, length, sym, ap, ◌∙◌, arith}
use Rattle.std.proofs.lemmas.List.{length-drop}
use Rattle.hll_base.specs.Join.{join}
use Rattle.hll_coupons.specs.Coupons.{raw_coupons}
use Rattle.hll_coupons.specs.Fold.{fold_to}
use Rattle.hll_coupons.specs.Pair.{set_of, slot_of, pair}
use Rattle.hll_sketch.proofs.BorrowedCoupons.{next_raw_coupon}
use Rattle.hll_sketch.proofs.MaxBytes.{joined-nil, joined-more}
use Rattle.hll_sketch.proofs.raw_coupons.RawCoupons.max_into.Goals as goal
use Rattle.hll_sketch.proofs.raw_coupons.RawCoupons.max_into.Goals.{in-Ok, in_default}

pub loop-preserved : goal.loop-preserved
loop-preserved c =
    let so = c.loop.invariant in
    let k : ℕ = c.args.lg_k in
    elim c.match-read_u32_le.branch [
      | in-Ok w ↦
          let read = w.in-Ok.ensures.ok in
          let raw_coupon : ℕ = w.in-Ok.raw_coupon in
          let left : ℕ = so.0 - 1 in
          let after : List ℕ = raw_coupons left c.read_u32_le.new.self in
          let coupon : w.pack.result ≡ raw_coupon = w.pack.ensures ∙ (let e : pair (slot_of raw_coupon) (raw_coupon / 2 ^ 26) ≡ raw_coupon = omega arith in e) in
          let next : raw_coupons so.0 c.loop.cursor ≡ raw_coupon ∷ after =
          next_raw_coupon so.0 c.loop.counter _ c.loop.cursor so.1 c.loop-test.true ∙ (λ i. sym read.1 i ∷ raw_coupons left (sym read.2 i)) in
          let raised : c.match-read_u32_le.registers ≡ join c.loop.registers (fold_to (set_of (raw_coupon ∷ [])) k) =
          w.registers-is ∙ w.max_coupon.ensures ∙ ap (λ n. join c.loop.registers (fold_to (set_of (n ∷ [])) k)) coupon in (
            left,
            omega (arith, so.1, c.loop-test.true),
            omega (arith, so.2, ap length read.2, length-drop 4 c.loop.cursor),
            joined-more c.loop.registers c.match-read_u32_le.registers raw_coupon after k raised ∙ ap (λ ws. join c.loop.registers (fold_to (set_of ws) k)) (sym next) ∙ so.3,
          )
      | in_default w ↦ absurd (omega (arith, so.1, so.2, c.loop-test.true, w.in_default.ensures.err.1))
    ]

pub returns : goal.returns
returns c =
    let so = c.loop.invariant in
    let k : ℕ = c.args.lg_k in
    let none : so.0 ≡ 0 = omega (arith, so.1, c.loop-test.false, c.loop.auto.counter-end) in
    joined-nil c.loop.registers k (c.loop.auto.registers ∙ c.requires.size) ∙ ap (λ n. join c.loop.registers (fold_to (set_of (raw_coupons n c.loop.cursor)) k)) (sym none) ∙ so.3
