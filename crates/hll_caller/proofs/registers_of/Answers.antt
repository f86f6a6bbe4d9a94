-- SPDX-License-Identifier: Apache-2.0
use Rattle.std.proofs.Common.{◌≡◌, ℕ, suc, ◌+◌, List, [], ◌∷◌, ◌++◌, take, sym, ap, ◌∙◌, arith}
use Rattle.std.proofs.Math.Seq.{take-suc}
use Rattle.hll_coupons.specs.Pair.{set_of}
use Rattle.hll_registers.specs.Store.{update_with_coupon}
use Rattle.hll_sketch.proofs.Promoting.{folded, folded-none, folded-after}
use Rattle.hll_caller.proofs.registers_of.Goals as goal

pub loop-coupon-init : goal.loop-coupon-init
loop-coupon-init g c = c.in_ok-array.ensures.ok ∙ folded-none c.args.lg_k

pub loop-coupon-preserved : goal.loop-coupon-preserved
loop-coupon-preserved g c =
    let i : ℕ = c.loop-coupon.coupon-index in
    let xs : List ℕ = c.args.coupons.now in
    let coupon : ℕ = c.coupon-item.result in
    let longer : take (i + 1) xs ≡ take i xs ++ coupon ∷ [] =
    ap (λ n. take n xs) (let next : i + 1 ≡ suc i = omega arith in next) ∙ take-suc xs i coupon c.loop-coupon-test.true ∙ ap (λ z. take i xs ++ z ∷ []) (sym c.coupon-item.is) in
    c.update.ensures ∙ ap (λ a. update_with_coupon a coupon) c.loop-coupon.invariant ∙ folded-after c.args.lg_k (take i xs) coupon
    ∙ ap (λ ys. folded c.args.lg_k (set_of ys)) (sym longer)
