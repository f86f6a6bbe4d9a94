-- SPDX-License-Identifier: Apache-2.0
use Rattle.std.proofs.Common.{◌≡◌, ℕ, ◌/◌, ◌^◌, ◌∷◌, [], List, take, get_or, sym, ap, ◌∙◌, arith}
use Rattle.std.proofs.lemmas.List.{take_more, take_all}
use Rattle.hll_base.specs.Join.{join}
use Rattle.hll_coupons.specs.Fold.{fold_to}
use Rattle.hll_coupons.specs.Pair.{set_of, slot_of, pair}
use Rattle.hll_sketch.proofs.MaxBytes.{joined-nil, max_later}
use Rattle.hll_images.proofs.image_coupons.max_coupons.Goals as goal

pub loop-raw-init : goal.loop-raw-init
loop-raw-init c = joined-nil c.args.registers.now c.args.lg_k c.requires.size

pub loop-raw-preserved : goal.loop-raw-preserved
loop-raw-preserved c =
    let k : ℕ = c.args.lg_k in
    let raws : List ℕ = c.args.raw_coupons.now in
    let i : ℕ = c.loop-raw.raw-index in
    let raw : ℕ = get_or raws i 0 in
    let coupon : c.pack.result ≡ raw = c.pack.ensures ∙ (let e : pair (slot_of raw) (raw / 2 ^ 26) ≡ raw = omega arith in e) in
    c.max_coupon.ensures ∙ ap (λ n. join c.loop-raw.registers (fold_to (set_of (n ∷ [])) k)) coupon
    ∙ max_later c.args.registers.now c.loop-raw.registers (take i raws) raw k c.loop-raw.invariant
    ∙ ap (λ cs. join c.args.registers.now (fold_to (set_of cs) k)) (sym (take_more raws i 0 c.loop-raw-test.true))

pub returns : goal.returns
returns c = c.loop-raw.invariant ∙ ap (λ cs. join c.args.registers.now (fold_to (set_of cs) c.args.lg_k)) (take_all c.loop-raw.raw-index c.args.raw_coupons.now c.loop-raw-test.false)
