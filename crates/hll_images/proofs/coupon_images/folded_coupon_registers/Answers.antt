-- SPDX-License-Identifier: Apache-2.0
use Rattle.std.proofs.Common.{◌≡◌, ℕ, ◌<◌, false, List, Option, Some, None, replicate, refl, ap, sym, ◌∙◌, arith}
use Rattle.std.specs.Option.{is_some}
use Rattle.std.proofs.lemmas.List.Elements.{All-from_get_or}
use Rattle.hll_base.specs.Join.{join}
use Rattle.hll_coupons.specs.Coupons.{raw_coupons}
use Rattle.hll_coupons.specs.Fold.{fold_to}
use Rattle.hll_coupons.specs.Pair.{set_of}
use Rattle.hll_coupons.proofs.Merging.{length-raw_coupons}
use Rattle.hll_sketch.specs.Stage.{stage}
use Rattle.hll_images.specs.declared.coupon_images.OrderedImage.{OrderedImage}
use Rattle.hll_images.proofs.CouponImages.{registers_folded}
use Rattle.hll_images.proofs.ImageRegisters.{filled_with}
use Rattle.hll_images.proofs.coupon_images.folded_coupon_registers.Goals as goal

none_of : {X : Type 0} (o : Option X) → is_some o ≡ false → o ≡ None
none_of (Some x) e = absurd (cc)
none_of None e = refl

pub returns-clause-some : goal.returns-clause-some
returns-clause-some g c =
    let a : OrderedImage = c.in-Some.ordered in
    let of = c.in-Some.ensures.some in
    let k : ℕ = c.args.lg_k in
    let xs : List ℕ = raw_coupons a.raw_coupons.count a.raw_coupons.bytes.now in
    let number = length-raw_coupons a.raw_coupons.count a.raw_coupons.bytes.now in
    let made = c.in_ok-values.ensures in
    let are = filled_with k c.in_ok-values.values.len (set_of xs) c.in_ok-values.values.items c.max_into.new.registers
    (made.items_if_clones_equal (λ y clone. clone) ∙ ap (λ n. replicate n 0) c.two_to.ensures) (made.len ∙ c.two_to.ensures)
    (c.max_into.ensures ∙ ap (λ V. join V (fold_to (set_of xs) k)) c.deref_mut.ensures.value) in
    registers_folded a.lg_k a.lg_size c.args.image.now xs of k a.hll_type _ (All-from_get_or (λ n. n < 256) c.args.image.now 0 (λ i within. omega (arith, c.type_inv.image i)))
    (c.in-Some.ensures.width of.sketch of.read) c.requires (omega (arith, c.if-ordered-lg_k.false))
    (ap (stage k 3) number ∙ sym c.stage.ensures ∙ none_of c.stage.result (sym c.is_some.ensures ∙ c.if-is_some.false)) are
