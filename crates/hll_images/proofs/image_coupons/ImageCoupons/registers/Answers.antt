-- SPDX-License-Identifier: Apache-2.0
use Rattle.std.proofs.Common.{replicate, ap, ◌∙◌}
use Rattle.hll_base.specs.Join.{join}
use Rattle.hll_coupons.specs.Fold.{fold_to}
use Rattle.hll_coupons.specs.Pair.{set_of}
use Rattle.hll_images.proofs.ImageRegisters.{filled_with}
use Rattle.hll_images.proofs.image_coupons.ImageCoupons.registers.Goals as goal

pub returns-clause-ok : goal.returns-clause-ok
returns-clause-ok g c =
    let k = c.args.lg_k in
    let made = c.in_ok-values.ensures in
    let raws = c.args.self.now.raw_coupons.items in
    filled_with k c.in_ok-values.values.len (set_of raws) c.in_ok-values.values.items c.max_coupons.new.registers
    (made.items_if_clones_equal (λ y clone. clone) ∙ ap (λ n. replicate n 0) c.two_to.ensures) (made.len ∙ c.two_to.ensures)
    (c.max_coupons.ensures ∙ ap (λ V. join V (fold_to (set_of c.deref.result.now) k)) c.deref_mut.ensures.value ∙ ap (λ cs. join c.in_ok-values.values.items (fold_to (set_of cs) k)) c.deref.ensures.value)
