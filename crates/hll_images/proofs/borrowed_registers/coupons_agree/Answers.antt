-- SPDX-License-Identifier: Apache-2.0
use Rattle.std.proofs.Common.{◌≡◌, sym, ◌∙◌}
use lib.Pointwise.{bytes_decides}
use Rattle.hll_coupons.specs.Fold.{fold_to, raw_coupons_from}
use Rattle.hll_coupons.specs.Pair.{set_of}
use Rattle.hll_images.proofs.ImageRegisters.{same_nonzero}
use Rattle.hll_images.proofs.borrowed_registers.coupons_agree.Goals as goal

pub returns-clause-ok : goal.returns-clause-ok
returns-clause-ok g c =
    let k = c.args.lg_k in
    let P = set_of c.args.left.now.raw_coupons.items in
    let Q = set_of c.args.right.now.raw_coupons.items in
    let here : c.as_slice.result.now ≡ raw_coupons_from 0 (fold_to P k) = c.as_slice.ensures.value ∙ c.in_ok-registers.ensures.ok in
    let there : c.as_slice-2.result.now ≡ raw_coupons_from 0 (fold_to Q k) = c.as_slice-2.ensures.value ∙ c.in_ok-others.ensures.ok in
    let decides = bytes_decides c.as_slice.result.now c.as_slice-2.result.now in
    same_nonzero k P Q c.eq.result c.requires.high (λ t. sym here ∙ decides.0 (sym c.eq.ensures ∙ t) ∙ there, λ e. c.eq.ensures ∙ decides.1 (here ∙ e ∙ sym there))
