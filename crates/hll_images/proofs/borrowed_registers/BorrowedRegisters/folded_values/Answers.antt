-- SPDX-License-Identifier: Apache-2.0
use Rattle.std.proofs.Common.{sym, ap, ◌∙◌}
use Rattle.std.proofs.lemmas.Result.{IfOk-weaker}
use Rattle.hll_coupons.specs.Fold.{fold_to}
use Rattle.hll_coupons.specs.Pair.{set_of}
use Rattle.hll_images.specs.BorrowedRegisters.{lg_k_of, values_of}
use Rattle.hll_images.proofs.ImageRegisters.{folded_again}
use Rattle.hll_images.proofs.borrowed_registers.BorrowedRegisters.folded_values.Goals as goal

pub returns-in-OfCoupons-clause-ok : goal.returns-in-OfCoupons-clause-ok
returns-in-OfCoupons-clause-ok g c =
    let x = c.args.self.now in
    let source = c.in-OfCoupons.source in
    let is = ap values_of c.in-OfCoupons.is ∙ ap (fold_to (set_of source.raw_coupons.items)) (sym (ap lg_k_of c.in-OfCoupons.is)) in
    IfOk-weaker c.registers.result _ _ (λ values are. are ∙ sym (folded_again (set_of source.raw_coupons.items) (lg_k_of x) c.args.lg_k (values_of x) c.requires.within c.requires.whole.lg_k.high is)) c.registers.ensures.ok
