-- SPDX-License-Identifier: Apache-2.0
use Rattle.std.proofs.Common.{◌≡◌, min, sym, ap, ◌∙◌, arith}
use Rattle.std.proofs.lemmas.Result.{IfOk-weaker}
use Rattle.hll_coupons.specs.Fold.{fold_to}
use Rattle.hll_coupons.specs.Pair.{set_of}
use Rattle.hll_images.specs.BorrowedRegisters.{lg_k_of, values_of}
use Rattle.hll_images.proofs.ImageRegisters.{same_at_own, folded_again}
use Rattle.hll_images.proofs.borrowed_registers.BorrowedRegisters.agrees_with.Goals as goal

pub returns-in-Some-clause-ok : goal.returns-in-Some-clause-ok
returns-in-Some-clause-ok g c =
    let found = c.in-Some.ensures.some in
    same_at_own (lg_k_of c.args.self) (lg_k_of c.args.other) (values_of c.args.self) (values_of c.args.other) c.in-Some.same
    c.requires.left.lg_k.high c.requires.left.size c.requires.right.size found.0 found.1

pub returns-clause-ok : goal.returns-clause-ok
returns-clause-ok g c =
    let x = c.args.self in
    let y = c.args.other in
    let e = min (lg_k_of x) (lg_k_of y) in
    let at : c.min-lg_k.result ≡ e = omega (arith, c.min-lg_k.ensures, c.lg_k.ensures, c.lg_k-2.ensures) in
    let left = c.in-Some-coupons.left.now in
    let right = c.in-Some-coupons-2.right.now in
    let here = folded_again (set_of left.raw_coupons.items) (lg_k_of x) e (values_of x) (omega arith) c.requires.left.lg_k.high c.in-Some-coupons.ensures.values in
    let there = folded_again (set_of right.raw_coupons.items) (lg_k_of y) e (values_of y) (omega arith) c.requires.right.lg_k.high c.in-Some-coupons-2.ensures.values in
    let own = ap (fold_to (set_of left.raw_coupons.items)) at in
    let others = ap (fold_to (set_of right.raw_coupons.items)) at in
    IfOk-weaker c.coupons_agree.result _ _ (λ same test. (λ t. here ∙ sym own ∙ test.0 t ∙ others ∙ sym there, λ equal. test.1 (own ∙ sym here ∙ equal ∙ there ∙ sym others))) c.coupons_agree.ensures.ok
