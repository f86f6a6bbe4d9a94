-- SPDX-License-Identifier: Apache-2.0
use Rattle.std.proofs.Common.{not, sym, ap, ◌∙◌}
use Rattle.std.proofs.lemmas.Bool.{true≢false}
use Rattle.hll_sketch.proofs.SizedImages.{faulty_set}
use Rattle.hll_sketch.proofs.raw_coupons.few_are_faulty.Goals as goal

pub returns-then-coupons-le-FEW : goal.returns-then-coupons-le-FEW
returns-then-coupons-le-FEW c = λ faulty.
    let found = c.in-Some.ensures in
    faulty_set c.args.bytes.now _ c.requires.has found.sized found.compact found.raw_coupons (λ are. true≢false (sym (ap not (sym (c.differ.ensures.1 are)) ∙ faulty)))
