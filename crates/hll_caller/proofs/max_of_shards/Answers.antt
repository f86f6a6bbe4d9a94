-- SPDX-License-Identifier: Apache-2.0
use Rattle.std.proofs.Common.{ap, sym, ◌∙◌, arith}
use Rattle.hll_coupons.specs.Pair.{Pairs, set_of}
use Rattle.hll_coupons.specs.Fold.{fold_to, pairs}
use Rattle.hll_base.specs.Join.{join}
use Rattle.hll_coupons.proofs.Folds.{fold_to-union}
use Rattle.hll_coupons.proofs.Registers.{fold_to-pairs-fold_to}
use Rattle.hll_registers.specs.Store.{Stored}
use Rattle.hll_caller.proofs.max_of_shards.Goals as goal

pub returns-clause-ok : goal.returns-clause-ok
returns-clause-ok g c =
    let k = c.args.lg_k in
    let P : Pairs = set_of c.args.here.now in
    let Q : Pairs = set_of c.args.there.now in
    let here = c.in_ok-joined.ensures.ok in
    let there = c.in_ok-other.ensures.ok in
    ap (λ (x : Stored). x.registers) c.merge_from.ensures
    ∙ ap (λ (x : Stored). join x.registers (fold_to (pairs c.in_ok-other.other.registers) x.lg_k)) here
    ∙ ap (λ (x : Stored). join (fold_to P k) (fold_to (pairs x.registers) k)) there
    ∙ ap (join (fold_to P k)) (fold_to-pairs-fold_to Q k k (omega arith) c.requires.most)
    ∙ sym (fold_to-union P Q k)
