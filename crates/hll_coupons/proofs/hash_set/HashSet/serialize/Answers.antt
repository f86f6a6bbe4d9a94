-- SPDX-License-Identifier: Apache-2.0
use Rattle.std.specs.Int.{w32, to_le_bytes}
use Rattle.std.proofs.Common.{◌≡◌, ◌++◌, ◌∙◌, ap, subst}
use Rattle.std.proofs.lemmas.Result.{IfOk-weaker}
use Rattle.hll_coupons.specs.Coupons.{WritesAscending, set_bytes, set_header}
use Rattle.hll_coupons.specs.Table.{Table, coupons_of}
use Rattle.hll_coupons.proofs.Ascending.{written_after}
use Rattle.hll_coupons.proofs.hash_set.HashSet.serialize.Goals as goal

pub returns-clause-ok : goal.returns-clause-ok
returns-clause-ok g c =
    let k = c.args.lg_config_k in
    let width = c.args.hll_type in
    let size : c.lg_size-lg_size.result ≡ c.args.self.now.lg_size = c.lg_size-lg_size.ensures.size ∙ ap (λ (t : Table). t.lg_size) c.self.view_is in
    let header = c.set_header.ensures ∙ ap (λ n. set_header k width n ++ to_le_bytes w32 c.len-count.result) size in
    IfOk-weaker c.image.result _ _
    (λ image w.
    subst (λ (t : Table). WritesAscending (set_bytes k width c.args.self.now.lg_size) (coupons_of t) image.items) c.self.view_is
    (written_after (λ n. set_header k width c.args.self.now.lg_size ++ to_le_bytes w32 n) _ _ _ _ c.len-count.ensures.table c.len-count.ensures.count header w))
    c.image.ensures.ok
