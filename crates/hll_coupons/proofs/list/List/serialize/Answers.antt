-- SPDX-License-Identifier: Apache-2.0
use Rattle.std.proofs.Common.{subst}
use Rattle.std.proofs.lemmas.Result.{IfOk-weaker}
use Rattle.hll_coupons.specs.Coupons.{WritesAscending, list_bytes, list_header}
use Rattle.hll_coupons.specs.Table.{Table, coupons_of}
use Rattle.hll_coupons.proofs.Ascending.{written_after}
use Rattle.hll_coupons.proofs.list.List.serialize.Goals as goal

pub returns-clause-ok : goal.returns-clause-ok
returns-clause-ok g c =
    IfOk-weaker c.image.result _ _
    (λ image w.
    subst (λ (t : Table). WritesAscending (list_bytes c.args.lg_config_k c.args.hll_type) (coupons_of t) image.items) c.self.view_is
    (written_after (list_header c.args.lg_config_k c.args.hll_type) _ _ _ _ c.len-count.ensures.table c.len-count.ensures.count c.list_header.ensures w))
    c.image.ensures.ok
