-- SPDX-License-Identifier: Apache-2.0
use Rattle.std.proofs.Common.{ap, sym, ◌∙◌}
use Rattle.hll_coupons.specs.Table.{coupons_in}
use Rattle.hll_sketch.specs.Collected.{with_coupons}
use Rattle.hll_sketch.specs.Layout.{sketch_of}
use Rattle.hll_sketch.specs.Union.{gadget_of}
use Rattle.hll_sketch.proofs.Collected.{merged_collected}
use Rattle.hll_sketch.proofs.union.HllUnion.collect.Goals as goal

pub returns-in_ok-extend_from_table-in-Some-clause-merged : goal.returns-in_ok-extend_from_table-in-Some-clause-merged
returns-in_ok-extend_from_table-in-Some-clause-merged g c _ =
    let gadget = gadget_of c.args.self.now in
    ap (with_coupons gadget) c.in_ok-extend_from_table-in-Some.ensures.ok
    ∙ merged_collected c.args.self.now.lg_max_k gadget c.coupons-own.ensures.gadget c.coupons-own.ensures.legal c.requires.outside c.requires.some (sketch_of c.args.sketch.now)
    c.args.batch.now (coupons_in c.in-Some.table.now.buckets) _ c.len.ensures.pairs c.in-Some.ensures.some (sym c.is_empty.ensures ∙ c.if-is_empty.false)
