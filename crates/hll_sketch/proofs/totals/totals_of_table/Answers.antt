-- SPDX-License-Identifier: Apache-2.0
use Rattle.std.proofs.Common.{sym, ap, ◌∙◌}
use Rattle.std.proofs.lemmas.Bool.{true≢false}
use Rattle.hll_coupons.specs.Table.{coupons_of}
use Rattle.hll_sketch.specs.Value.{coupons}
use Rattle.hll_sketch.proofs.totals.totals_of_table.Goals as goal

pub unreachable-requires : goal.unreachable-requires
unreachable-requires g c = absurd (true≢false (sym c.in-None.ensures.none ∙ c.requires))

pub returns : goal.returns
returns g c =
    let held = coupons_of c.in-Some.table.now in
    record {
      pairs = held;
      content = c.in-Some.ensures.some ∙ ap (coupons held) (sym c.lg_size.ensures.size);
      number = c.len.ensures.table.distinct ∙ sym c.len.ensures.count;
    }
