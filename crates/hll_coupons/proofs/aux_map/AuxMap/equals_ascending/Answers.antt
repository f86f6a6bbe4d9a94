-- SPDX-License-Identifier: Apache-2.0
use Rattle.std.proofs.Common.{◌≡◌, ℕ, List, length, map, sym, ap, ◌∙◌}
use Rattle.std.specs.FinSet.{len}
use Rattle.std.specs.Int.{w32, from_le_bytes}
use Rattle.std.proofs.lemmas.List.{length-map}
use Rattle.hll_coupons.specs.AuxMap.{ExceptionMap}
use Rattle.hll_coupons.specs.Table.{coupons_of}
use Rattle.hll_coupons.proofs.ListedEntries.{listed}
use Rattle.hll_coupons.proofs.aux_map.AuxMap.equals_ascending.Goals as goal

pub returns : goal.returns
returns g c each =
    let order : List ℕ = map (from_le_bytes w32) c.args.coupons.now in
    let many : length order ≡ len (coupons_of c.args.self.now.table) =
    length-map c.args.coupons.now (from_le_bytes w32) ∙ c.if-coupons-len.false ∙ c.len.ensures.count ∙ sym c.self.invariant.table.distinct ∙ ap (λ (m : ExceptionMap). len (coupons_of m.table)) c.self.view_is in
    listed order (coupons_of c.args.self.now.table) (c.ascends.ensures.0 c.if-not-ascends.false) many (c.has_each.ensures each)
