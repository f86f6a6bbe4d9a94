-- SPDX-License-Identifier: Apache-2.0
use Rattle.std.proofs.Common.{◌≡◌, ◌≤◌, sym, ap, ◌∙◌, arith}
use Rattle.std.specs.FinSet.{len, union}
use Rattle.std.specs.Option.{unwrap_or}
use Rattle.std.proofs.lemmas.Bool.{le-leb}
use Rattle.hll_coupons.specs.Table.{coupons_in, coupons_of}
use Rattle.hll_sketch.specs.Union.{coupons_kept}
use Rattle.hll_coupons.proofs.Collecting.{len-union_most, len-union_none}
use Rattle.hll_sketch.proofs.Merges.{kept_count}
use Rattle.hll_sketch.proofs.sketch.HllSketch.are_at_most.Goals as goal

pub returns-then-both-most : goal.returns-then-both-most
returns-then-both-most g c =
    let kept : c.unwrap_or.result ≡ len (coupons_kept c.args.self.now.layout) =
    c.unwrap_or.ensures ∙ ap (λ o. unwrap_or o 0) c.num_coupons.ensures ∙ kept_count c.args.self.now.layout ∙ len-union_none (coupons_kept c.args.self.now.layout) in
    let most : len (union (coupons_kept c.args.self.now.layout) (coupons_of c.args.table.now)) ≤ c.args.most =
    omega (arith, len-union_most (coupons_kept c.args.self.now.layout) (coupons_in c.args.table.now.buckets), kept, c.len.ensures.count, c.if-both-most.true) in
    le-leb _ c.args.most c.if-both-most.true ∙ sym (le-leb _ c.args.most most)
