-- SPDX-License-Identifier: Apache-2.0
use Rattle.std.proofs.Common.{ℕ, List, ◌≡◌, sym, ap, subst, set, length, ◌∙◌}
use Rattle.std.specs.Vec.{with_items}
use Rattle.std.proofs.lemmas.List.{with_items_is}
use Rattle.hll_coupons.specs.Blocks.{bit_of}
use Rattle.hll_coupons.specs.Cycle.{IsEmptyMap}
use Rattle.hll_coupons.proofs.Cycles.{filled}
use Rattle.hll_coupons.proofs.cycle.Cycle.fill.Goals as goal

pub returns-clause-fills : goal.returns-clause-fills
returns-clause-fills g c buckets entry size some shows =
    let lg : ℕ = c.args.self.now.lg_size in
    let stride : ℕ = c.args.self.now.stride in
    let old : List ℕ = c.args.self.now.empty.items in
    let new : List ℕ = c.take.new.blocks in
    let steps : ℕ = c.wrapped-steps.result in
    let is : c.deref_mut.result.now ≡ old = c.deref_mut.ensures.value in
    let items : (with_items c.args.self.now.empty new).items ≡ new = with_items_is c.args.self.now.empty new (c.take.auto.blocks ∙ c.deref_mut.ensures.len) in
    subst (λ w. IsEmptyMap lg stride (set buckets c.args.bucket entry) w) (sym items)
    (filled lg stride c.args.self.now.inverse c.args.bucket steps old new c.requires.within c.requires.sound.odd c.requires.sound.inverse c.wrapped-steps.ensures
    (c.take.auto.blocks ∙ ap length is) c.take.ensures.same (λ j o. c.take.ensures.others j o ∙ ap (λ w. bit_of w j) is)
    buckets entry size some shows)
