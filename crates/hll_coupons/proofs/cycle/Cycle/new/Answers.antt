-- SPDX-License-Identifier: Apache-2.0
use Rattle.std.proofs.Common.{arith, ◌≡◌, ℕ, ◌*◌, ◌^◌, ◌≤◌, ◌∙◌, List, length, sym, ap, subst}
use Rattle.std.proofs.Math.Pow.{pow_mono}
use Rattle.std.specs.Vec.{with_items}
use Rattle.std.proofs.lemmas.List.{with_items_is}
use Rattle.hll_coupons.specs.Blocks.{IsSummary}
use Rattle.hll_coupons.proofs.Cycles.{whole_blocks}
use Rattle.hll_coupons.proofs.cycle.Cycle.new.Goals as goal

pub mark_empty-requires-clause-blocks : goal.mark_empty-requires-clause-blocks
mark_empty-requires-clause-blocks g c =
    omega (arith, c.deref_mut.ensures.len, c.in_ok-empty.ensures.len, c.requires.size, whole_blocks c.args.lg_size c.requires.least)

pub returns-clause-sound : goal.returns-clause-sound
returns-clause-sound g c =
    let blocks : List ℕ = (with_items c.in_ok-empty.empty c.mark_empty.new.blocks).items in
    let bits : List ℕ = (with_items c.in_ok-summary.summary c.summarize.new.summary).items in
    let blocks_is : blocks ≡ c.mark_empty.new.blocks = with_items_is c.in_ok-empty.empty c.mark_empty.new.blocks (c.mark_empty.auto.blocks ∙ c.deref_mut.ensures.len) in
    let bits_is : bits ≡ c.summarize.new.summary = with_items_is c.in_ok-summary.summary c.summarize.new.summary (c.summarize.auto.summary ∙ c.deref_mut-2.ensures.len) in
    let few : 2 ^ c.args.lg_size ≤ 2 ^ 26 = pow_mono c.requires.small in
    record {
      least = c.requires.least;
      small = c.requires.small;
      odd = c.requires.odd;
      inverse = c.inverse_of.ensures.inverse;
      inverse_small = c.inverse_of.ensures.small;
      stride_small = c.requires.few;
      size = ap (λ w. 64 * length w) blocks_is ∙ c.mark_empty.ensures.size;
      summary = subst (λ s. IsSummary blocks s) (sym bits_is) (subst (λ w. IsSummary w c.summarize.new.summary) c.deref.ensures.value c.summarize.ensures);
      summary_small = omega (arith, few, ap length bits_is, c.summarize.auto.summary, c.deref_mut-2.ensures.len, c.in_ok-summary.ensures.len, c.len.ensures, ap length blocks_is, c.mark_empty.ensures.size);
    }
