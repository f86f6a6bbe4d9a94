-- SPDX-License-Identifier: Apache-2.0
use Rattle.std.proofs.Common.{arith, ◌≡◌, ◌<◌, ℕ, List, All, length, sym, ◌∙◌}
use Rattle.std.proofs.lemmas.Bool.{eqb-true}
use Rattle.std.proofs.Math.Pow.{pow_mono}
use Rattle.std.proofs.lemmas.List.Elements.{All-from_get_or}
use Rattle.hll_coupons.specs.Coupons.{raw_coupons}
use Rattle.hll_coupons.proofs.Merging.{length-raw_coupons}
use Rattle.hll_kernels.specs.Packed.{mark_nibbles}
use Rattle.hll_arrays.proofs.FewExceptions.{entries_agree}
use Rattle.hll_arrays.proofs.few_exceptions.agree.Goals as goal
use Rattle.hll_arrays.proofs.few_exceptions.agree.Goals.{then-count_mark_nibbles-count, else-count_mark_nibbles-count}

pub count_mark_nibbles-requires : goal.count_mark_nibbles-requires
count_mark_nibbles-requires c = omega (arith, c.requires.size, pow_mono {i = c.args.lg_k} {j = 21} c.requires.most)

pub returns-then-are_plain : goal.returns-then-are_plain
returns-then-are_plain c = λ e.
    let N : List ℕ = c.args.nibbles.now in
    let order : List ℕ = raw_coupons c.args.count c.args.entries.now in
    let fits : All (λ b. b < 256) N = All-from_get_or (λ b. b < 256) N 0 (λ i l. (c.type_inv.nibbles i).fits) in
    elim c.if-count_mark_nibbles-count.branch [
      | then-count_mark_nibbles-count w ↦
          let many : mark_nibbles N ≡ length order = sym c.count_mark_nibbles.ensures ∙ w.if-count_mark_nibbles-count.true ∙ sym (length-raw_coupons c.args.count c.args.entries.now) in
          record {
            size = c.requires.size;
            fits = fits;
            low = w.are_plain.ensures.least (sym w.value-is ∙ c.if-are_plain.true);
            some = omega (arith, c.requires.some, length-raw_coupons c.args.count c.args.entries.now);
            are_entries = c.are_exceptions.ensures.entries e;
            agree = entries_agree c.args.lg_k order c.args.minimum N c.requires.size fits (c.are_exceptions.ensures.entries e) many (w.are_plain.ensures.all (sym w.value-is ∙ c.if-are_plain.true)) (c.are_exceptions.ensures.marked e);
          }
      | else-count_mark_nibbles-count w ↦ absurd (w.if-count_mark_nibbles-count.false (eqb-true c.count_mark_nibbles.result c.args.count (sym w.value-is ∙ c.if-are_plain.true)))
    ]
