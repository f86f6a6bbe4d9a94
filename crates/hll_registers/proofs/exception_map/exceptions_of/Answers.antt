-- SPDX-License-Identifier: Apache-2.0
use Rattle.std.proofs.Common.{◌≡◌, ◌*◌, ◌/◌, ◌<◌, ℕ, inl, inr, length, sym, ap, subst, ◌∙◌, arith}
use Rattle.std.proofs.lemmas.Bool.{cases_lt}
use Rattle.hll_registers.specs.FourBits.{exception_in, IsMapFor}
use Rattle.hll_kernels.proofs.Blocks.{get_or-blocks}
use Rattle.hll_registers.proofs.FourBitReading.{no_exception_in_block}
use Rattle.hll_registers.proofs.exception_map.exceptions_of.Goals as goal
use Rattle.hll_registers.proofs.exception_map.exceptions_of.Goals.{then-not-are_below+in_ok-put_exceptions_of, else-not-are_below}

pub loop-index-preserved : goal.loop-index-preserved
loop-index-preserved g c =
    let before = c.loop-index.invariant in
    let index = c.loop-index.index in
    let values = c.args.values.now in
    elim c.if-not-are_below.branch [
      | then-not-are_below+in_ok-put_exceptions_of w ↦
          let put = w.in_ok-put_exceptions_of.ensures in
          let at : (s : ℕ) → exception_in c.if-not-are_below.map s ≡ exception_in w.put_exceptions_of.new.map s = λ s. ap (λ m. exception_in m s) w.map-is in
          record {
            map = subst (λ o. IsMapFor c.args.lg_k o) (sym w.map-is) put.map;
            done = λ s l. at s ∙ elim (cases_lt s (64 * index)) [
              | inl earlier ↦ put.before s earlier ∙ before.done s earlier
              | inr from ↦ put.put s from (omega (arith, l))
            ];
            left = λ s l. at s ∙ put.after s (omega (arith, l));
          }
      | else-not-are_below w ↦
          let at : (s : ℕ) → exception_in c.if-not-are_below.map s ≡ exception_in c.loop-index.map s = λ s. ap (λ m. exception_in m s) w.map-is in
          let inside : index < length values / 64 = omega (arith, c.loop-index-test.true, c.as_chunks.ensures.front_len) in
          record {
            map = subst (λ o. IsMapFor c.args.lg_k o) (sym w.map-is) before.map;
            done = λ s l. at s ∙ elim (cases_lt s (64 * index)) [
              | inl earlier ↦ before.done s earlier
              | inr from ↦ before.left s from ∙ sym (no_exception_in_block c.args.minimum values _ index
                  (get_or-blocks 64 (length values / 64) values c.as_chunks.result.0.now index _ c.as_chunks.ensures.front inside) (omega (arith, inside))
                  (sym c.are_below.ensures ∙ w.if-not-are_below.false) s from l)
            ];
            left = λ s l. at s ∙ before.left s (omega (arith, l));
          }
    ]
