-- SPDX-License-Identifier: Apache-2.0
use Rattle.std.proofs.Common.{Bool, true, false, ◌≡◌, ◌+◌, ◌-◌, ◌*◌, ◌/◌, ◌<◌, ◌≤◌, ℕ, Option, None, inl, inr, length, slice_index, sym, ap, subst, ◌∙◌, arith}
use Rattle.std.specs.Bool.{OnTrue}
use Rattle.std.specs.Prelude.{max, unwrap_or}
use Rattle.std.proofs.lemmas.Bool.{cases_lt, true≢false}
use Rattle.hll_coupons.specs.AuxMap.{value_in}
use Rattle.hll_kernels.specs.Packed.{nibble_at}
use Rattle.hll_kernels.proofs.Blocks.{get_or-blocks}
use Rattle.hll_registers.proofs.FourBitReading.{nibble_at-block, nibble_at-drop, nibbles_at_most}
use Rattle.hll_registers.proofs.exception_maxima.max_by_marks.Goals as goal
use Rattle.hll_registers.proofs.exception_maxima.max_by_marks.Goals.{else-not-are_at_most-via-then-not-are_at_most+else-not-max_by_marks_at, else-not-are_at_most-via-else-not-are_at_most}

at_true : {P : Type 0} (b : Bool) → b ≡ true → OnTrue b P → P
at_true true e p = p
at_true false e p = absurd (true≢false (sym e))

on_true_weaker : {P Q : Type 0} (b : Bool) → (P → Q) → OnTrue b P → OnTrue b Q
on_true_weaker true f p = f p
on_true_weaker false f p = tt

-- taking the maximum again changes nothing
again : (now old e : ℕ) → now ≡ max old e → max now e ≡ max old e
again now old e raised = omega (arith, raised)

-- a slot without an exception keeps its value
kept : (x : ℕ) (o : Option ℕ) → o ≡ None → x ≡ max x (unwrap_or o 0)
kept x o none = subst (λ p. x ≡ max x (unwrap_or p 0)) (sym none) (omega arith)

pub max_by_marks_at-requires-clause-marked : goal.max_by_marks_at-requires-clause-marked
max_by_marks_at-requires-clause-marked g c = λ s from to other.
    let nibbles = c.args.nibbles.now in
    let index = c.loop-index.index in
    let inside : index < length nibbles / 32 = omega (arith, c.loop-index-test.true, c.as_chunks.ensures.front_len) in
    let block = get_or-blocks 32 (length nibbles / 32) nibbles c.as_chunks.result.0.now index _ c.as_chunks.ensures.front inside in
    c.requires.marked s (omega (arith, to, inside, c.requires.size)) (λ mark. other (nibble_at-block nibbles _ index s block from (omega (arith, to)) ∙ mark))

pub max_by_marks_at-requires-2-clause-marked : goal.max_by_marks_at-requires-2-clause-marked
max_by_marks_at-requires-2-clause-marked g c = λ s from to other.
    let nibbles = c.args.nibbles.now in
    let n : ℕ = length nibbles / 32 in
    let blocks : length c.as_chunks.result.0.now ≡ n = c.as_chunks.ensures.front_len in
    let low : 2 * (n * 32) ≤ s = omega (arith, from, blocks) in
    let same : s - 64 * length c.as_chunks.result.0.now ≡ s - 2 * (n * 32) = omega (arith, blocks) in
    let read : nibble_at c.as_chunks.result.1.now (s - 64 * length c.as_chunks.result.0.now) ≡ nibble_at nibbles s =
    (λ i. nibble_at (c.as_chunks.ensures.back i) (same i)) ∙ nibble_at-drop nibbles (n * 32) s low in
    c.requires.marked s (omega (arith, to, blocks, c.requires.size, c.as_chunks.ensures.back_len)) (λ mark. other (read ∙ mark))

pub loop-index-preserved : goal.loop-index-preserved
loop-index-preserved g c =
    let before = c.loop-index.invariant in
    let index = c.loop-index.index in
    let nibbles = c.args.nibbles.now in
    let exception : ℕ → ℕ = λ s. unwrap_or (value_in c.args.map.now (c.args.first + s)) 0 in
    elim c.else-not-are_at_most.branch [
      | else-not-are_at_most-via-then-not-are_at_most+else-not-max_by_marks_at w ↦
          let raised = at_true w.max_by_marks_at.result w.if-not-max_by_marks_at.false w.max_by_marks_at.ensures.raised in
          let at : (s : ℕ) → slice_index c.else-not-are_at_most.values s ≡ slice_index w.max_by_marks_at.new.values s = λ s. ap (λ vs. slice_index vs s) w.values-is in
          record {
            size = ap length w.values-is ∙ w.max_by_marks_at.ensures.len ∙ before.size;
            done = λ s l some. at s ∙ elim (cases_lt s (64 * index)) [
              | inl earlier ↦ w.max_by_marks_at.ensures.before s earlier ∙ before.done s earlier some
              | inr from ↦ raised s from (omega (arith, l)) ∙ ap (λ v. max v (exception s)) (before.left s from)
            ];
            left = λ s l. at s ∙ w.max_by_marks_at.ensures.after s (omega (arith, l)) ∙ before.left s (omega (arith, l));
          }
      | else-not-are_at_most-via-else-not-are_at_most w ↦
          let at : (s : ℕ) → slice_index c.else-not-are_at_most.values s ≡ slice_index c.loop-index.values s = λ s. ap (λ vs. slice_index vs s) w.values-is in
          let inside : index < length nibbles / 32 = omega (arith, c.loop-index-test.true, c.as_chunks.ensures.front_len) in
          let low : (s : ℕ) → 64 * index ≤ s → s < 64 * (index + 1) → nibble_at nibbles s ≤ 14 =
          nibbles_at_most nibbles _ index 14 (get_or-blocks 32 (length nibbles / 32) nibbles c.as_chunks.result.0.now index _ c.as_chunks.ensures.front inside) (omega (arith, inside))
          (sym c.are_at_most.ensures ∙ w.if-not-are_at_most.false) in
          record {
            size = ap length w.values-is ∙ before.size;
            done = λ s l some. at s ∙ elim (cases_lt s (64 * index)) [
              | inl earlier ↦ before.done s earlier some
              | inr from ↦ before.left s from ∙ kept _ (value_in c.args.map.now (c.args.first + s)) (c.requires.marked s some (λ mark. omega (arith, mark, low s from l)))
            ];
            left = λ s l. at s ∙ before.left s (omega (arith, l));
          }
    ]

pub returns-clause-raised : goal.returns-clause-raised
returns-clause-raised g c =
    let before = c.loop-index.invariant in
    let nibbles = c.args.nibbles.now in
    let all : c.loop-index.index ≡ length nibbles / 32 = omega (arith, c.loop-index-test.false, c.loop-index.auto.index-end, c.as_chunks.ensures.front_len) in
    on_true_weaker c.max_by_marks_at-2.result (λ raised s some. elim (cases_lt s (64 * c.loop-index.index)) [
      | inl earlier ↦ c.max_by_marks_at-2.ensures.before s (omega (arith, earlier, all, c.as_chunks.ensures.front_len)) ∙ before.done s earlier some
      | inr from ↦
          raised s (omega (arith, from, all, c.as_chunks.ensures.front_len)) (omega (arith, some, c.requires.size))
          ∙ ap (λ v. max v (unwrap_or (value_in c.args.map.now (c.args.first + s)) 0)) (before.left s from)
    ]) c.max_by_marks_at-2.ensures.raised

pub returns-clause-some : goal.returns-clause-some
returns-clause-some g c s some =
    let before = c.loop-index.invariant in
    let e : ℕ = unwrap_or (value_in c.args.map.now (c.args.first + s)) 0 in
    c.max_by_marks_at-2.ensures.some s ∙ elim (cases_lt s (64 * c.loop-index.index)) [
      | inl earlier ↦ again (slice_index c.loop-index.values s) (slice_index c.args.values.now s) e (before.done s earlier some)
      | inr from ↦ ap (λ v. max v e) (before.left s from)
    ]
