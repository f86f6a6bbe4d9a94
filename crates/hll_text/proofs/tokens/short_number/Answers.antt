-- SPDX-License-Identifier: Apache-2.0
use Rattle.std.proofs.Common.{arith, ◌<◌}
use Rattle.hll_text.proofs.NumberLemmas.{below_seven}
use Rattle.hll_text.proofs.tokens.short_number.Goals as goal

pub overflow_mul-value : goal.overflow_mul-value
overflow_mul-value c =
    let n : c.loop-count.count < 8 = omega (arith, c.requires, c.loop-count-test.true) in
    let small : c.loop-count.value < 10000000 = below_seven c.loop-count.value c.loop-count.count c.loop-count.invariant.small n in
    omega arith

pub overflow_add-value : goal.overflow_add-value
overflow_add-value c =
    let n : c.loop-count.count < 8 = omega (arith, c.requires, c.loop-count-test.true) in
    let small : c.loop-count.value < 10000000 = below_seven c.loop-count.value c.loop-count.count c.loop-count.invariant.small n in
    omega (arith, c.from.ensures, c.if-not-is_ascii_digit.ensures.cases)
