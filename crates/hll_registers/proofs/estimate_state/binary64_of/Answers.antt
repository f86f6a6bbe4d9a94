-- SPDX-License-Identifier: Apache-2.0
use Rattle.std.proofs.Common.{◌≡◌, ◌-◌, ◌*◌, ◌^◌, ◌<◌, ℕ, arith}
use Rattle.std.specs.Int.Count.{count_leading_zeros}
use Rattle.hll_registers.proofs.Binary64.{IsShifted, shifted_top, normal_word}
use Rattle.hll_registers.proofs.estimate_state.binary64_of.Goals as goal

top : (n : ℕ) → (n ≡ 0 → ⊥) → n < 2 ^ 53 → IsShifted n (count_leading_zeros 64 n)
top n some small = shifted_top n (omega arith) small

pub overflow_sub-up : goal.overflow_sub-up
overflow_sub-up c = (top c.args.n c.if-n-eq0.false c.requires.small).least

pub overflow_sub-fraction : goal.overflow_sub-fraction
overflow_sub-fraction c =
    let t : IsShifted c.args.n (count_leading_zeros 64 c.args.n) = top c.args.n c.if-n-eq0.false c.requires.small in
    omega (arith, t.low, t.high)

pub overflow_add-result : goal.overflow_add-result
overflow_add-result c =
    let t : IsShifted c.args.n (count_leading_zeros 64 c.args.n) = top c.args.n c.if-n-eq0.false c.requires.small in
    record { fits = omega (arith, t.low, t.high, t.least, c.from.ensures) }

pub returns : goal.returns
returns c =
    let n : ℕ = c.args.n in
    let t : IsShifted n (count_leading_zeros 64 n) = top n c.if-n-eq0.false c.requires.small in
    let f : ℕ = n * 2 ^ (count_leading_zeros 64 n - 11) - 2 ^ 52 in
    record {
      zero = λ e. absurd (c.if-n-eq0.false e);
      normal = λ p. normal_word n c.args.shift (count_leading_zeros 64 n - 11) c.from.result f _ (omega (arith, t.least, t.most, c.from.ensures, c.requires.shift)) (omega (arith, t.least, t.most, c.from.ensures, c.requires.shift)) (omega (arith, c.from.ensures)) (omega (arith, t.high)) (omega (arith, t.low)) (omega (arith, t.low, t.high, t.least, c.from.ensures));
    }
