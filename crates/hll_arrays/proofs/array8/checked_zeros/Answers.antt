-- SPDX-License-Identifier: Apache-2.0
use Rattle.std.proofs.Common.{sym, ◌∙◌, arith}
use Rattle.std.proofs.lemmas.Bool.{le-leb, lt-leb}
use Rattle.hll_arrays.proofs.array8.checked_zeros.Goals.{in-Join+else-are_registers, in-Count+else-greatest-le-MAX_VALUE}
use Rattle.hll_arrays.proofs.array8.checked_zeros.Goals as goal

pub returns-then-greatest-le-MAX_VALUE-clause-small : goal.returns-then-greatest-le-MAX_VALUE-clause-small
returns-then-greatest-le-MAX_VALUE-clause-small c = c.zeros_and_greatest-zeros.ensures.greatest 63 ∙ le-leb c.zeros_and_greatest-zeros.result.1 63 (omega (arith, c.if-greatest-le-MAX_VALUE.true))

pub returns-clause-err : goal.returns-clause-err
returns-clause-err c = (
  c.new.ensures,
  elim c.match-later.branch [
    | in-Join+else-are_registers w ↦ sym w.are_registers.ensures ∙ w.if-are_registers.false
    | in-Count+else-greatest-le-MAX_VALUE w ↦ w.zeros_and_greatest-zeros.ensures.greatest 63 ∙ lt-leb w.zeros_and_greatest-zeros.result.1 63 (omega (arith, w.if-greatest-le-MAX_VALUE.false))
  ],
)
