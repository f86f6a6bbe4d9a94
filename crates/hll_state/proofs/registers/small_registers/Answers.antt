-- SPDX-License-Identifier: Apache-2.0
use Rattle.std.proofs.Common.{◌≡◌, ◌^◌, ◌-◌, ℕ, true, leb, length, sym, ap, subst, ◌∙◌, arith}
use Rattle.std.proofs.lemmas.Bool.{leb-true, le-leb}
use Rattle.hll_arrays.proofs.ReadingRegisters.{small-from, small-to}
use Rattle.hll_kernels.specs.Packed.{AreRegisters}
use Rattle.hll_state.proofs.Parts.{length-values-take}
use Rattle.hll_state.proofs.Values.{four_each}
use Rattle.hll_state.proofs.registers.small_registers.Goals as goal

pub returns-then-greatest_of-gt-MAX_VALUE-clause-err : goal.returns-then-greatest_of-gt-MAX_VALUE-clause-err
returns-then-greatest_of-gt-MAX_VALUE-clause-err c = (
  c.new.ensures,
  λ are.
      let same : AreRegisters c.args.lg_k c.as_bytes-registers.result.now = subst (AreRegisters c.args.lg_k) (sym c.as_bytes-registers.ensures) are in
      let small : leb c.greatest_of.result 63 ≡ true = sym (c.greatest_of.ensures 63) ∙ small-to c.as_bytes-registers.result.now same.small in
      let no : ⊥ = omega (arith, leb-true c.greatest_of.result 63 small, c.if-greatest_of-gt-MAX_VALUE.true) in no,
)

pub returns-clause-ok : goal.returns-clause-ok
returns-clause-ok c =
    let k : ℕ = c.args.lg_k in
    record {
      size = ap length c.as_bytes-registers.ensures ∙ length-values-take (2 ^ (k - 2)) c.args.elements.now c.told-elements c.requires.within ∙ four_each k c.requires.lg_k.low;
      small = small-from c.as_bytes-registers.result.now (c.greatest_of.ensures 63 ∙ le-leb c.greatest_of.result 63 c.if-greatest_of-gt-MAX_VALUE.false);
    }
