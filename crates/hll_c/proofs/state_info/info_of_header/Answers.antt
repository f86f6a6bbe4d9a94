-- SPDX-License-Identifier: Apache-2.0
use Rattle.std.proofs.Common.{◌≡◌, ℕ, Bool, true, false, refl, sym, ap, ◌∙◌}
use Rattle.std.proofs.lemmas.Bool.{cond-true, cond-false}
use mir.Val.{bool_byte}
use Rattle.hll_state.specs.Header.{has_registers}
use Rattle.hll_c.specs.Calls.{bit}
use Rattle.hll_c.proofs.state_info.info_of_header.Goals.{then-has_registers, else-has_registers}
use Rattle.hll_c.proofs.state_info.info_of_header.Goals as goal

-- a flag as a number
bit_is : (b c : Bool) (n : ℕ) → n ≡ bool_byte b → b ≡ c → n ≡ bit c
bit_is true c n is same = is ∙ ap bit same
bit_is false c n is same = is ∙ ap bit same

pub returns-clause-says : goal.returns-clause-says
returns-clause-says c = λ body within. record {
  size = c.bytes_of.ensures;
  lg_k = refl;
  width = c.width_of_widths.ensures;
  stage = elim c.if-has_registers.branch [
    | then-has_registers w ↦ w.result-is ∙ sym (cond-true (has_registers c.args.header.held) 2 1 (sym c.has_registers.ensures ∙ w.if-has_registers.true))
    | else-has_registers w ↦ w.result-is ∙ sym (cond-false (has_registers c.args.header.held) 2 1 (sym c.has_registers.ensures ∙ w.if-has_registers.false))
  ];
  unused = bit_is c.is_empty.result _ c.from.result c.from.ensures c.is_empty.ensures.is;
  empty = λ some. bit_is c.is_empty.result _ c.from.result c.from.ensures (c.is_empty.ensures.empty body within some);
}
