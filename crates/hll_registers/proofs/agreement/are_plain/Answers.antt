-- SPDX-License-Identifier: Apache-2.0
use Rattle.std.proofs.Common.{arith, ◌-◌, ◌<◌, ◌∙◌, All, sym}
use Rattle.std.proofs.lemmas.List.Elements.{All-from_get_or}
use Rattle.std.proofs.lemmas.Bool.{true≢false}
use Rattle.hll_registers.proofs.Marked.{all_below, nibbles_below}
use Rattle.hll_registers.proofs.agreement.are_plain.Goals as goal

pub returns-then-minimum-le-MAX_VALUE-clause-all : goal.returns-then-minimum-le-MAX_VALUE-clause-all
returns-then-minimum-le-MAX_VALUE-clause-all c = λ e s l small.
    omega (arith, nibbles_below c.args.nibbles.now (63 - c.args.minimum) (sym c.all_at_most.ensures ∙ e) s l, c.if-minimum-le-MAX_VALUE.true)

pub returns-then-minimum-le-MAX_VALUE-clause-some : goal.returns-then-minimum-le-MAX_VALUE-clause-some
returns-then-minimum-le-MAX_VALUE-clause-some c = λ e each.
    let fits : All (λ b. b < 256) c.args.nibbles.now = All-from_get_or (λ b. b < 256) c.args.nibbles.now 0 (λ i l. (c.type_inv.nibbles i).fits) in
    true≢false (sym (c.all_at_most.ensures ∙ all_below c.args.nibbles.now (63 - c.args.minimum) fits (λ s l. omega (arith, each s l, c.if-minimum-le-MAX_VALUE.true))) ∙ e)
