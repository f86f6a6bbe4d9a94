-- SPDX-License-Identifier: Apache-2.0
use Rattle.std.proofs.Common.{◌++◌, sym, ap, ◌∙◌}
use Rattle.std.proofs.lemmas.List.{append-nil, drop_all}
use Rattle.hll_images.proofs.NonzeroRegisters.{firsts, nonzero, are_up}
use Rattle.hll_images.proofs.nonzero_registers.first_of_each_slot.Goals as goal

pub returns-clause-ok : goal.returns-clause-ok
returns-clause-ok g c k keys =
    sym (append-nil c.loop-key.found.items) ∙ ap (λ qs. c.loop-key.found.items ++ firsts c.loop-key.next qs) (sym (drop_all c.loop-key.key-index c.args.keys.now c.loop-key-test.false))
    ∙ c.loop-key.invariant ∙ nonzero k c.args.keys.now (are_up k c.args.keys.now c.requires (λ i l. keys i 0 l))
