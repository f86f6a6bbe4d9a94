-- SPDX-License-Identifier: Apache-2.0
use Rattle.std.proofs.Common.{length, take, drop, ap, ◌∙◌}
use Rattle.hll_base.specs.Join.{join}
use Rattle.hll_registers.specs.Store.{Stored}
use Rattle.hll_registers.proofs.nibble_slice.NibbleSliceRegisters.max_into.Goals as goal

pub returns : goal.returns
returns g c =
    let V = c.args.values.now in
    c.max_with_registers.ensures ∙ ap (λ (l : Stored). join V (take (length V) (drop c.args.first l.registers))) c.self.view_is
