-- SPDX-License-Identifier: Apache-2.0
use Rattle.std.proofs.Common.{◌≡◌, ℕ, List, sym, ap, ◌∙◌}
use Rattle.hll_registers.specs.State.{cleared_state}
use Rattle.hll_registers.specs.Store.{Stored, merge_with, zero_registers}
use Rattle.hll_registers.proofs.Filling.{merge_with-zero_registers}
use Rattle.hll_arrays_tests.proofs.array16.Array16.narrowed.Goals as goal

pub returns-clause-ok : goal.returns-clause-ok
returns-clause-ok g c =
    let k : ℕ = c.self.inside.lg_k in
    let R : List ℕ = c.self.inside.registers.items in
    let filled : Stored = record { lg_k = k; registers = R; state = cleared_state } in
    let there : c.merge_from.new.dst ≡ merge_with (zero_registers k) R =
    c.merge_from.ensures ∙ (λ i. merge_with (c.in_ok-narrow.ensures.ok i) (sym c.self.view_is i).registers) in
    let is : c.merge_from.new.dst ≡ filled = there ∙ merge_with-zero_registers k R c.self.invariant.1 c.self.invariant.2.size in
    c.restore_estimate_state.ensures ∙ ap (λ (x : Stored). let y : Stored = record { lg_k = x.lg_k; registers = x.registers; state = c.self.inside.state } in y) is ∙ c.self.view_is
