-- SPDX-License-Identifier: Apache-2.0
use Rattle.std.proofs.Common.{◌≡◌, ◌∙◌, ap, ℕ, List}
use Rattle.hll_coupons.specs.Fold.{fold_to, pairs}
use Rattle.hll_coupons.proofs.Registers.{fold_to-pairs}
use Rattle.hll_registers.specs.State.{cleared_state}
use Rattle.hll_registers.specs.Store.{Stored, IsStored}
use Rattle.hll_registers.specs.declared.estimate_state.EstimateState.{EstimateState}
use Rattle.hll_sketch.proofs.register_folds.eight_bits_of.Goals as goal

-- registers are their own fold
is_same : (x made folded : Stored) (k : ℕ) (s : EstimateState) → made ≡ record folded { state = s } → folded ≡ record { lg_k = k; registers = fold_to (pairs x.registers) k; state = cleared_state } → k ≡ x.lg_k → s ≡ x.state → IsStored x → made ≡ x
is_same x made folded k s made_is folded_is k_is s_is legal =
    made_is
    ∙ ap (λ (a : Stored). record a { state = s }) folded_is
    ∙ (λ i. record { lg_k = k_is i; registers = fold_to (pairs x.registers) (k_is i); state = s_is i })
    ∙ ap (λ (R : List ℕ). record { lg_k = x.lg_k; registers = R; state = x.state }) (fold_to-pairs x.registers x.lg_k legal.high legal.registers.size)

pub returns-clause-ok : goal.returns-clause-ok
returns-clause-ok g c = is_same (g.R.Registers.stored c.args.source.now) c.restore_estimate_state.new.self c.in_ok-made.made c.lg_k.result c.estimate_state.result
    c.restore_estimate_state.ensures c.in_ok-made.ensures.ok c.lg_k.ensures.lg_k c.estimate_state.ensures c.lg_k.ensures.legal
