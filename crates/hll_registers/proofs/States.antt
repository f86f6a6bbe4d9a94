-- SPDX-License-Identifier: Apache-2.0
-- Lemmas on the estimate state after an update.
use Rattle.std.proofs.Common.{◌≡◌, ℕ, zero, suc, ◌^◌, ◌<◌, true, false, cond, nat_eq, List, [], ◌∷◌, All, refl, arith}
use Rattle.std.specs.Bool.{Decides}
use Rattle.std.specs.Cmp.Lexicographic.{pointwise}
use Rattle.std.proofs.lemmas.Bool.{cond-true, cond-false, false_from_ne_true}
use Rattle.std.proofs.lemmas.Bool.Decides.{Decides-eqb}
use Rattle.std.proofs.lemmas.Slice.Eq.{slice_eq-Decides}
use Rattle.hll_registers.specs.declared.estimate_state.EstimateState.{EstimateState}
use Rattle.hll_registers.specs.State.{IsState, cleared_state, state_after}

pub same_decides : (R Q : List ℕ) → Decides (pointwise nat_eq R Q) (R ≡ Q)
same_decides R Q = slice_eq-Decides Decides-eqb R Q _ refl

pub state_after-same : (R Q : List ℕ) (s : EstimateState) → R ≡ Q → state_after R Q s ≡ s
state_after-same R Q s e = cond-true (pointwise nat_eq R Q) s cleared_state ((same_decides R Q).1 e)

pub state_after-other : (R Q : List ℕ) (s : EstimateState) → (R ≡ Q → ⊥) → state_after R Q s ≡ cleared_state
state_after-other R Q s h = cond-false (pointwise nat_eq R Q) s cleared_state (false_from_ne_true _ (λ t. h ((same_decides R Q).0 t)))

pub state_after-cleared_state : (R Q : List ℕ) → state_after R Q cleared_state ≡ cleared_state
state_after-cleared_state R Q = elim (pointwise nat_eq R Q) as (λ b. cond b cleared_state cleared_state ≡ cleared_state) [ true ↦ refl | false ↦ refl ]

pub IsState-cleared : IsState cleared_state
IsState-cleared = record { three = refl; words = small }
  where
    small : All (λ w. w < 2 ^ 64) (0 ∷ 0 ∷ 0 ∷ [])
    small zero d l = omega arith
    small (suc zero) d l = omega arith
    small (suc (suc zero)) d l = omega arith
    small (suc (suc (suc i))) d l = absurd (omega (arith, l))
