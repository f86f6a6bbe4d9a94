-- SPDX-License-Identifier: Apache-2.0
-- Lemmas on registers that are read into zeros.
use Rattle.std.proofs.Common.{◌≡◌, ℕ, ◌+◌, ◌^◌, ◌≤◌, ◌++◌, List, All, length, take, drop, replicate, sym, ap, subst, ◌∙◌, arith}
use Rattle.std.proofs.lemmas.List.{length-drop, length-replicate, length-take-le, take_at}
use Rattle.std.proofs.lemmas.List.Elements.{All-drop, All-take}
use Rattle.hll_base.specs.Join.{join}
use Rattle.hll_kernels.proofs.SixBitLanes.{join_zeros}
use Rattle.hll_kernels.specs.Packed.{AreRegisters}

-- the first n of m zeros after the maximum with the registers from a slot on
module _ (k m first n : ℕ) (R W rest : List ℕ) (legal : AreRegisters k R) (within : first + n ≤ 2 ^ k) (few : n ≤ m)
    (is : W ≡ join (take n (replicate {A = ℕ} m 0)) (take (length (take n (replicate {A = ℕ} m 0))) (drop first R))) where
  -- are these registers
  pub take-raised_zeros : take n (W ++ rest) ≡ take n (drop first R)
  take-raised_zeros =
      let after : List ℕ = drop first R in
      let zeros : List ℕ = take n (replicate {A = ℕ} m 0) in
      let many : n ≤ length after = omega (arith, length-drop first R, within, legal.size) in
      let long : length (take n after) ≡ n = length-take-le n after many in
      let borrowed : length zeros ≡ n = length-take-le n (replicate {A = ℕ} m 0) (omega (arith, few, length-replicate {A = ℕ} m 0)) in
      let registers : W ≡ take n after = is ∙ (λ i. join zeros (take (borrowed i) after)) ∙ join_zeros m n (take n after) few long in
      take_at W rest n (ap length registers ∙ long) ∙ registers

  pub small-raised_zeros : All (λ v. v ≤ 63) (take n (W ++ rest))
  small-raised_zeros =
      subst (All (λ v. v ≤ 63)) (sym take-raised_zeros) (All-take (λ v. v ≤ 63) n (drop first R) (All-drop (λ v. v ≤ 63) first R legal.small))
