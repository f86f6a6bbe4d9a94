-- SPDX-License-Identifier: Apache-2.0
use Rattle.std.proofs.Common.{◌≡◌, ◌^◌, ◌<◌, ◌≤◌, ◌∙◌, ℕ, zero, suc, List, length, get_or, replicate, arith, ap, sym}
use Rattle.std.proofs.lemmas.List.{length-replicate, take_all}
use Rattle.hll_base.specs.Join.{join}
use Rattle.hll_coupons.specs.Fold.{fold_to, pairs}
use Rattle.hll_coupons.proofs.Folds.{length-fold_to}
use Rattle.hll_coupons.proofs.Registers.{fold_to-pairs-fold_to}
use Rattle.hll_kernels.proofs.SixBitLanes.{join_zeros}
use Rattle.hll_kernels.specs.Packed.{AreRegisters}
use Rattle.hll_registers.specs.Store.{Stored}
use Rattle.hll_registers.proofs.folds.max_by_stages.Goals as goal

zeros_are : (k n : ℕ) → n ≡ 2 ^ k → AreRegisters k (replicate n 0)
zeros_are k n size = record {
  size = length-replicate {A = ℕ} n 0 ∙ size;
  small = below n;
}
  where
    below : (m i d : ℕ) → i < length (replicate {A = ℕ} m 0) → get_or (replicate {A = ℕ} m 0) i d ≤ 63
    below zero i d l = absurd (omega (arith, l))
    below (suc m) zero d l = omega arith
    below (suc m) (suc i) d l = below m i d (omega (arith, l))

-- a fold of the fold to 2^k registers
through : (e k n : ℕ) (R parts : List ℕ) → n ≡ 2 ^ k → e ≤ k → k ≤ 21 → parts ≡ join (replicate n 0) (fold_to (pairs R) k) → fold_to (pairs parts) e ≡ fold_to (pairs R) e
through e k n R parts size low high is =
    let fold : List ℕ = fold_to (pairs R) k in
    let long : length fold ≡ n = length-fold_to (pairs R) k ∙ sym size in
    let whole : parts ≡ fold = is ∙ ap (λ zs. join zs fold) (sym (take_all n (replicate n 0) (omega (arith, length-replicate {A = ℕ} n 0)))) ∙ join_zeros n n fold (omega arith) long in
    ap (λ ps. fold_to (pairs ps) e) whole ∙ fold_to-pairs-fold_to (pairs R) k e low high

pub new-requires-clause-registers : goal.new-requires-clause-registers
new-requires-clause-registers g c = c.max_blocks.ensures.registers (zeros_are 14 16384 (omega arith))

pub returns-clause-joined : goal.returns-clause-joined
returns-clause-joined g c =
    let x : Stored = g.R.Registers.stored c.args.src.now in
    c.max_blocks-2.ensures.joined
    ∙ ap (λ (l : Stored). join c.args.values.now (fold_to (pairs l.registers) c.args.lg_k)) c.new.ensures
    ∙ ap (join c.args.values.now) (through c.args.lg_k 14 16384 x.registers c.max_blocks.new.values (omega arith) c.requires.below (omega arith) c.max_blocks.ensures.joined)
