-- SPDX-License-Identifier: Apache-2.0
-- Lemmas on counts of zeros in lanes.
use Rattle.std.proofs.Common.{◌≡◌, ℕ, ◌+◌, ◌*◌, ◌≤◌, ◌==◌, List, ◌++◌, length, cond, Fits, w8, ap, sym, subst, arith}
use Rattle.std.specs.Simd.Lanes.{sum_l, zip2, Each1, Each2}
use Rattle.std.proofs.lemmas.List.{length-append}
use Rattle.std.proofs.lemmas.List.Sums.{sum_by-append}
use Rattle.std.proofs.lemmas.Simd.{Each1-zip2, Each2-of, length-zip2, sum-zip2}
use Rattle.hll_kernels.specs.declared.kernels.RunningZeros.{RunningZeros}
use Rattle.hll_kernels.specs.Packed.{zeros}
use Rattle.hll_kernels.specs.ZeroCounts.{AreRunningZeros}

-- one more block, with a 1 for each zero
module _ (s : RunningZeros) (R xs ones : List ℕ) (are : AreRunningZeros s R) (small : Each1 (λ n. n ≤ 1) ones) where
  pub counts_fit : length R + 64 ≤ 8192 → Each2 (λ a b. Fits w8 (a + b)) s.counts ones
  counts_fit few = Each2-of (λ n. 64 * n ≤ length R) (λ n. n ≤ 1) (λ a b. Fits w8 (a + b)) (λ a b m n. record { fits = omega (arith, m, n, few) }) s.counts ones are.small small

  pub AreRunningZeros-append : (t : RunningZeros) → t.counts ≡ zip2 (λ a b. a + b) s.counts ones → length xs ≡ 64 → sum_l ones ≡ zeros xs → length ones ≡ 64 → AreRunningZeros t (R ++ xs)
  AreRunningZeros-append t is long count lanes = record {
    count = omega (arith, ap sum_l is, sum-zip2 s.counts ones (omega (arith, are.lanes, lanes)), are.count, count, sum_by-append (λ v. cond (v == 0) 1 0) R xs);
    lanes = omega (arith, ap length is, length-zip2 (λ a b. a + b) s.counts ones (omega (arith, are.lanes, lanes)), are.lanes);
    small = subst (Each1 (λ n. 64 * n ≤ length (R ++ xs))) (sym is) (Each1-zip2 (λ a b. a + b) (λ n. 64 * n ≤ length (R ++ xs)) s.counts ones
        (Each2-of (λ n. 64 * n ≤ length R) (λ n. n ≤ 1) (λ a b. 64 * (a + b) ≤ length (R ++ xs)) (λ a b m n. omega (arith, m, n, length-append R xs, long)) s.counts ones are.small small));
  }
