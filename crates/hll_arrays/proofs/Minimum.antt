-- SPDX-License-Identifier: Apache-2.0
-- The minimum over a run of updates.
use Rattle.std.proofs.Common.{◌≡◌, ℕ, ◌^◌, ◌≤◌, List, [], ◌∷◌, ◌++◌, length, get_or, sym, subst, ◌∙◌, arith}
use Rattle.std.specs.Prelude.{fold}
use Rattle.std.proofs.lemmas.List.{length-replicate, get_or-replicate}
use Rattle.std.proofs.lemmas.List.Sums.{fold-append}
use Rattle.std.proofs.lemmas.Nat.{pow_pos}
use Rattle.hll_coupons.specs.Fold.{fold_to}
use Rattle.hll_base.specs.Join.{join}
use Rattle.hll_coupons.specs.Pair.{set_of}
use Rattle.hll_coupons.proofs.Folds.{length-fold_to}
use Rattle.hll_base.proofs.Joins.{length-join, get_or-join}
use Rattle.hll_registers.specs.FourBits.{MinimumNeverFalls}
use Rattle.hll_kernels.specs.Packed.{minimum}
use Rattle.hll_registers.specs.Store.{Stored, zero_registers, update_with_coupon}
use Rattle.hll_registers.proofs.FourBits.{minimum_ge, minimum_most}
use Rattle.hll_registers.proofs.Packing.{minimum_le}

-- the minimum of a maximum is not smaller
minimum_of_join : (R Q : List ℕ) → length R ≡ length Q → minimum R ≤ minimum (join R Q)
minimum_of_join R Q e = minimum_ge (minimum R) 63 (join R Q) (minimum_most R) (λ s l. omega (arith, get_or-join R Q s, minimum_le R s (omega (arith, l, length-join R Q e))))

size_after : (x : Stored) (c : ℕ) → length x.registers ≡ 2 ^ x.lg_k → length (update_with_coupon x c).registers ≡ 2 ^ x.lg_k
size_after x c e = length-join x.registers (fold_to (set_of (c ∷ [])) x.lg_k) (e ∙ sym (length-fold_to (set_of (c ∷ [])) x.lg_k)) ∙ e

never_falls : (cs : List ℕ) (x : Stored) → length x.registers ≡ 2 ^ x.lg_k → minimum x.registers ≤ minimum (fold update_with_coupon x cs).registers
never_falls [] x e = omega arith
never_falls (c ∷ cs) x e =
    omega (
      arith,
      minimum_of_join x.registers (fold_to (set_of (c ∷ [])) x.lg_k) (e ∙ sym (length-fold_to (set_of (c ∷ [])) x.lg_k)),
      never_falls cs (update_with_coupon x c) (size_after x c e),
    )

size_of_run : (cs : List ℕ) (x : Stored) → length x.registers ≡ 2 ^ x.lg_k → length (fold update_with_coupon x cs).registers ≡ 2 ^ (fold update_with_coupon x cs).lg_k
size_of_run [] x e = e
size_of_run (c ∷ cs) x e = size_of_run cs (update_with_coupon x c) (size_after x c e)

pub minimum_rises : MinimumNeverFalls
minimum_rises k coupons more =
    let x : Stored = zero_registers k in
    let size : length x.registers ≡ 2 ^ k = length-replicate {A = ℕ} (2 ^ k) 0 in
    let y : Stored = fold update_with_coupon x coupons in
    let whole : fold update_with_coupon x (coupons ++ more) ≡ fold update_with_coupon y more = fold-append update_with_coupon x coupons more in
    record {
      starts = let low : minimum x.registers ≤ get_or x.registers 0 0 = minimum_le x.registers 0 (omega (arith, size, pow_pos k)) in omega (arith, low, get_or-replicate {A = ℕ} (2 ^ k) 0 0 0 (pow_pos k));
      never_falls = subst (λ (z : Stored). minimum y.registers ≤ minimum z.registers) (sym whole) (never_falls more y (size_of_run coupons x size));
      most = minimum_most (fold update_with_coupon x (coupons ++ more)).registers;
    }
