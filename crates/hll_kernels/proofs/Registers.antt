-- SPDX-License-Identifier: Apache-2.0
-- Lemmas on the maximum of registers, and on the least register.
use Rattle.std.proofs.Common.{◌≡◌, ℕ, ◌+◌, ◌<◌, ◌≤◌, zero, suc, List, [], ◌∷◌, length, take, get_or, All, refl, ap, ◌∙◌, arith}
use Rattle.std.specs.Prelude.{min, max, fold}
use Rattle.std.proofs.lemmas.List.Elements.{All-from_get_or}
use Rattle.hll_base.specs.Join.{join}
use Rattle.hll_base.proofs.Joins.{length-join, get_or-join}
use Rattle.hll_kernels.specs.Packed.{AreRegisters}

-- a maximum with registers is registers
pub AreRegisters-join : (k : ℕ) (R Q J : List ℕ) → AreRegisters k R → length R ≡ length Q → All (λ v. v ≤ 63) Q → J ≡ join R Q → AreRegisters k J
AreRegisters-join k R Q J are same small is = record {
  size = ap length is ∙ length-join R Q same ∙ are.size;
  small = All-from_get_or (λ v. v ≤ 63) J 0 (λ i h.
      let in_join : i < length R = omega (arith, ap length is, length-join R Q same) in
      let left : get_or R i 0 ≤ 63 = are.small i 0 in_join in
      let right : get_or Q i 0 ≤ 63 = small i 0 (omega arith) in
      let here : get_or J i 0 ≡ max (get_or R i 0) (get_or Q i 0) = ap (λ J. get_or J i 0) is ∙ get_or-join R Q i in
      omega arith);
}

-- the least after one more register
pub fold_more : (a i : ℕ) (xs : List ℕ) → i < length xs → fold min a (take (i + 1) xs) ≡ min (fold min a (take i xs)) (get_or xs i 0)
fold_more a i [] h = absurd (omega arith)
fold_more a zero (x ∷ xs) h = refl
fold_more a (suc i) (x ∷ xs) h = ap (λ n. fold min a (take n (x ∷ xs))) (let e : suc i + 1 ≡ suc (i + 1) = omega arith in e) ∙ fold_more (min a x) i xs (omega (arith, h))
