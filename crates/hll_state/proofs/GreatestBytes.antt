-- SPDX-License-Identifier: Apache-2.0
-- The greatest of bytes, in lanes.
use Rattle.std.proofs.Common.{◌≡◌, ℕ, zero, suc, Bool, true, false, cond, List, [], ◌∷◌, length, replicate, refl, ap, ◌∙◌, arith}
use Rattle.std.proofs.lemmas.Bool.{le-leb}
use Rattle.std.specs.Prelude.{◌&&◌, nat_le, nat_lt}
use Rattle.std.specs.Simd.Lanes.{zip2, sel_l, top}
use Rattle.hll_kernels.proofs.Parts.{greater}
use mathlib.Core.List.{map}
use Rattle.hll_base.specs.Join.{join}
use Rattle.hll_kernels.proofs.Bounds.{are_within, max_within}

regrouped : (p q r s : Bool) → ((p && q) && (r && s)) ≡ ((p && r) && (q && s))
regrouped true true r s = refl
regrouped true false true s = refl
regrouped true false false s = refl
regrouped false q r s = refl

-- the greater of each two bytes is within a bound if both are
pub within_join : (bound : ℕ) (R Q : List ℕ) → length R ≡ length Q → are_within bound (join R Q) ≡ (are_within bound R && are_within bound Q)
within_join bound [] [] e = refl
within_join bound [] (q ∷ Q) e = absurd (omega (arith, e))
within_join bound (r ∷ R) [] e = absurd (omega (arith, e))
within_join bound (r ∷ R) (q ∷ Q) e = (λ i. max_within r q bound i && within_join bound R Q (omega (arith, e)) i) ∙ regrouped (nat_le r bound) (nat_le q bound) (are_within bound R) (are_within bound Q)

pub within_zeros : (bound n : ℕ) → are_within bound (replicate {A = ℕ} n 0) ≡ true
within_zeros bound zero = refl
within_zeros bound (suc n) = ap (λ b. b && are_within bound (replicate {A = ℕ} n 0)) (le-leb 0 bound (omega arith)) ∙ within_zeros bound n

-- the greater of each two lanes
pub greater_lanes : (R Q : List ℕ) → length R ≡ length Q → sel_l (map (top 7) (zip2 (λ a b. cond (nat_lt a b) 255 0) R Q)) Q R ≡ join R Q
greater_lanes [] [] e = refl
greater_lanes [] (q ∷ Q) e = absurd (omega (arith, e))
greater_lanes (r ∷ R) [] e = absurd (omega (arith, e))
greater_lanes (r ∷ R) (q ∷ Q) e = λ i. greater r q i ∷ greater_lanes R Q (omega (arith, e)) i
