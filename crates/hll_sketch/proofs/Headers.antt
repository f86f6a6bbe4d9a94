-- SPDX-License-Identifier: Apache-2.0
-- Lemmas on the header of an image.
use Rattle.std.proofs.Common.{◌≡◌, ℕ, zero, suc, ◌/◌, ◌%◌, ◌<◌, ◌≤◌, true, false, List, length, refl, sym, ap, subst, ◌∙◌, arith}
use Rattle.std.proofs.lemmas.Bool.{true≢false}
use Rattle.hll_sketch.specs.Image.{byte, HasHeader}
use Rattle.hll_sketch.specs.Header.{stage_of_bits, number_of_stage}

-- a test that failed shows that what it tests does not hold
pub failed_test : {P : Type 0} → (false ≡ true → P) × (P → false ≡ true) → P → ⊥
failed_test h p = true≢false (sym (h.1 p))

-- the same first bytes are the same header
pub HasHeader-same : {s : ℕ} (a b : List ℕ) → ((i : ℕ) → i < 8 → byte a i ≡ byte b i) → 8 ≤ length b → HasHeader a s → HasHeader b s
HasHeader-same a b same long h = record {
  whole = long;
  family = sym (same 2 (omega arith)) ∙ h.family;
  version = sym (same 1 (omega arith)) ∙ h.version;
  lg_k = record { low = omega (arith, same 3 (omega arith), h.lg_k.low); high = omega (arith, same 3 (omega arith), h.lg_k.high) };
  width = subst (λ n. n / 4 % 4 < 3) (same 7 (omega arith)) h.width;
  stage_is = ap (λ n. n % 4) (sym (same 7 (omega arith))) ∙ h.stage_is;
  preamble = sym (same 0 (omega arith)) ∙ h.preamble;
}

-- ---- stages and their numbers

pub number_of_stage_of_bits : (n : ℕ) → n < 3 → number_of_stage (stage_of_bits n) ≡ n
number_of_stage_of_bits zero h = refl
number_of_stage_of_bits (suc zero) h = refl
number_of_stage_of_bits (suc (suc zero)) h = refl
number_of_stage_of_bits (suc (suc (suc n))) h = absurd (omega arith)
