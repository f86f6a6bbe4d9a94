-- SPDX-License-Identifier: Apache-2.0
-- What each check tests, and what holds for the first that fails.
use Rattle.std.proofs.Common.{arith, ◌≡◌, ◌⊎◌, ℕ, ◌+◌, ◌^◌, ◌<◌, ◌≤◌, Bool, true, false, cond, eqb, leb, ltb, ◌&&◌, ◌||◌, List, ◌++◌, length, drop, All, Option, Some, None, refl, sym, ap, ◌∙◌}
use Rattle.std.specs.Bool.{Decides, beq}
use Rattle.std.specs.Prelude.{IsTrue, ◌↔◌}
use Rattle.std.specs.List.{list_all}
use Rattle.std.specs.FinSet.{len}
use Rattle.std.proofs.lemmas.Bool.{true≢false, leb-true, le-leb, cond-false, false_from_ne_true}
use Rattle.std.proofs.lemmas.Bool.Decides.{Decides-eqb, Decides-ltb, Decides-and, Decides-or, Decides-like, Decides-by_and, Decides-below_and}
use Rattle.hll_base.specs.declared.error.Reason.{Reason}
use Rattle.hll_coupons.specs.AuxMap.{entry_at}
use Rattle.hll_coupons.specs.Coupons.{AreCoupons}
use Rattle.hll_coupons.specs.Pair.{set_of, value_of}
use Rattle.hll_coupons.specs.Payload.{HasListCount}
use Rattle.hll_kernels.specs.Packed.{nibble_at}
use Rattle.hll_registers.specs.Payload.{Agrees, AreEntries, AllAgree, num_at_cur_min, exception_count, nibbles_of, entries_of}
use Rattle.hll_sketch.specs.Image.{byte, lg_k_byte, table_byte, state_byte, preamble_byte, preamble_words, stage_bits, width_bits, is_flagged, list_shape, hll4_shape, HasLgK, HasHeader, HasSetTable}
use Rattle.hll_sketch.specs.Checks.{Check, first_failing, header_checks, are_coupons, are_entries, agrees, all_below}

-- ---- one check

module _ {P : Type 0} (t : Bool) (s : Reason) (o : Option Reason) (d : Decides t P) where
  pub passed : P → cond t o (Some s) ≡ o
  passed p = ap (λ t. cond t o (Some s)) (d.1 p)

  pub failed : (P → ⊥) → cond t o (Some s) ≡ Some s
  failed n = cond-false t o (Some s) (false_from_ne_true t (λ e. n (d.0 e)))

-- what holds after a check, by whether it passes
pub decide : {P : Type 0} (R : Option Reason → Type 0) (t : Bool) (s : Reason) (o : Option Reason) → Decides t P → ((P → ⊥) → R (Some s)) → (P → R o) → R (cond t o (Some s))
decide R true s o d fail pass = pass (d.0 refl)
decide R false s o d fail pass = fail (λ p. true≢false (sym (d.1 p)))

-- ---- tests

pub Decides-leb : (a b : ℕ) → Decides (leb a b) (a ≤ b)
Decides-leb a b = (leb-true a b, le-leb a b)

pub Decides-lg_k : (b : List ℕ) → Decides (leb 4 (lg_k_byte b) && leb (lg_k_byte b) 21) (HasLgK b)
Decides-lg_k b = Decides-like _ (λ p. record { low = p.0; high = p.1 }) (λ h. (h.low, h.high)) (Decides-and (leb 4 (lg_k_byte b)) (leb (lg_k_byte b) 21) (Decides-leb 4 (lg_k_byte b)) (Decides-leb (lg_k_byte b) 21))

same_truth : (x y : Bool) {P : Type 0} → Decides y P → Decides (beq x y) (IsTrue x ↔ P)
same_truth true true d = (λ e. d, λ h. refl)
same_truth true false d = (λ e. absurd (true≢false (sym e)), λ h. d.1 (h.0 refl))
same_truth false true d = (λ e. absurd (true≢false (sym e)), λ h. h.1 (d.0 refl))
same_truth false false d = (λ e. d, λ h. refl)

pub Decides-list_count : (b : List ℕ) → Decides (leb (state_byte b) 8 && beq (is_flagged 4 b) (eqb (state_byte b) 0)) (HasListCount (list_shape b))
Decides-list_count b = Decides-like _ (λ p. record { low = p.0; flag = p.1 }) (λ h. (h.low, h.flag))
    (Decides-and (leb (state_byte b) 8) (beq (is_flagged 4 b) (eqb (state_byte b) 0)) (Decides-leb (state_byte b) 8) (same_truth (is_flagged 4 b) (eqb (state_byte b) 0) (Decides-eqb (state_byte b) 0)))

pub Decides-set_table : (b : List ℕ) → Decides (leb 5 (table_byte b) && leb (table_byte b + 3) (lg_k_byte b)) (HasSetTable b)
Decides-set_table b = Decides-like _ (λ p. record { low = p.0; high = p.1 }) (λ h. (h.low, h.high))
    (Decides-and (leb 5 (table_byte b)) (leb (table_byte b + 3) (lg_k_byte b)) (Decides-leb 5 (table_byte b)) (Decides-leb (table_byte b + 3) (lg_k_byte b)))

Decides-valued : (cs : List ℕ) → Decides (list_all (λ c. leb 1 (value_of c)) cs) (All (λ c. 1 ≤ value_of c) cs)
Decides-valued = Decides-by_and (λ c. leb 1 (value_of c)) (λ c. 1 ≤ value_of c) (list_all (λ c. leb 1 (value_of c))) (λ c. Decides-leb 1 (value_of c)) refl (λ _ _. refl)

pub Decides-coupons : (cs : List ℕ) → Decides (are_coupons cs) (AreCoupons cs)
Decides-coupons cs = Decides-like _ (λ p. record { valued = p.0; distinct = p.1 }) (λ h. (h.valued, h.distinct))
    (Decides-and _ _ (Decides-valued cs) (Decides-eqb (len (set_of cs)) (length cs)))

pub Decides-entries : (k : ℕ) (cs : List ℕ) → Decides (are_entries k cs) (AreEntries k cs)
Decides-entries k cs = Decides-like _ (λ p. record { valued = p.0; distinct = p.1 }) (λ h. (h.valued, h.distinct))
    (Decides-and _ _ (Decides-valued cs) (Decides-eqb _ (length cs)))

pub Decides-agrees : (m n : ℕ) (v : Option ℕ) → Decides (agrees m n v) (Agrees m n v)
Decides-agrees m n None = Decides-and (ltb n 15) (leb (m + n) 63) (Decides-ltb n 15) (Decides-leb (m + n) 63)
Decides-agrees m n (Some v) = Decides-and (eqb n 15) (leb (m + 15) v) (Decides-eqb n 15) (Decides-leb (m + 15) v)

pub Decides-below : (test : ℕ → Bool) (P : ℕ → Type 0) → ((s : ℕ) → Decides (test s) (P s)) → (n : ℕ) → Decides (all_below test n) ((s : ℕ) → s < n → P s)
Decides-below test P each = Decides-below_and test P (all_below test) each refl (λ _. refl)

pub Decides-small : (xs : List ℕ) → Decides (list_all (λ v. leb v 63) xs) (All (λ v. v ≤ 63) xs)
Decides-small = Decides-by_and (λ v. leb v 63) (λ v. v ≤ 63) (list_all (λ v. leb v 63)) (λ v. Decides-leb v 63) refl (λ _ _. refl)

pub Decides-plain : (b : List ℕ) → Decides (leb (num_at_cur_min (drop 8 b)) (2 ^ lg_k_byte b) && eqb (exception_count (drop 8 b)) 0) ((num_at_cur_min (drop 8 b) ≤ 2 ^ lg_k_byte b) × (exception_count (drop 8 b) ≡ 0))
Decides-plain b = Decides-and _ _ (Decides-leb (num_at_cur_min (drop 8 b)) (2 ^ lg_k_byte b)) (Decides-eqb (exception_count (drop 8 b)) 0)

pub Decides-counts : (b : List ℕ) → Decides (leb (num_at_cur_min (drop 8 b)) (2 ^ lg_k_byte b) && leb (exception_count (drop 8 b)) (2 ^ lg_k_byte b)) ((num_at_cur_min (drop 8 b) ≤ 2 ^ lg_k_byte b) × (exception_count (drop 8 b) ≤ 2 ^ lg_k_byte b))
Decides-counts b = Decides-and _ _ (Decides-leb (num_at_cur_min (drop 8 b)) (2 ^ lg_k_byte b)) (Decides-leb (exception_count (drop 8 b)) (2 ^ lg_k_byte b))

pub Decides-table : (b : List ℕ) → Decides (is_flagged 8 b || (eqb (exception_count (drop 8 b)) 0 || leb (table_byte b) 26)) ((is_flagged 8 b ≡ true) ⊎ ((exception_count (drop 8 b) ≡ 0) ⊎ (table_byte b ≤ 26)))
Decides-table b = Decides-or _ _ (λ e. e, λ e. e) (Decides-or _ _ (Decides-eqb (exception_count (drop 8 b)) 0) (Decides-leb (table_byte b) 26))

pub Decides-all_agree : (b : List ℕ) → let h = hll4_shape b in
    Decides (all_below (λ s. agrees h.minimum (nibble_at (nibbles_of h (drop 8 b)) s) (entry_at h.lg_k (entries_of h (drop 8 b)) s)) (2 ^ h.lg_k)) (AllAgree h (drop 8 b))
Decides-all_agree b = let h = hll4_shape b in Decides-below _ _ (λ s. Decides-agrees h.minimum (nibble_at (nibbles_of h (drop 8 b)) s) (entry_at h.lg_k (entries_of h (drop 8 b)) s)) (2 ^ h.lg_k)

-- ---- the header

-- the checks of a header that passes them are followed by those after it
pub header_passed : (b : List ℕ) (stage : ℕ) (cs : List Check) → stage < 3 → HasHeader b stage → first_failing (header_checks b ++ cs) ≡ first_failing cs
header_passed b stage cs three h =
    passed _ _ _ (Decides-leb 8 (length b)) h.whole
    ∙ passed _ _ _ (Decides-eqb (byte b 2) 7) h.family
    ∙ passed _ _ _ (Decides-eqb (byte b 1) 1) h.version
    ∙ passed _ _ _ (Decides-lg_k b) h.lg_k
    ∙ passed _ _ _ (Decides-ltb (width_bits b) 3) h.width
    ∙ passed _ _ _ (Decides-ltb (stage_bits b) 3) (omega (arith, h.stage_is))
    ∙ passed _ _ _ (Decides-eqb (preamble_byte b) (preamble_words (stage_bits b))) (h.preamble ∙ ap preamble_words (sym h.stage_is))
