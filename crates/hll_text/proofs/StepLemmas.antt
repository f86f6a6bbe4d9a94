-- SPDX-License-Identifier: Apache-2.0
-- What holds for each step that a line says.
use Rattle.std.proofs.Common.{◌≡◌, ℕ, ◌%◌, ◌^◌, ◌<◌, ◌≤◌, Bool, true, false, cond, ◌&&◌, ◌==◌, leb, nat_lt, eqb, List, [], ◌∷◌, length, Some, None, Result, Ok, Err, refl, arith, Option}
use Rattle.std.specs.Prelude.{codes, IfOk}
use Rattle.std.specs.Result.{result_map_both}
use Rattle.std.specs.Str.{bytes_eq}
use Rattle.std.proofs.lemmas.Bool.{and_parts, leb-true}
use Rattle.std.proofs.lemmas.Bool.Decides.{nat_tests}
use Rattle.std.proofs.lemmas.List.Elements.{All-from_get_or}
use Rattle.std.proofs.lemmas.Result.{IfOk-at_ok}
use Rattle.hex.specs.Hex.{decode_pairs, IsBytes}
use Rattle.hex.specs.declared.error.FromHexError.{FromHexError}
use Rattle.hex.specs.declared.error.FromHexError.TheVariants.{OddLength}
use Rattle.hex.proofs.HexLemmas.{decode_pairs-ok}
use Rattle.hll_text.specs.declared.fault.Fault.{Fault}
use Rattle.hll_text.specs.declared.fault.Fault.TheVariants.{Range, Hex}
use Rattle.hll_text.specs.Step.{IsWellFormed}
use Rattle.hll_text.specs.Text.{PlanStep, image, coupon, ◌>>=◌, tokens, lg_k, width, one_number, two_numbers, three_numbers, one_token, new_step, image_step, coupon_step, union_step, fold_step, read_tokens, reading}

module _ {X : Type 0} (P : X → Type 0) where
  IfOk-cond : (b : Bool) (r s : Result X Fault) → (b ≡ true → IfOk r P) → IfOk s P → IfOk (cond b r s) P
  IfOk-cond true r s h k = h refl
  IfOk-cond false r s h k = k

  IfOk-and_then : {W : Type 0} (Q : W → Type 0) (r : Result W Fault) (f : W → Result X Fault) → IfOk r Q → ((w : W) → Q w → IfOk (f w) P) → IfOk (r >>= f) P
  IfOk-and_then Q (Ok w) f h k = k w h
  IfOk-and_then Q (Err e) f h k = tt

-- nothing is known of the value that was read
abbrev Any : {W : Type 0} → W → Type 0
Any w = Unit {0}

IfOk-any : {W : Type 0} (r : Result W Fault) → IfOk r Any
IfOk-any (Ok w) = tt
IfOk-any (Err e) = tt

IfOk-lg_k : (k : ℕ) → IfOk (lg_k k) (λ k. (4 ≤ k) × (k ≤ 21))
IfOk-lg_k k = IfOk-cond (λ k. (4 ≤ k) × (k ≤ 21)) (leb 4 k && leb k 21) (Ok k) (Err Range) (λ h. let p = and_parts (leb 4 k) (leb k 21) h in (leb-true 4 k p.0, leb-true k 21 p.1)) tt

IfOk-new_step : (k bits : ℕ) → IfOk (new_step k bits) IsWellFormed
IfOk-new_step k bits =
    IfOk-and_then IsWellFormed (λ k. (4 ≤ k) × (k ≤ 21)) (lg_k k) _ (IfOk-lg_k k) (λ k h.
    IfOk-and_then IsWellFormed Any (width bits) _ (IfOk-any (width bits)) (λ w _. (h, tt)))

IfOk-union_step : (n m bits : ℕ) → IfOk (union_step n m bits) IsWellFormed
IfOk-union_step n m bits =
    IfOk-and_then IsWellFormed (λ k. (4 ≤ k) × (k ≤ 21)) (lg_k m) _ (IfOk-lg_k m) (λ m h.
    IfOk-and_then IsWellFormed Any (width bits) _ (IfOk-any (width bits)) (λ w _. (h, tt)))

IfOk-fold_step : (e : ℕ) → IfOk (fold_step e) IsWellFormed
IfOk-fold_step e = IfOk-and_then IsWellFormed (λ k. (4 ≤ k) × (k ≤ 21)) (lg_k e) _ (IfOk-lg_k e) (λ e h. (h, tt))

IfOk-coupon_step : (s v : ℕ) → IfOk (coupon_step s v) IsWellFormed
IfOk-coupon_step s v =
    IfOk-cond IsWellFormed (nat_lt s (2 ^ 26) && (leb 1 v && leb v 63)) (Ok (coupon s v)) (Err Range) (λ h.
    let p = and_parts (nat_lt s (2 ^ 26)) (leb 1 v && leb v 63) h in
    let q = and_parts (leb 1 v) (leb v 63) p.1 in
    let low : s < 2 ^ 26 = grind (arith, nat_tests, p.0) in
    ((low, leb-true 1 v q.0, leb-true v 63 q.1), tt)) tt

IfOk-image_step : (digits : List ℕ) → IfOk (image_step digits) IsWellFormed
IfOk-image_step digits = of (eqb (length digits % 2) 1)
  where
    decoded : (r : Result (List ℕ) FromHexError) → decode_pairs 0 digits ≡ r → IfOk (result_map_both image (λ _. Hex) r) IsWellFormed
    decoded (Err e) h = tt
    decoded (Ok bytes) h = let b : IsBytes bytes = (decode_pairs-ok 0 digits bytes h).2 in (tt, All-from_get_or (λ c. c < 2 ^ 8) bytes 0 (λ i l. b i))

    of : (odd : Bool) → IfOk (result_map_both image (λ _. Hex) (cond odd (Err OddLength) (decode_pairs 0 digits))) IsWellFormed
    of true = tt
    of false = decoded (decode_pairs 0 digits) refl

IfOk-read_tokens : (ws : List (List ℕ)) → IfOk (read_tokens ws) IsWellFormed
IfOk-read_tokens [] = tt
IfOk-read_tokens (first ∷ rest) =
    IfOk-cond IsWellFormed (bytes_eq first (codes "new")) _ _ (λ _. IfOk-and_then IsWellFormed Any (two_numbers rest) _ (IfOk-any (two_numbers rest)) (λ p _. IfOk-new_step p.0 p.1))
    (IfOk-cond IsWellFormed (bytes_eq first (codes "image")) _ _ (λ _. IfOk-and_then IsWellFormed Any (one_token rest) _ (IfOk-any (one_token rest)) (λ digits _. IfOk-image_step digits))
    (IfOk-cond IsWellFormed (bytes_eq first (codes "coupon")) _ _ (λ _. IfOk-and_then IsWellFormed Any (two_numbers rest) _ (IfOk-any (two_numbers rest)) (λ p _. IfOk-coupon_step p.0 p.1))
    (IfOk-cond IsWellFormed (bytes_eq first (codes "union")) _ _ (λ _. IfOk-and_then IsWellFormed Any (three_numbers rest) _ (IfOk-any (three_numbers rest)) (λ p _. IfOk-union_step p.0 p.1 p.2))
    (IfOk-cond IsWellFormed (bytes_eq first (codes "fold")) _ _ (λ _. IfOk-and_then IsWellFormed Any (one_number rest) _ (IfOk-any (one_number rest)) (λ e _. IfOk-fold_step e)) tt))))

-- a step that is there
abbrev OfStep : Option PlanStep → Type 0
OfStep None = Unit {0}
OfStep (Some step) = IsWellFormed step

IfOk-reading : (line : List ℕ) → IfOk (reading line) OfStep
IfOk-reading [] = tt
IfOk-reading (b ∷ more) =
    IfOk-cond OfStep (b == 35) (Ok None) _ (λ _. tt)
    (IfOk-and_then OfStep IsWellFormed (read_tokens (tokens (b ∷ more))) _ (IfOk-read_tokens (tokens (b ∷ more))) (λ step h. h))

-- the step of a line is well formed
pub reading-well_formed : (line : List ℕ) (step : PlanStep) → reading line ≡ Ok (Some step) → IsWellFormed step
reading-well_formed line step e = IfOk-at_ok OfStep e (IfOk-reading line)
