-- SPDX-License-Identifier: Apache-2.0
-- The fault of a line is Syntax, Range or Hex.
use Rattle.std.proofs.Common.{ℕ, Bool, true, false, cond, List, [], ◌∷◌, Result, Ok, Err, refl, inl, inr, codes, nat_lt, nat_le, nat_eq, length, ◌&&◌, ◌==◌, ◌^◌}
use Rattle.std.specs.Prelude.{IfErr}
use Rattle.std.specs.Result.{result_map_both}
use Rattle.std.specs.Str.{bytes_eq}
use Rattle.hex.specs.Hex.{decode_of}
use Rattle.hex.specs.declared.error.FromHexError.{FromHexError}
use Rattle.hll_text.specs.declared.fault.Fault.{Fault}
use Rattle.hll_text.specs.declared.fault.Fault.TheVariants.{Hex}
use Rattle.hll_text.specs.Text.{IsLineFault, ◌>>=◌, is_number, lg_k, width, image, new_step, image_step, coupon_step, union_step, fold_step, read_tokens, reading, tokens, number, one_number, two_numbers, three_numbers, one_token}

module _ {X : Type 0} where
  IfErr-cond : (b : Bool) (x y : Result X Fault) → IfErr x IsLineFault → IfErr y IsLineFault → IfErr (cond b x y) IsLineFault
  IfErr-cond true x y h k = h
  IfErr-cond false x y h k = k

  IfErr-and_then : {Y : Type 0} (r : Result X Fault) (f : X → Result Y Fault) → IfErr r IsLineFault → ((x : X) → IfErr (f x) IsLineFault) → IfErr (r >>= f) IsLineFault
  IfErr-and_then (Ok x) f h k = k x
  IfErr-and_then (Err e) f h k = h

-- ---- tokens

IfErr-number : (token : List ℕ) → IfErr (number token) IsLineFault
IfErr-number token = IfErr-cond (is_number token) _ _ tt (inl refl)

IfErr-one_number : (ws : List (List ℕ)) → IfErr (one_number ws) IsLineFault
IfErr-one_number [] = inl refl
IfErr-one_number (a ∷ []) = IfErr-number a
IfErr-one_number (a ∷ b ∷ more) = inl refl

IfErr-two_numbers : (ws : List (List ℕ)) → IfErr (two_numbers ws) IsLineFault
IfErr-two_numbers [] = inl refl
IfErr-two_numbers (a ∷ []) = inl refl
IfErr-two_numbers (a ∷ b ∷ []) = IfErr-and_then (number a) _ (IfErr-number a) (λ m. IfErr-and_then (number b) _ (IfErr-number b) (λ n. tt))
IfErr-two_numbers (a ∷ b ∷ c ∷ more) = inl refl

IfErr-three_numbers : (ws : List (List ℕ)) → IfErr (three_numbers ws) IsLineFault
IfErr-three_numbers [] = inl refl
IfErr-three_numbers (a ∷ more) = IfErr-and_then (number a) _ (IfErr-number a) (λ l. IfErr-and_then (two_numbers more) _ (IfErr-two_numbers more) (λ p. tt))

IfErr-one_token : (ws : List (List ℕ)) → IfErr (one_token ws) IsLineFault
IfErr-one_token [] = inl refl
IfErr-one_token (a ∷ []) = IfErr-cond (nat_eq (length a) 0) _ _ (inl refl) tt
IfErr-one_token (a ∷ b ∷ more) = inl refl

-- ---- steps

IfErr-lg_k : (k : ℕ) → IfErr (lg_k k) IsLineFault
IfErr-lg_k k = IfErr-cond (nat_le 4 k && nat_le k 21) _ _ tt (inr (inl refl))

IfErr-width : (bits : ℕ) → IfErr (width bits) IsLineFault
IfErr-width bits = IfErr-cond (bits == 4) _ _ tt (IfErr-cond (bits == 6) _ _ tt (IfErr-cond (bits == 8) _ _ tt (inr (inl refl))))

IfErr-new_step : (k bits : ℕ) → IfErr (new_step k bits) IsLineFault
IfErr-new_step k bits = IfErr-and_then (lg_k k) _ (IfErr-lg_k k) (λ k. IfErr-and_then (width bits) _ (IfErr-width bits) (λ w. tt))

IfErr-image_step : (digits : List ℕ) → IfErr (image_step digits) IsLineFault
IfErr-image_step digits = of (decode_of digits)
  where
    of : (r : Result (List ℕ) FromHexError) → IfErr (result_map_both image (λ _. Hex) r) IsLineFault
    of (Ok bytes) = tt
    of (Err e) = inr (inr refl)

IfErr-coupon_step : (s v : ℕ) → IfErr (coupon_step s v) IsLineFault
IfErr-coupon_step s v = IfErr-cond (nat_lt s (2 ^ 26) && (nat_le 1 v && nat_le v 63)) _ _ tt (inr (inl refl))

IfErr-union_step : (n m bits : ℕ) → IfErr (union_step n m bits) IsLineFault
IfErr-union_step n m bits = IfErr-and_then (lg_k m) _ (IfErr-lg_k m) (λ m. IfErr-and_then (width bits) _ (IfErr-width bits) (λ w. tt))

IfErr-fold_step : (e : ℕ) → IfErr (fold_step e) IsLineFault
IfErr-fold_step e = IfErr-and_then (lg_k e) _ (IfErr-lg_k e) (λ e. tt)

IfErr-read_tokens : (ws : List (List ℕ)) → IfErr (read_tokens ws) IsLineFault
IfErr-read_tokens [] = inl refl
IfErr-read_tokens (first ∷ rest) =
    IfErr-cond (bytes_eq first (codes "new")) _ _ (IfErr-and_then (two_numbers rest) _ (IfErr-two_numbers rest) (λ p. IfErr-new_step p.0 p.1))
    (IfErr-cond (bytes_eq first (codes "image")) _ _ (IfErr-and_then (one_token rest) _ (IfErr-one_token rest) IfErr-image_step)
    (IfErr-cond (bytes_eq first (codes "coupon")) _ _ (IfErr-and_then (two_numbers rest) _ (IfErr-two_numbers rest) (λ p. IfErr-coupon_step p.0 p.1))
    (IfErr-cond (bytes_eq first (codes "union")) _ _ (IfErr-and_then (three_numbers rest) _ (IfErr-three_numbers rest) (λ p. IfErr-union_step p.0 p.1 p.2))
    (IfErr-cond (bytes_eq first (codes "fold")) _ _ (IfErr-and_then (one_number rest) _ (IfErr-one_number rest) IfErr-fold_step) (inl refl)))))

-- a fault of a line
pub IfErr-reading : (line : List ℕ) → IfErr (reading line) IsLineFault
IfErr-reading [] = tt
IfErr-reading (b ∷ more) = IfErr-cond (b == 35) _ _ tt (IfErr-and_then (read_tokens (tokens (b ∷ more))) _ (IfErr-read_tokens (tokens (b ∷ more))) (λ step. tt))
