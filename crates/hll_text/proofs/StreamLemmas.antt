-- SPDX-License-Identifier: Apache-2.0
-- Lemmas on bytes that are read or written in several pieces.
use Rattle.std.proofs.Common.{◌≡◌, ℕ, ◌+◌, ◌/◌, ◌%◌, ◌<◌, List, [], ◌∷◌, ◌++◌, length, take, drop, refl, sym, subst, ◌∙◌, ap, Option, Some, None, append_assoc, slice_index, arith}
use Rattle.std.specs.Io.KnownBytes.{Appends, Consumes}
use Rattle.std.proofs.lemmas.List.{append-nil, length-append, take-append-drop, take-append-le}
use Rattle.std.proofs.Math.Seq.{take-append-add, take-add}
use Rattle.hex.specs.Hex.{encode_with, encode_lower, lower_digits}
use Rattle.hll_text.specs.Text.{printed_line}

pub Consumes-nil : (o : Option (List ℕ)) → Consumes o o []
Consumes-nil None = tt
Consumes-nil (Some xs) = refl

pub Appends-nil : (o : Option (List ℕ)) → Appends o o []
Appends-nil None = tt
Appends-nil (Some xs) = sym (append-nil xs)

pub Appends-more : (a b c : Option (List ℕ)) (xs ys : List ℕ) → Appends a b xs → Appends b c ys → Appends a c (xs ++ ys)
Appends-more None b c xs ys h k = tt
Appends-more (Some us) None c xs ys h k = elim h [ ]
Appends-more (Some us) (Some bs) None xs ys h k = elim k [ ]
Appends-more (Some us) (Some bs) (Some cs) xs ys h k = k ∙ ap (λ zs. zs ++ ys) h ∙ append_assoc us xs ys

pub Consumes-more : (a b c : Option (List ℕ)) (xs ys : List ℕ) → Consumes a b xs → Consumes b c ys → Consumes a c (xs ++ ys)
Consumes-more None b c xs ys h k = tt
Consumes-more (Some us) None c xs ys h k = elim h [ ]
Consumes-more (Some us) (Some bs) None xs ys h k = elim k [ ]
Consumes-more (Some us) (Some bs) (Some cs) xs ys h k = h ∙ ap (λ zs. xs ++ zs) k ∙ sym (append_assoc xs ys cs)

-- a prefix of what is written next completes a prefix of the whole
pub front_more : (a b c : Option (List ℕ)) (xs ys zs : List ℕ) (n : ℕ) → Appends a b xs → n < length ys → Appends b c (take n ys) →
    (m : ℕ) × (m < length (xs ++ (ys ++ zs))) × Appends a c (take m (xs ++ (ys ++ zs)))
front_more a b c xs ys zs n before short after = (
  length xs + n,
  omega (arith, length-append xs (ys ++ zs), length-append ys zs),
  subst (λ ws. Appends a c ws)
      (ap (λ ws. xs ++ ws) (sym (take-append-le n ys zs (omega arith))) ∙ sym (take-append-add xs (ys ++ zs) n))
      (Appends-more a b c xs (take n ys) before after),
)

-- ---- digits

pub digits-none : encode_lower [] ≡ []
unfolding encode_with
digits-none = refl

digits-append : (table xs ys : List ℕ) → encode_with table (xs ++ ys) ≡ encode_with table xs ++ encode_with table ys
unfolding encode_with
digits-append table [] ys = refl
digits-append table (b ∷ xs) ys = ap (λ ds. slice_index table (b / 16) ∷ slice_index table (b % 16) ∷ ds) (digits-append table xs ys)

-- the digits of bytes in two pieces
pub digits-more : (s n : ℕ) (bytes : List ℕ) → encode_lower (take (s + n) bytes) ≡ encode_lower (take s bytes) ++ encode_lower (take n (drop s bytes))
digits-more s n bytes = ap encode_lower (take-add s n bytes) ∙ digits-append lower_digits (take s bytes) (take n (drop s bytes))

-- and what is printed, cut before and after the second one
pub line-cut : (s n : ℕ) (bytes : List ℕ) → printed_line bytes ≡ encode_lower (take s bytes) ++ (encode_lower (take n (drop s bytes)) ++ (encode_lower (drop n (drop s bytes)) ++ 10 ∷ []))
line-cut s n bytes =
    let front : List ℕ = encode_lower (take s bytes) in
    let piece : List ℕ = encode_lower (take n (drop s bytes)) in
    let rest : List ℕ = encode_lower (drop n (drop s bytes)) in
    let cut : encode_lower bytes ≡ front ++ (piece ++ rest) =
    ap encode_lower (sym (take-append-drop s bytes) ∙ ap (λ ys. take s bytes ++ ys) (sym (take-append-drop n (drop s bytes))))
    ∙ digits-append lower_digits (take s bytes) (take n (drop s bytes) ++ drop n (drop s bytes))
    ∙ ap (λ ds. front ++ ds) (digits-append lower_digits (take n (drop s bytes)) (drop n (drop s bytes))) in
    ap (λ ds. ds ++ 10 ∷ []) cut ∙ append_assoc front (piece ++ rest) (10 ∷ []) ∙ ap (λ ds. front ++ ds) (append_assoc piece rest (10 ∷ []))
