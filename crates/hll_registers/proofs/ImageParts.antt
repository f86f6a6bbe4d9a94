-- SPDX-License-Identifier: Apache-2.0
-- Lemmas on the parts of an image.
use Rattle.std.proofs.Common.{◌≡◌, ℕ, ◌+◌, ◌*◌, ◌<◌, ◌≤◌, All, List, [], ◌∷◌, ◌++◌, Option, zero, suc, length, take, drop, refl, sym, ap, subst, ◌∙◌, arith}
use Rattle.std.specs.List.{flat_map}
use Rattle.std.proofs.lemmas.List.{append_assoc, length-append, drop-drop, take-append-le, drop-append-le}
use Rattle.std.proofs.Math.Seq.{take-append_seam, take-append-add, drop-append-add}
use Rattle.std.proofs.Math.ListN.{set}
use Rattle.std.proofs.Math.Nat.{zero-add}
use Rattle.hll_kernels.specs.Groups.{IsGroup}
use Rattle.std.specs.Simd.Lanes.{put_chunk}
use Rattle.std.proofs.lemmas.Simd.{put_chunk_is, length-put_chunk}
use Rattle.hll_base.specs.declared.hll_type.HllType.TheVariants.{Hll4}
use Rattle.hll_coupons.specs.AuxMap.{ExceptionMap}
use Rattle.hll_coupons.specs.Coupons.{coupon_bytes, mode_byte, IsAscending, WritesAscending}
use Rattle.hll_coupons.proofs.Merging.{count_in_bytes}
use Rattle.hll_registers.specs.FourBits.{exceptions_in, IsOfRegisters, IsPacked}
use Rattle.hll_registers.specs.Payload.{flag_of, nibble_image, number_bytes, WritesRegisters}
use Rattle.hll_registers.specs.declared.estimate_state.EstimateState.{EstimateState}
use Rattle.hll_registers.proofs.FourBits.{packed_is_of_registers}

pub length-parts : (S R E : List ℕ) → length S ≡ 40 → length (S ++ (R ++ E)) ≡ 40 + length R + length E
length-parts S R E long = omega (arith, length-append S (R ++ E), length-append R E, long)

-- bytes that are put right after those that have been put
pub put_after : (at : ℕ) (P Q O V W : List ℕ) → at ≡ length P → V ≡ P ++ drop (length P) O → W ≡ take at V ++ (Q ++ drop (at + length Q) V) → W ≡ (P ++ Q) ++ drop (length (P ++ Q)) O
put_after at P Q O V W here before after =
    let front : take at V ≡ P = (λ i. take (here i) (before i)) ∙ take-append_seam P (drop (length P) O) in
    let back : drop (at + length Q) V ≡ drop (length (P ++ Q)) O =
    (λ i. drop (here i + length Q) (before i)) ∙ drop-append-add P (drop (length P) O) (length Q) ∙ drop-drop (length Q) (length P) O ∙ ap (λ n. drop n O) (sym (length-append P Q)) in
    after ∙ (λ i. front i ++ (Q ++ back i)) ∙ sym (append_assoc P Q (drop (length (P ++ Q)) O))

-- no change
pub unchanged : (at : ℕ) (R : List ℕ) → put_chunk at R [] ≡ R
unchanged zero [] = refl
unchanged zero (r ∷ R) = refl
unchanged (suc at) [] = refl
unchanged (suc at) (r ∷ R) = ap (λ S. r ∷ S) (unchanged at R)

-- one byte is replaced
pub one_byte : (at : ℕ) (R : List ℕ) (v : ℕ) → at < length R → put_chunk at R (v ∷ []) ≡ set R at v
one_byte at [] v h = absurd (omega arith)
one_byte zero (r ∷ R) v h = ap (λ S. v ∷ S) (unchanged zero R)
one_byte (suc at) (r ∷ R) v h = ap (λ S. r ∷ S) (one_byte at R v (omega arith))

-- a group of three bytes is replaced
pub one_group : (g : ℕ) (G : List (List ℕ)) (a b c : ℕ) → All IsGroup G → g < length G → put_chunk (g * 3) (flat_map (λ x. x) G) (a ∷ b ∷ c ∷ []) ≡ flat_map (λ x. x) (set G g (a ∷ b ∷ c ∷ []))
one_group g [] a b c are h = absurd (omega arith)
one_group g ([] ∷ G) a b c are h = absurd (omega (arith, (are 0 [] (omega arith)).three))
one_group g ((x ∷ []) ∷ G) a b c are h = absurd (omega (arith, (are 0 [] (omega arith)).three))
one_group g ((x ∷ y ∷ []) ∷ G) a b c are h = absurd (omega (arith, (are 0 [] (omega arith)).three))
one_group g ((x ∷ y ∷ z ∷ w ∷ rest) ∷ G) a b c are h = absurd (omega (arith, (are 0 [] (omega arith)).three))
one_group zero ((x ∷ y ∷ z ∷ []) ∷ G) a b c are h = ap (λ S. a ∷ b ∷ c ∷ S) (unchanged zero (flat_map (λ u. u) G))
one_group (suc g) ((x ∷ y ∷ z ∷ []) ∷ G) a b c are h =
    let next : suc g * 3 ≡ suc (suc (suc (g * 3))) = omega arith in
    ap (λ n. put_chunk n (x ∷ y ∷ z ∷ flat_map (λ u. u) G) (a ∷ b ∷ c ∷ [])) next
    ∙ ap (λ S. x ∷ y ∷ z ∷ S) (one_group g G a b c (λ k d l. are (suc k) d (omega arith)) (omega arith))

pub replaced_group : (g : ℕ) (G : List (List ℕ)) (h : List ℕ) → All IsGroup G → IsGroup h → g < length G → put_chunk (g * 3) (flat_map (λ x. x) G) h ≡ flat_map (λ x. x) (set G g h)
replaced_group g G [] are is inside = absurd (omega (arith, is.three))
replaced_group g G (a ∷ []) are is inside = absurd (omega (arith, is.three))
replaced_group g G (a ∷ b ∷ []) are is inside = absurd (omega (arith, is.three))
replaced_group g G (a ∷ b ∷ c ∷ []) are is inside = one_group g G a b c are inside
replaced_group g G (a ∷ b ∷ c ∷ d ∷ h) are is inside = absurd (omega (arith, is.three))

-- the size of the start and the registers
pub size : (S R C : List ℕ) (at : ℕ) → length S ≡ 40 → 40 + length R ≡ length (S ++ put_chunk at R C)
size S R C at long = omega (arith, length-append S (put_chunk at R C), length-put_chunk at R C, long)

-- bytes that are put over those that have been put
pub put_over : (at n : ℕ) (S R O C W V : List ℕ) → length S ≡ 40 → at + length C ≤ length R → n ≡ length C → W ≡ (S ++ R) ++ drop (length (S ++ R)) O → V ≡ take (40 + at) W ++ (C ++ drop (40 + at + n) W)
    → V ≡ (S ++ put_chunk at R C) ++ drop (length (S ++ put_chunk at R C)) O
put_over at n S R O C W V long inside count before after =
    let rest : List ℕ = drop (length (S ++ R)) O in
    let whole : W ≡ S ++ (R ++ rest) = before ∙ append_assoc S R rest in
    let here : 40 + at ≡ length S + at = ap (λ k. k + at) (sym long) in
    let front : take (40 + at) W ≡ S ++ take at R =
    (λ i. take (here i) (whole i)) ∙ take-append-add S (R ++ rest) at ∙ ap (λ P. S ++ P) (take-append-le at R rest (omega arith)) in
    let after_change : 40 + at + n ≡ length S + (at + n) = omega (arith, long) in
    let back : drop (40 + at + n) W ≡ drop (at + n) R ++ rest =
    (λ i. drop (after_change i) (whole i)) ∙ drop-append-add S (R ++ rest) (at + n) ∙ drop-append-le (at + n) R rest (omega (arith, count)) in
    let changed : take at R ++ (C ++ drop (at + n) R) ≡ put_chunk at R C =
    ap (λ D. take at R ++ (C ++ D)) (ap (λ k. drop (at + k) R) count ∙ sym (drop-drop (length C) at R)) ∙ sym (put_chunk_is at R C inside) in
    let size : length (S ++ R) ≡ length (S ++ put_chunk at R C) = omega (arith, length-append S R, length-append S (put_chunk at R C), length-put_chunk at R C) in
    after
    ∙ (λ i. front i ++ (C ++ back i))
    ∙ ap (λ Q. (S ++ take at R) ++ Q) (sym (append_assoc C (drop (at + n) R) rest))
    ∙ sym (append_assoc (S ++ take at R) (C ++ drop (at + n) R) rest)
    ∙ ap (λ Q. Q ++ rest) (append_assoc S (take at R) (C ++ drop (at + n) R))
    ∙ (λ i. (S ++ changed i) ++ drop (size i) O)

-- the start and the registers have been put
pub start_put : (S F R O V W : List ℕ) → length S ≡ 40 → F ≡ S → V ≡ F ++ drop (0 + length F) O → W ≡ take 40 V ++ (R ++ drop (40 + length R) V) → W ≡ (S ++ R) ++ drop (length (S ++ R)) O
start_put S F R O V W long same first second =
    put_after 40 S R O V W (sym long) (first ∙ ap (λ n. F ++ drop n O) (zero-add (length F)) ∙ ap (λ P. P ++ drop (length P) O) same) second

-- what follows is put after them
pub put_with_end : (at : ℕ) (S R E O W Z X : List ℕ) → at ≡ length (S ++ R) → W ≡ (S ++ R) ++ drop (length (S ++ R)) O → Z ≡ take at W ++ (E ++ drop (at + length E) W) → S ++ (R ++ E) ≡ X
    → Z ≡ X ++ drop (length X) O
put_with_end at S R E O W Z X here put third parts =
    put_after at (S ++ R) E O W Z here put third ∙ ap (λ P. P ++ drop (length P) O) (append_assoc S R E ∙ parts)

-- ---- 4-bit registers

-- nibbles and exceptions as bytes are what is written for the registers that they are
pub nibbles_written : (k m n : ℕ) (bytes entries image : List ℕ) (e : Option ExceptionMap) (R : List ℕ) (state : EstimateState) → k ≤ 21 → IsPacked k m n bytes e R → WritesAscending coupon_bytes (exceptions_in e) entries
    → image ≡ nibble_image k m n bytes entries state → WritesRegisters image k Hll4 R state
nibbles_written k m n bytes entries image e R state small packed written is =
    let of : IsOfRegisters k m n bytes e R = packed_is_of_registers k m n bytes e R small packed in
    record {
      order = written.order;
      ascending = subst (IsAscending written.order) of.exceptions_are written.ascending;
      is = is
          ∙ (λ i. 10 ∷ 1 ∷ 7 ∷ k ∷ 0 ∷ (8 + flag_of state) ∷ of.minimum_is i ∷ mode_byte 2 Hll4
          ∷ number_bytes state (of.count_is i) (count_in_bytes entries written.order written.is i) ++ (of.bytes_are i ++ written.is i));
    }
