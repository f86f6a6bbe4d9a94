-- SPDX-License-Identifier: Apache-2.0
-- The packed forms of registers are read back.
use Rattle.std.proofs.Common.{◌≡◌, ℕ, ◌/◌, ◌%◌, ◌^◌, ◌<◌, ◌≤◌, zero, suc, List, [], ◌∷◌, ◌++◌, length, get_or, All, refl, sym, ◌∙◌, subst, arith}
use Rattle.std.specs.Prelude.{min, fold}
use Rattle.std.proofs.lemmas.List.Elements.{All-tail}
use Rattle.hll_kernels.specs.Packed.{nibble, nibble_bytes_above, nibble_at, minimum}
use Rattle.hll_kernels.specs.Packed.{NibblesReadBack, FieldsReadBack}
use Rattle.hll_coupons.specs.AuxMap.{entry_at}
use Rattle.hll_registers.specs.Payload.{ExceptionsReadBack, Agrees, register_of}
use Rattle.hll_registers.proofs.Exceptions.{register_back}
use Rattle.hll_kernels.proofs.Grouping.{group_fields-group_bytes}

pub nibbles_read_back : NibblesReadBack
nibbles_read_back m [] s h = absurd (omega arith)
nibbles_read_back m (r ∷ []) zero h = omega arith
nibbles_read_back m (r ∷ []) (suc s) h = absurd (omega arith)
nibbles_read_back m (r ∷ q ∷ R) zero h = let small : nibble m r < 16 = omega arith in omega arith
nibbles_read_back m (r ∷ q ∷ R) (suc zero) h = let small : nibble m r < 16 = omega arith in let other : nibble m q < 16 = omega arith in omega arith
nibbles_read_back m (r ∷ q ∷ R) (suc (suc s)) h =
    let half : suc (suc s) / 2 ≡ suc (s / 2) = omega arith in
    let odd : suc (suc s) % 2 ≡ s % 2 = omega arith in
    (λ i. get_or (nibble_bytes_above m (r ∷ q ∷ R)) (half i) 0 / 16 ^ odd i % 16) ∙ nibbles_read_back m R s (omega arith)

pub fields_read_back : FieldsReadBack
fields_read_back zero [] e h = refl
fields_read_back (suc n) [] e h = absurd (omega arith)
fields_read_back n (a ∷ []) e h = absurd (omega arith)
fields_read_back n (a ∷ b ∷ []) e h = absurd (omega arith)
fields_read_back n (a ∷ b ∷ c ∷ []) e h = absurd (omega arith)
fields_read_back zero (a ∷ b ∷ c ∷ d ∷ R) e h = absurd (omega arith)
fields_read_back (suc n) (a ∷ b ∷ c ∷ d ∷ R) e h =
    let P : ℕ → Type 0 = λ v. v ≤ 63 in
    let ha : a ≤ 63 = h 0 0 (omega arith) in
    let hb : b ≤ 63 = h 1 0 (omega arith) in
    let hc : c ≤ 63 = h 2 0 (omega arith) in
    let hd : d ≤ 63 = h 3 0 (omega arith) in
    let rest : All P R = All-tail P d R (All-tail P c (d ∷ R) (All-tail P b (c ∷ d ∷ R) (All-tail P a (b ∷ c ∷ d ∷ R) h))) in
    λ i. group_fields-group_bytes a b c d ha hb hc hd i ++ fields_read_back n R (omega arith) rest i

-- the minimum is at most each register
pub minimum_from_le : (m : ℕ) (R : List ℕ) → fold min m R ≤ m
minimum_from_le m [] = omega arith
minimum_from_le m (r ∷ R) = omega (arith, minimum_from_le (min m r) R)

minimum_from_at : (m : ℕ) (R : List ℕ) (s : ℕ) → s < length R → fold min m R ≤ get_or R s 0
minimum_from_at m [] s h = absurd (omega arith)
minimum_from_at m (r ∷ R) zero h = omega (arith, minimum_from_le (min m r) R)
minimum_from_at m (r ∷ R) (suc s) h = minimum_from_at (min m r) R s (omega arith)

pub minimum_le : (R : List ℕ) (s : ℕ) → s < length R → minimum R ≤ get_or R s 0
minimum_le R s h = minimum_from_at 63 R s h

pub exceptions_read_back : ExceptionsReadBack
exceptions_read_back k R order s small size top lists h =
    let m : ℕ = minimum R in
    let at : nibble_at (nibble_bytes_above m R) s ≡ nibble m (get_or R s 0) = nibbles_read_back m R s (omega (arith, size)) in
    let v = entry_at k order s in
    let P : ℕ → Type 0 = λ n. Agrees m n v × (register_of m n v ≡ get_or R s 0) in
    subst P (sym at) (register_back k m R order small size top lists s h (minimum_le R s (omega (arith, size))))
