-- SPDX-License-Identifier: Apache-2.0
-- The end of a written image of registers.
use Rattle.std.proofs.Common.{ℕ, ◌+◌, List, [], ◌∷◌, ◌++◌, length, refl, sym, ap, ◌∙◌, arith}
use Rattle.std.proofs.lemmas.List.{append-nil}
use Rattle.std.specs.FinSet.{empty}
use Rattle.hll_coupons.specs.Coupons.{IsAscending, mode_byte}
use Rattle.hll_base.specs.declared.hll_type.HllType.TheVariants.{Hll4, Hll6, Hll8}
use Rattle.hll_kernels.specs.Packed.{zeros, minimum, count_at_minimum, field_bytes}
use Rattle.hll_registers.specs.Payload.{flag_of, number_bytes}
use Rattle.hll_registers.specs.Store.{PackedIsWritten}

-- no exceptions
none : IsAscending [] empty
none = record { increasing = λ k h. absurd (omega arith); members = refl }

pub packed_is_written : PackedIsWritten
packed_is_written bytes k Hll4 R state h =
    let front : List ℕ = 10 ∷ 1 ∷ 7 ∷ k ∷ 0 ∷ (8 + flag_of state) ∷ minimum R ∷ mode_byte 2 Hll4 ∷ number_bytes state (count_at_minimum R) (length h.order) in
    (front, h.order, h.ascending, h.is)
packed_is_written bytes k Hll6 R state h =
    let front : List ℕ = 10 ∷ 1 ∷ 7 ∷ k ∷ 0 ∷ flag_of state ∷ 0 ∷ mode_byte 2 Hll6 ∷ number_bytes state (zeros R) 0 in
    (front, [], none, h ∙ ap (λ xs. front ++ xs) (sym (append-nil (field_bytes R))))
packed_is_written bytes k Hll8 R state h =
    let front : List ℕ = 10 ∷ 1 ∷ 7 ∷ k ∷ 0 ∷ flag_of state ∷ 0 ∷ mode_byte 2 Hll8 ∷ number_bytes state (zeros R) 0 in
    (front, [], none, h ∙ ap (λ xs. front ++ xs) (sym (append-nil R)))
