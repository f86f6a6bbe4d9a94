-- SPDX-License-Identifier: Apache-2.0
-- What is written for registers is read back (docs/MODEL.md, "Packed forms").
use Rattle.std.specs.Prelude.{◌≡◌, ℕ, ◌+◌, ◌^◌, List, ◌++◌, take, drop}
use Rattle.hll_coupons.specs.Pair.{set_of}
use Rattle.hll_coupons.specs.Coupons.{IsAscending}
use Rattle.hll_registers.specs.declared.aux_format.AuxFormat.TheVariants.{Compact}
use Rattle.hll_kernels.specs.Packed.{fields, minimum}
use Rattle.hll_registers.specs.Exceptions.{exceptions}
use Rattle.hll_registers.specs.Payload.{state_at, IsHll8Payload, hll8_bytes, field_size, IsHll6Payload, hll6_bytes, shape_of_hll4, hll4_size, registers_of, IsHll4Payload, hll4_bytes}
use Rattle.hll_registers.specs.Store.{Stored, IsStored}

-- what is written for legal 8-bit registers is a payload after its header, and gives registers and state back, whatever follows
abbrev pub Hll8ReadBack : Type 0
Hll8ReadBack = (x : Stored) (more : List ℕ) → IsStored x →
    let bytes = drop 8 (hll8_bytes x.lg_k x.registers x.state) ++ more in
    IsHll8Payload x.lg_k (take (32 + 2 ^ x.lg_k) bytes) × (take (2 ^ x.lg_k) (drop 32 bytes) ≡ x.registers) × (state_at x.state.out_of_order bytes ≡ x.state)

-- the law for 6-bit registers
abbrev pub Hll6ReadBack : Type 0
Hll6ReadBack = (x : Stored) (more : List ℕ) → IsStored x →
    let bytes = drop 8 (hll6_bytes x.lg_k x.registers x.state) ++ more in
    IsHll6Payload x.lg_k (take (32 + field_size x.lg_k) bytes) × (fields (take (field_size x.lg_k) (drop 32 bytes)) ≡ x.registers) × (state_at x.state.out_of_order bytes ≡ x.state)

-- the law for 4-bit registers, with the exceptions in ascending order
abbrev pub Hll4ReadBack : Type 0
Hll4ReadBack = (x : Stored) (order more : List ℕ) → IsStored x → IsAscending order (set_of (exceptions x.registers)) →
    let h = shape_of_hll4 x.lg_k (minimum x.registers) Compact in
    let bytes = drop 8 (hll4_bytes x.lg_k x.registers x.state order) ++ more in
    let payload = take (hll4_size h bytes) bytes in
    IsHll4Payload h payload × (registers_of h payload ≡ x.registers) × (state_at x.state.out_of_order bytes ≡ x.state)
