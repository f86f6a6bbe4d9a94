-- SPDX-License-Identifier: Apache-2.0
-- What is written for registers is read back.
use Rattle.std.proofs.Common.{◌≡◌, ℕ, ◌+◌, ◌^◌, ◌-◌, ◌*◌, List, ◌++◌, length, take, drop, refl, sym, ap, subst, ◌∙◌, arith}
use Rattle.std.proofs.lemmas.List.{length-drop, drop-append-le, take_at}
use Rattle.hll_coupons.specs.Coupons.{coupon_bytes}
use Rattle.hll_coupons.proofs.Payloads.{front_number}
use Rattle.hll_registers.specs.declared.aux_format.AuxFormat.TheVariants.{Compact}
use Rattle.hll_kernels.specs.Packed.{zeros, fields, field_bytes, minimum, count_at_minimum, nibble_bytes}
use Rattle.hll_registers.specs.Payload.{number_bytes, exception_count, IsHll8Payload, field_size, IsHll6Payload, Hll4Shape, shape_of_hll4, hll4_size, registers_of, IsHll4Payload}
use Rattle.hll_arrays.specs.ReadBack.{Hll8ReadBack, Hll6ReadBack, Hll4ReadBack}
use Rattle.hll_arrays.proofs.Payloads.{state_at-front}
use Rattle.hll_arrays.proofs.Written.{written_hll8, state_hll8, registers_hll8, written_hll6, state_hll6, registers_hll6, written_hll4, state_hll4, registers_hll4}

-- the bytes after the numbers of a payload, whatever follows the payload
after : (n : ℕ) (p more : List ℕ) → length p ≡ 32 + n → take n (drop 32 (p ++ more)) ≡ drop 32 p
after n p more e = ap (take n) (drop-append-le 32 p more (omega arith)) ∙ take_at (drop 32 p) more n (omega (arith, length-drop 32 p))

pub hll8_read_back : Hll8ReadBack
hll8_read_back x more s =
    let p : List ℕ = number_bytes x.state (zeros x.registers) 0 ++ x.registers in
    let payload : IsHll8Payload x.lg_k p = written_hll8 x.lg_k x.registers x.state s.low s.high s.registers s.state in (
      subst (IsHll8Payload x.lg_k) (sym (take_at p more (32 + 2 ^ x.lg_k) payload.size)) payload,
      after (2 ^ x.lg_k) p more payload.size ∙ registers_hll8 x.lg_k x.registers x.state s.low s.high s.registers s.state,
      sym (state_at-front x.state.out_of_order p more (p ++ more) refl (omega (arith, payload.size)))
          ∙ state_hll8 x.lg_k x.registers x.state s.low s.high s.registers s.state x.state.out_of_order refl,
    )

pub hll6_read_back : Hll6ReadBack
hll6_read_back x more s =
    let p : List ℕ = number_bytes x.state (zeros x.registers) 0 ++ field_bytes x.registers in
    let payload : IsHll6Payload x.lg_k p = written_hll6 x.lg_k x.registers x.state s.low s.high s.registers s.state in (
      subst (IsHll6Payload x.lg_k) (sym (take_at p more (32 + field_size x.lg_k) payload.size)) payload,
      ap fields (after (field_size x.lg_k) p more payload.size) ∙ registers_hll6 x.lg_k x.registers x.state s.low s.high s.registers s.state,
      sym (state_at-front x.state.out_of_order p more (p ++ more) refl (omega (arith, payload.size)))
          ∙ state_hll6 x.lg_k x.registers x.state s.low s.high s.registers s.state x.state.out_of_order refl,
    )

pub hll4_read_back : Hll4ReadBack
hll4_read_back x order more s lists =
    let h : Hll4Shape = shape_of_hll4 x.lg_k (minimum x.registers) Compact in
    let p : List ℕ = number_bytes x.state (count_at_minimum x.registers) (length order) ++ (nibble_bytes x.registers ++ coupon_bytes order) in
    let payload : IsHll4Payload h p = written_hll4 x.lg_k x.registers x.state s.low s.high s.registers s.state order x.state.out_of_order lists in
    let counted : exception_count p ≡ exception_count (p ++ more) = front_number p more (p ++ more) refl 28 (omega (arith, payload.has_entries.whole)) in
    let size : length p ≡ hll4_size h (p ++ more) = payload.size ∙ ap (λ n. 32 + (2 ^ (x.lg_k - 1) + 4 * n)) counted in
    let front : take (hll4_size h (p ++ more)) (p ++ more) ≡ p = take_at p more (hll4_size h (p ++ more)) size in (
      subst (IsHll4Payload h) (sym front) payload,
      ap (registers_of h) front ∙ registers_hll4 x.lg_k x.registers x.state s.low s.high s.registers s.state order x.state.out_of_order lists,
      sym (state_at-front x.state.out_of_order p more (p ++ more) refl (omega (arith, payload.has_entries.whole)))
          ∙ state_hll4 x.lg_k x.registers x.state s.low s.high s.registers s.state order x.state.out_of_order lists x.state.out_of_order refl,
    )
