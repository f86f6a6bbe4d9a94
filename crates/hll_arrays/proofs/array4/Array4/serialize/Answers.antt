-- SPDX-License-Identifier: Apache-2.0
use Rattle.std.proofs.Common.{◌≡◌, ◌+◌, ◌∙◌, ℕ, List, ◌∷◌, ◌++◌, sym, ap, subst}
use Rattle.hll_coupons.specs.Coupons.{coupon_bytes, mode_byte, WritesAscending}
use Rattle.hll_coupons.specs.Pair.{set_of}
use Rattle.hll_base.specs.declared.hll_type.HllType.TheVariants.{Hll4}
use Rattle.hll_kernels.specs.Packed.{minimum, count_at_minimum, nibble_bytes}
use Rattle.hll_registers.specs.Exceptions.{exceptions}
use Rattle.hll_registers.specs.FourBits.{FourBits}
use Rattle.hll_registers.specs.Payload.{number_bytes, flag_of, WritesRegisters}
use Rattle.hll_registers.specs.declared.preamble.HllHeader.{HllHeader}
use Rattle.hll_registers.proofs.FourBitStores.{header_of, image_is}
use Rattle.hll_arrays.proofs.array4.Array4.serialize.Goals as goal

pub returns-clause-ok : goal.returns-clause-ok
returns-clause-ok g c =
    let x = c.self.inside in
    let R : List ℕ = x.registers.registers in
    let view = c.self.view_is in
    let k : c.args.lg_config_k ≡ x.registers.lg_k = c.requires ∙ sym (ap (λ (z : FourBits). z.stored.lg_k) view) in
    let m : minimum c.args.self.now.stored.registers ≡ minimum R = sym (ap (λ (z : FourBits). minimum z.stored.registers) view) in
    let at : c.num_at_cur_min.result ≡ count_at_minimum R = c.num_at_cur_min.ensures ∙ sym (ap (λ (z : FourBits). count_at_minimum z.stored.registers) view) in
    let state : c.estimate_state.result ≡ x.state = c.estimate_state.ensures ∙ sym (ap (λ (z : FourBits). z.stored.state) view) in
    let count : ℕ = c.exception_count-count.result in
    let H : List ℕ = header_of x.registers.lg_k (minimum R) x.state in
    let start : c.in_ok-bytes.bytes ≡ H ++ number_bytes x.state (count_at_minimum R) count =
    c.in_ok-bytes.ensures.ok
    ∙ (λ i. let h : HllHeader = c.header.ensures i in 10 ∷ 1 ∷ 7 ∷ h.lg_config_k ∷ 0 ∷ (h.flags + flag_of c.estimate_state.result) ∷ h.minimum ∷ mode_byte 2 h.hll_type ∷ number_bytes c.estimate_state.result c.num_at_cur_min.result count)
    ∙ (λ i. header_of (k i) (m i) (state i) ++ number_bytes (state i) (at i) count) in
    let image : List ℕ = c.into_bytes.result.items in
    let written : WritesAscending (λ order. (c.in_ok-bytes.bytes ++ nibble_bytes R) ++ coupon_bytes order) (set_of (exceptions R)) image =
    subst (WritesAscending (λ order. (c.in_ok-bytes.bytes ++ nibble_bytes R) ++ coupon_bytes order) (set_of (exceptions R))) (sym c.into_bytes.ensures) c.in_ok-written.ensures.ok in
    subst (λ k. WritesRegisters image k Hll4 c.args.self.now.stored.registers c.args.self.now.stored.state) (sym c.requires)
    (subst (λ (z : FourBits). WritesRegisters image z.stored.lg_k Hll4 z.stored.registers z.stored.state) view
    (image_is x.registers.lg_k R x.state count c.exception_count-count.ensures.count c.in_ok-bytes.bytes image start written))
