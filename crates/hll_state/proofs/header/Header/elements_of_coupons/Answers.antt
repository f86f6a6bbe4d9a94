-- SPDX-License-Identifier: Apache-2.0
use Rattle.std.proofs.Common.{◌^◌, ◌<◌, [], ◌∷◌, Some, sym, subst, ◌∙◌, arith}
use Rattle.hll_state.specs.Header.{IsHeldWithin}
use Rattle.hll_state.specs.declared.header.Header.{Header}
use Rattle.hll_state.proofs.Numbers.{coupons_said, written_number, bit_small}
use Rattle.hll_state.proofs.Rooms.{size_fits, most_fits}
use Rattle.hll_state.proofs.header.Header.elements_of_coupons.Goals as goal

pub returns : goal.returns
returns c =
    let h : Header = c.args.self.now in
    let is = c.requires.within.1 in
    let within = subst (λ held. IsHeldWithin h.lg_k held c.requires.within.0) c.requires.held is.held in
    let few : c.args.coupons.run.used < 2 ^ 32 = most_fits h.lg_k c.args.coupons.run.used is.lg_k.high within.used in
    coupons_said h.lg_k h.widths c.args.coupons _ _ _ _ _ _ _ (0 ∷ 0 ∷ 0 ∷ [])
    (omega (arith, is.lg_k.high)) is.widths (size_fits h.lg_k c.args.coupons.lg_size is.lg_k.high within.size)
    (written_number _ _ (omega arith) c.to_le_bytes.ensures)
    (written_number _ _ (omega (arith, is.lg_k.high, c.from.ensures)) c.to_le_bytes-2.ensures ∙ c.from.ensures)
    (written_number _ _ (omega (arith, is.widths, c.from-2.ensures)) c.to_le_bytes-3.ensures ∙ c.from-2.ensures)
    (written_number _ _ (omega (arith, size_fits h.lg_k c.args.coupons.lg_size is.lg_k.high within.size, c.from-3.ensures)) c.to_le_bytes-4.ensures ∙ c.from-3.ensures)
    (written_number _ _ (omega (arith, bit_small c.args.coupons.added, c.bit.ensures)) c.to_le_bytes-5.ensures ∙ c.bit.ensures)
    (written_number _ _ (omega (arith, within.run, few)) c.to_le_bytes-6.ensures)
    (written_number _ _ few c.to_le_bytes-7.ensures)
    ∙ (λ i. Some (record h { held = sym c.requires.held i }))
