-- SPDX-License-Identifier: Apache-2.0
use Rattle.std.proofs.Common.{◌≡◌, ℕ, List, [], Some, length, get_or, rules, sym, ap, ◌∙◌, arith}
use Rattle.hll_kernels.proofs.Grouping.{three}
use Rattle.hll_state.specs.declared.header.Header.{Header}
use Rattle.hll_state.specs.declared.header.Held.TheVariants.{Registers}
use Rattle.hll_state.proofs.Numbers.{registers_said, written_number, bit_small}
use Rattle.hll_state.proofs.header.Header.elements_of_registers.Goals as goal

pub returns : goal.returns
returns c =
    let h : Header = c.args.self.now in
    let is = c.requires.within.1 in
    let ws : List ℕ = c.args.state.words in
    let long : length ws ≡ 3 = search rules in
    registers_said h.lg_k h.widths (get_or ws 0 0) (get_or ws 1 0) (get_or ws 2 0) c.args.state.out_of_order _ _ _ _ _ _ _ _ _ _ []
    (omega (arith, is.lg_k.high)) is.widths
    (written_number _ _ (omega arith) c.to_le_bytes.ensures)
    (written_number _ _ (omega (arith, is.lg_k.high, c.from.ensures)) c.to_le_bytes-2.ensures ∙ c.from.ensures)
    (written_number _ _ (omega (arith, is.widths, c.from-2.ensures)) c.to_le_bytes-3.ensures ∙ c.from-2.ensures)
    (written_number _ _ (omega (arith, bit_small c.args.state.out_of_order, c.bit.ensures)) c.to_le_bytes-4.ensures ∙ c.bit.ensures)
    (written_number _ _ c.low_half.type_inv c.to_le_bytes-5.ensures ∙ c.low_half.ensures)
    (written_number _ _ c.high_half.type_inv c.to_le_bytes-6.ensures ∙ c.high_half.ensures)
    (written_number _ _ c.low_half-2.type_inv c.to_le_bytes-7.ensures ∙ c.low_half-2.ensures)
    (written_number _ _ c.high_half-2.type_inv c.to_le_bytes-8.ensures ∙ c.high_half-2.ensures)
    (written_number _ _ c.low_half-3.type_inv c.to_le_bytes-9.ensures ∙ c.low_half-3.ensures)
    (written_number _ _ c.high_half-3.type_inv c.to_le_bytes-10.ensures ∙ c.high_half-3.ensures)
    ∙ (λ i. Some (record h { held = (ap (λ words. Registers (record c.args.state { words = words })) (sym (three ws long)) ∙ sym c.requires.held) i }))
