-- SPDX-License-Identifier: Apache-2.0
use Rattle.std.proofs.Common.{ap, subst, sym, ◌∙◌}
use Rattle.hll_registers.specs.Payload.{WritesRegisters}
use Rattle.hll_sketch.specs.declared.header.Header.{Header}
use Rattle.hll_images.proofs.RegisterImages.{filled_image}
use Rattle.hll_images.proofs.register_images.register_image_at.Goals as goal

pub returns-in_ok-source-in-Hll-Hll6-Hll6-clause-some : goal.returns-in_ok-source-in-Hll-Hll6-Hll6-clause-some
returns-in_ok-source-in-Hll-Hll6-Hll6-clause-some g c =
    let source = c.in_ok-source-in-Hll-Hll6-Hll6 in
    let width = sym (ap (λ (h : Header). h.hll_type) c.in_ok-header.ensures.ok.2) ∙ c.in-Hll-Hll6-Hll6.is-1 ∙ sym c.in-Hll-Hll6-Hll6.is-2 in
    filled_image c.args.bytes.now c.image_parts.result c.args.hll_type source.source c.filled_state.result source.ensures.ok width c.filled_state.ensures
    (subst (λ w. WritesRegisters c.image_parts.result source.source.lg_k w source.source.registers c.filled_state.result) (sym c.in-Hll-Hll6-Hll6.is-2) c.image_parts.ensures)

pub returns-in_ok-source-in-Hll-Hll8-Hll8-clause-some : goal.returns-in_ok-source-in-Hll-Hll8-Hll8-clause-some
returns-in_ok-source-in-Hll-Hll8-Hll8-clause-some g c =
    let source = c.in_ok-source-in-Hll-Hll8-Hll8 in
    let state = c.filled_state-in-Hll-Hll8-Hll8 in
    let image = c.image_parts-in-Hll-Hll8-Hll8 in
    let width = sym (ap (λ (h : Header). h.hll_type) c.in_ok-header.ensures.ok.2) ∙ c.in-Hll-Hll8-Hll8.is-1 ∙ sym c.in-Hll-Hll8-Hll8.is-2 in
    filled_image c.args.bytes.now image.result c.args.hll_type source.source state.result source.ensures.ok width state.ensures
    (subst (λ w. WritesRegisters image.result source.source.lg_k w source.source.registers state.result) (sym c.in-Hll-Hll8-Hll8.is-2) image.ensures)
