-- SPDX-License-Identifier: Apache-2.0
use Rattle.std.proofs.Common.{subst, sym, ap, ◌∙◌}
use Rattle.std.specs.Option.{IfSome}
use Rattle.hll_images.specs.CouponImages.{AreFoldedRegisters}
use Rattle.hll_registers.specs.State.{cleared_state}
use Rattle.hll_sketch.specs.Value.{Sketch, registers}
use Rattle.hll_c.specs.Calls.{IsMadeOf, IsFoldOf}
use Rattle.hll_c.proofs.Answers.{made_with_fields}
use Rattle.hll_c.proofs.image.folded_to_registers.Goals as goal

pub returns-clause-some : goal.returns-clause-some
returns-clause-some c =
    let of = subst (λ o. IfSome o (λ r. AreFoldedRegisters c.args.lg_k c.args.image.now r.hll_type r.values.items)) c.in-Some.is c.in_ok-folded.ensures.some in
    let made : IsMadeOf c.args.image.now (IsFoldOf c.args.lg_k) _ = record { sketch = of.sketch; read = of.read; is_made = record { lg_k_is = c.requires; within = of.within; is = ap (λ R. let y : Sketch = record { lg_k = c.args.lg_k; width = c.in-Some.folded.hll_type; content = registers R cleared_state } in y) c.deref.ensures.value ∙ sym of.is } } in
    made_with_fields (IsMadeOf c.args.image.now (IsFoldOf c.args.lg_k)) _ c.in_ok-written.written.items made c.in_ok-written.ensures.ok
