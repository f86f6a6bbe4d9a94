-- SPDX-License-Identifier: Apache-2.0
use Rattle.std.proofs.Common.{refl, sym, subst, ◌∙◌, inl}
use Rattle.hll_sketch.specs.Refusal.{IsRefusal}
use Rattle.hll_sketch.proofs.SizedImages.{sized_if_read}
use Rattle.hll_sketch.proofs.read_image.fault_or_memory.Goals as goal
use Rattle.hll_sketch.proofs.read_image.fault_or_memory.Goals.{in-Ok, in-Err}

pub returns : goal.returns
returns g c =
    elim c.match-read_payload.branch [
      | in-Ok w ↦ subst (IsRefusal c.args.bytes.now) (sym (w.result-is ∙ w.new.ensures)) (record { first = inl refl; asked = λ _. sized_if_read c.args.bytes.now _ w.in-Ok.ensures.ok })
      | in-Err w ↦ subst (IsRefusal c.args.bytes.now) (sym w.result-is) w.in-Err.ensures.err
    ]
