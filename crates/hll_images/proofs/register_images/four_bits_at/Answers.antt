-- SPDX-License-Identifier: Apache-2.0
use Rattle.std.proofs.Common.{ap}
use Rattle.std.proofs.lemmas.Option.{IfSome_then}
use Rattle.hll_base.specs.declared.hll_type.HllType.TheVariants.{Hll4}
use Rattle.hll_sketch.specs.Image.{width_of_bits}
use Rattle.hll_images.proofs.RegisterImages.{filled_image}
use Rattle.hll_images.proofs.register_images.four_bits_at.Goals as goal

pub returns-in-Ok-clause-some : goal.returns-in-Ok-clause-some
returns-in-Ok-clause-some g c =
    IfSome_then c.image_parts.result c.image_parts.ensures λ image written.
    filled_image c.args.bytes.now image Hll4 c.in-Ok.source c.filled_state.result c.in-Ok.ensures.ok (ap width_of_bits c.requires.width) c.filled_state.ensures written
