-- SPDX-License-Identifier: Apache-2.0
use Rattle.std.proofs.Common.{◌++◌}
use Rattle.hll_registers.proofs.ImageParts.{one_byte}
use Rattle.hll_registers.proofs.image_parts.ImageParts.replacing_nibbles.Goals as goal

pub returns : goal.returns
returns c = λ i. c.nibble_start.ensures.bytes i ++ (one_byte c.args.replaced.0 c.args.nibbles.now c.args.replaced.1 c.requires.within i ++ c.args.exceptions.now)
