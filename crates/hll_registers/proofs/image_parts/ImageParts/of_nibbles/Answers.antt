-- SPDX-License-Identifier: Apache-2.0
use Rattle.std.proofs.Common.{◌++◌}
use Rattle.hll_registers.proofs.ImageParts.{unchanged}
use Rattle.hll_registers.proofs.image_parts.ImageParts.of_nibbles.Goals as goal

pub returns : goal.returns
returns c = λ i. c.nibble_start.ensures.bytes i ++ (unchanged 0 c.args.nibbles.now i ++ c.args.exceptions.now)
