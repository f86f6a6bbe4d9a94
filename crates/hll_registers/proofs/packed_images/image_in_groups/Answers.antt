-- SPDX-License-Identifier: Apache-2.0
use Rattle.std.proofs.Common.{arith}
use Rattle.std.proofs.Math.Pow.{pow_mono}
use Rattle.hll_registers.proofs.FourBitStores.{sixteens}
use Rattle.hll_registers.proofs.packed_images.image_in_groups.Goals as goal

pub append_groups-requires-clause-whole : goal.append_groups-requires-clause-whole
append_groups-requires-clause-whole g c = omega (arith, c.requires.registers.size, sixteens c.args.lg_k c.requires.least)

pub append_groups-requires-clause-few : goal.append_groups-requires-clause-few
append_groups-requires-clause-few g c = omega (arith, c.requires.registers.size, pow_mono c.requires.most)
