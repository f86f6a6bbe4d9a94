-- SPDX-License-Identifier: Apache-2.0
use Rattle.hll_kernels.proofs.SixBitLanes.{field_lanes}
use Rattle.hll_kernels.proofs.groups.field.Goals as goal

pub returns : goal.returns
returns c = field_lanes 4 c.args.from c.args.words c.fits-words.0
