-- SPDX-License-Identifier: Apache-2.0
use Rattle.std.proofs.Common.{length, ap, sym, ◌∙◌}
use Rattle.hll_base.proofs.Joins.{length-join}
use Rattle.hll_state.proofs.GreatestBytes.{greater_lanes}
use Rattle.hll_state.proofs.registers.greater_lanes.Goals as goal

pub returns-clause-is : goal.returns-clause-is
returns-clause-is c = greater_lanes c.args.lanes c.args.bytes.now (c.requires ∙ sym c.told-bytes)

pub returns-clause-len : goal.returns-clause-len
returns-clause-len c = ap length (greater_lanes c.args.lanes c.args.bytes.now (c.requires ∙ sym c.told-bytes)) ∙ length-join c.args.lanes c.args.bytes.now (c.requires ∙ sym c.told-bytes) ∙ c.requires
