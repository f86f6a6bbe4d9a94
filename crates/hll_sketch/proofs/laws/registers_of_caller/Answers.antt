-- SPDX-License-Identifier: Apache-2.0
use Rattle.hll_sketch.proofs.MaxUnions.{max_is_union}
use Rattle.hll_sketch.proofs.laws.registers_of_caller.Goals as goal

pub returns : goal.returns
returns c = record { max_is_union = max_is_union }
