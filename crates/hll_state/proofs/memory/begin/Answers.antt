-- SPDX-License-Identifier: Apache-2.0
use Rattle.std.proofs.Common.{refl}
use Rattle.hll_state.proofs.memory.begin.Goals as goal

pub returns-in_default : goal.returns-in_default
returns-in_default c = record { none = c.in_default.ensures.none; same = refl }
