-- SPDX-License-Identifier: Apache-2.0
use Rattle.std.proofs.Common.{sym, ◌∙◌}
use Rattle.hll_c.proofs.image.check_at.Goals as goal

pub returns-in-Err-clause-plain : goal.returns-in-Err-clause-plain
returns-in-Err-clause-plain c memory plain = c.in-Err.ensures.registers (sym c.refused_at.ensures.same ∙ memory) plain
