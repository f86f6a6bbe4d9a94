-- SPDX-License-Identifier: Apache-2.0
use Rattle.hll_c.proofs.Images.{refuses_tested}
use Rattle.hll_c.proofs.image.check.Goals as goal

pub returns-clause-err : goal.returns-clause-err
returns-clause-err c = refuses_tested c.args.image.now c.check.result c.check.ensures.err c.check.ensures.compact c.check.ensures.updatable c.check.ensures.registers
