-- SPDX-License-Identifier: Apache-2.0
use Rattle.std.proofs.Common.{length, arith}
use Rattle.hll_c.proofs.StringsByNumber.{between_within}
use Rattle.hll_c.proofs.strings.Between.bounds_of.Goals as goal

pub returns-clause-order : goal.returns-clause-order
returns-clause-order c =
    let at = between_within (length c.args.self.now.bytes.now) c.args.self.now.offsets.now c.args.number c.requires.are (omega (arith, c.requires.within)) in
    (omega (arith, at.0), omega (arith, at.1))
