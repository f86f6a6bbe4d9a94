-- SPDX-License-Identifier: Apache-2.0
use Rattle.std.proofs.Common.{sym}
use Rattle.hll_c.proofs.StringsByNumber.{length-strings}
use Rattle.hll_c.proofs.strings.EndedStrings.count.Goals as goal

pub returns : goal.returns
returns c = sym (length-strings 0 c.args.self.now.bytes.now c.args.self.now.ends.now)
