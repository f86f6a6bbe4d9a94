-- SPDX-License-Identifier: Apache-2.0
use Rattle.std.proofs.Common.{length, ◌-◌, sym}
use Rattle.hll_c.proofs.StringsByNumber.{string_between, length-strings_by}
use Rattle.hll_c.proofs.strings.BetweenStrings.count.Goals as goal

pub returns : goal.returns
returns c = sym (length-strings_by (string_between c.args.self.now.offsets.now c.args.self.now.bytes.now) (length c.args.self.now.offsets.now - 1))
