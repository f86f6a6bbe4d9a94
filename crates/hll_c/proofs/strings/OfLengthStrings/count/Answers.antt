-- SPDX-License-Identifier: Apache-2.0
use Rattle.std.proofs.Common.{length, ◌/◌, sym}
use Rattle.hll_c.proofs.StringsByNumber.{string_of_length, length-strings_by}
use Rattle.hll_c.proofs.strings.OfLengthStrings.count.Goals as goal

pub returns : goal.returns
returns c = sym (length-strings_by (string_of_length c.args.self.now.len c.args.self.now.bytes.now) (length c.args.self.now.bytes.now / c.args.self.now.len))
