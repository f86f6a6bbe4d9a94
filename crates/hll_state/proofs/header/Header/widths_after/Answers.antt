-- SPDX-License-Identifier: Apache-2.0
use Rattle.std.proofs.lemmas.Nat.{or_lt}
use Rattle.hll_state.proofs.header.Header.widths_after.Goals as goal

pub returns-in_default-clause-within : goal.returns-in_default-clause-within
returns-in_default-clause-within c = or_lt 3 c.args.self.now.widths c.args.widths c.requires.ours c.requires.widths
