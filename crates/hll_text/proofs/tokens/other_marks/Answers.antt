-- SPDX-License-Identifier: Apache-2.0
use Rattle.hll_text.proofs.LaneLemmas.{other_mask}
use Rattle.hll_text.proofs.tokens.other_marks.Goals as goal

pub returns : goal.returns
returns c = other_mask c.args.text.now c.requires c.type_inv.text
