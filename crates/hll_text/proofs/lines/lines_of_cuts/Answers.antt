-- SPDX-License-Identifier: Apache-2.0
use Rattle.hll_text.proofs.CutLemmas.{lines_of_cuts}
use Rattle.hll_text.proofs.lines.lines_of_cuts.Goals as goal

pub returns : goal.returns
returns c = lines_of_cuts
