-- SPDX-License-Identifier: Apache-2.0
use Rattle.hll_text.proofs.FaultLemmas.{IfErr-reading}
use Rattle.hll_text.proofs.reading.faults_of_lines.Goals as goal

pub returns : goal.returns
returns c = IfErr-reading
