-- SPDX-License-Identifier: Apache-2.0
use Rattle.std.proofs.Common.{map, take}
use Rattle.hll_text.specs.Step.{step_of}
use Rattle.hll_merge.specs.Evaluate.{RunsSteps}
use Rattle.hll_merge.proofs.evaluate.carry_steps.Given as goal

-- the steps so far were carried out, and counted
abbrev pub invariant-loop-step : goal.invariant-loop-step
invariant-loop-step g l = RunsSteps (map step_of (take l.step-index l.steps)) l.stack l.number
