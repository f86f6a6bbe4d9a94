-- SPDX-License-Identifier: Apache-2.0
use Rattle.hll_estimate.specs.Estimate.{bias_of}
use Rattle.hll_estimate.specs.FixedPoint.{twice_alpha_of}
use Rattle.hll_estimate.proofs.estimate.twice_alpha.Goals as goal

pub returns-clause-value : goal.returns-clause-value
unfolding twice_alpha_of bias_of
returns-clause-value c = simp (c.divide.ensures.quotient, c.from-cube.ensures, c.from-2.ensures, c.from-3.ensures, c.from.ensures, c.from-registers.ensures, c.registers_of.ensures.value)
