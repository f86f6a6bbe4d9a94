-- SPDX-License-Identifier: Apache-2.0
use Rattle.hll_c.specs.ByteRegisters.{RefusesRegisters}
use Rattle.hll_c.specs.Estimates.{SaysEstimateOfBytes}
use Rattle.hll_c.proofs.Answers.{reports_of}
use Rattle.hll_c.proofs.hll_registers_estimate.Goals as goal

pub returns : goal.returns
returns c = reports_of (SaysEstimateOfBytes c.args.registers.now) (RefusesRegisters c.args.registers.now) c.estimate_of_bytes.result c.args.estimate.now c.report.new.place c.report.result c.estimate_of_bytes.ensures.ok c.estimate_of_bytes.ensures.err c.report.ensures
