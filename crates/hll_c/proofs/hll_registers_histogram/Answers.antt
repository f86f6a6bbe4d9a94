-- SPDX-License-Identifier: Apache-2.0
use Rattle.hll_c.specs.ByteRegisters.{RefusesRegisters, SaysCounts}
use Rattle.hll_c.proofs.Answers.{reports_of}
use Rattle.hll_c.proofs.hll_registers_histogram.Goals as goal

pub returns : goal.returns
returns c = reports_of (SaysCounts c.args.registers.now) (RefusesRegisters c.args.registers.now) c.histogram.result c.args.histogram.now c.report.new.place c.report.result c.histogram.ensures.ok c.histogram.ensures.err c.report.ensures
