-- SPDX-License-Identifier: Apache-2.0
use Rattle.hll_c.specs.ByteRegisters.{IsOfBytes, RefusesBytes, bytes_memory}
use Rattle.hll_c.proofs.Answers.{answers_of}
use Rattle.hll_c.proofs.hll_registers_image.Goals as goal

pub returns : goal.returns
returns c =
    answers_of (IsOfBytes c.args.width c.args.registers.now) (RefusesBytes c.args.width c.args.registers.now) (λ y made. bytes_memory made.of made.width_is made.are)
    c.sketch.result c.args.out.now c.put_image.new.out c.args.size.now c.put_image.new.size c.put_image.result c.sketch.ensures.ok c.sketch.ensures.err c.put_image.ensures
