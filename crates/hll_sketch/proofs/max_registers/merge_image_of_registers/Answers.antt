-- SPDX-License-Identifier: Apache-2.0
use Rattle.hll_sketch.proofs.MaxBytes.{max_of_registers}
use Rattle.hll_sketch.proofs.max_registers.merge_image_of_registers.Goals as goal

pub returns-in_ok-source-in-Hll4-clause-ok : goal.returns-in_ok-source-in-Hll4-clause-ok
returns-in_ok-source-in-Hll4-clause-ok g c =
    max_of_registers c.args.lg_k c.args.image.now c.args.registers.now c.max_registers.new.registers c.max_registers.result _ c.in_ok-source-in-Hll4.ensures.ok c.max_registers.ensures

pub returns-in_ok-source-in-Hll6-clause-ok : goal.returns-in_ok-source-in-Hll6-clause-ok
returns-in_ok-source-in-Hll6-clause-ok g c =
    max_of_registers c.args.lg_k c.args.image.now c.args.registers.now c.max_registers-in-Hll6.new.registers c.max_registers-in-Hll6.result _ c.in_ok-source-in-Hll6.ensures.ok c.max_registers-in-Hll6.ensures

pub returns-in_ok-source-in-Hll8-clause-ok : goal.returns-in_ok-source-in-Hll8-clause-ok
returns-in_ok-source-in-Hll8-clause-ok g c =
    max_of_registers c.args.lg_k c.args.image.now c.args.registers.now c.max_registers-in-Hll8.new.registers c.max_registers-in-Hll8.result _ c.in_ok-source-in-Hll8.ensures.ok c.max_registers-in-Hll8.ensures
