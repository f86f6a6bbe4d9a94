-- SPDX-License-Identifier: Apache-2.0
use Rattle.hll_images.proofs.ImageRegisters.{lying}
use Rattle.hll_images.proofs.borrowed_registers.lying_registers.Goals as goal

pub returns-in_ok-registers-in-Hll4-clause-ok : goal.returns-in_ok-registers-in-Hll4-clause-ok
returns-in_ok-registers-in-Hll4-clause-ok g c = lying c.args.image.now c.in_ok-registers-in-Hll4.registers c.in_ok-registers-in-Hll4.ensures.ok c.lg_k-lg_k.ensures.legal

pub returns-in_ok-registers-in-Hll6-clause-ok : goal.returns-in_ok-registers-in-Hll6-clause-ok
returns-in_ok-registers-in-Hll6-clause-ok g c = lying c.args.image.now c.in_ok-registers-in-Hll6.registers c.in_ok-registers-in-Hll6.ensures.ok c.lg_k-lg_k-in-Hll6.ensures.legal

pub returns-in_ok-registers-in-Hll8-clause-ok : goal.returns-in_ok-registers-in-Hll8-clause-ok
returns-in_ok-registers-in-Hll8-clause-ok g c = lying c.args.image.now c.in_ok-registers-in-Hll8.registers c.in_ok-registers-in-Hll8.ensures.ok c.lg_k-lg_k-in-Hll8.ensures.legal
