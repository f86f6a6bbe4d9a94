-- SPDX-License-Identifier: Apache-2.0
use Rattle.hll_sketch.proofs.MaxBytes.{max_of_coupons}
use Rattle.hll_sketch.proofs.max_registers.merge_image.Goals as goal

pub returns-in-Some-clause-ok : goal.returns-in-Some-clause-ok
returns-in-Some-clause-ok g c = max_of_coupons c.args.lg_k c.args.image.now c.args.registers.now c.max_into.new.registers _ c.in-Some.ensures.some c.max_into.ensures
