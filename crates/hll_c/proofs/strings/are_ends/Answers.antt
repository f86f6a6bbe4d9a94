-- SPDX-License-Identifier: Apache-2.0
use Rattle.std.proofs.Common.{arith}
use Rattle.hll_c.proofs.strings.are_ends.Goals as goal

pub loop-end-init : goal.loop-end-init
loop-end-init c = (λ both. both.1, λ are. (omega arith, are))
