-- SPDX-License-Identifier: Apache-2.0
use Rattle.std.proofs.Common.{◌≡◌, take, length}
use Rattle.hll_c.specs.Info.{AreCountsOf}
use Rattle.hll_c.proofs.info.counts_of.Given as goal

-- the registers so far were counted
abbrev pub invariant-loop-value : goal.invariant-loop-value
invariant-loop-value l = AreCountsOf (take l.value-index l.registers) l.counts × (length l.counts ≡ 64)
