-- SPDX-License-Identifier: Apache-2.0
use Rattle.std.proofs.Common.{◌≡◌}
use Rattle.hll_vectors.proofs.registers.set_in.Given as goal

-- the array keeps its size
abbrev pub invariant-loop-slot : goal.invariant-loop-slot
invariant-loop-slot l = l.array.lg_k ≡ 4
