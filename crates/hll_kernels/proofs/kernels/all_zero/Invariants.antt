-- SPDX-License-Identifier: Apache-2.0
use Rattle.std.proofs.Common.{◌≡◌, ◌*◌, ◌==◌, true, take}
use Rattle.std.specs.List.{list_all}
use Rattle.hll_kernels.proofs.kernels.all_zero.Given as goal

-- all bytes so far are 0
abbrev pub invariant-loop-block : goal.invariant-loop-block
invariant-loop-block l = list_all (λ b. b == 0) (take (l.block-index * 64) l.bytes) ≡ true
