-- SPDX-License-Identifier: Apache-2.0
use Rattle.std.proofs.Common.{◌≡◌, take}
use Rattle.std.specs.Prelude.{min, fold}
use Rattle.hll_kernels.proofs.kernels.least_of.Given as goal

-- the least so far
abbrev pub invariant-loop-value : goal.invariant-loop-value
invariant-loop-value l = l.least ≡ fold min 63 (take l.value-index l.values)
