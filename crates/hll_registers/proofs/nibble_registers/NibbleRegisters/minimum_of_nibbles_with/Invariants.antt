-- SPDX-License-Identifier: Apache-2.0
use Rattle.std.proofs.Common.{◌≡◌, ◌+◌, take, slice_set}
use Rattle.std.specs.Prelude.{min, fold}
use Rattle.hll_kernels.specs.Packed.{minimum}
use Rattle.hll_registers.proofs.nibble_registers.NibbleRegisters.minimum_of_nibbles_with.Given as goal

-- the least so far, or 15 above the minimum, if that is less
abbrev pub invariant-loop-other : goal.invariant-loop-other
invariant-loop-other g l = l.least ≡ min (fold min 63 (take l.other (slice_set l.self.registers l.slot l.value))) (minimum l.self.registers + 15)
