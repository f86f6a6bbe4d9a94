-- SPDX-License-Identifier: Apache-2.0
use Rattle.std.proofs.Common.{◌<◌, All}
use Rattle.hll_registers.proofs.FourBits.{FallenSoFar}
use Rattle.hll_registers.proofs.exception_map.put_fallen_entries.Given as goal

abbrev pub invariant-loop-slot : goal.invariant-loop-slot
invariant-loop-slot g l = record {
  fallen : FallenSoFar l.map l.minimum l.fn.bytes l.bytes l.yielded;
  fits : All (λ b. b < 256) l.fn.bytes → All (λ b. b < 256) l.bytes;
}
