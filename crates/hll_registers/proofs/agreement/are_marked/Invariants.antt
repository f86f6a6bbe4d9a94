-- SPDX-License-Identifier: Apache-2.0
use Rattle.std.proofs.Common.{All, Some}
use Rattle.hll_kernels.specs.Packed.{nibble_at}
use Rattle.hll_registers.specs.Payload.{Agrees}
use Rattle.hll_registers.proofs.agreement.are_marked.Given as goal

-- each exception so far agrees
abbrev pub invariant-loop-slot : goal.invariant-loop-slot
invariant-loop-slot g l = All (λ p. Agrees l.minimum (nibble_at l.nibbles p.0) (Some p.1)) l.yielded
