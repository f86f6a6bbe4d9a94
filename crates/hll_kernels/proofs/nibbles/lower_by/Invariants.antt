-- SPDX-License-Identifier: Apache-2.0
use Rattle.std.proofs.Common.{◌≡◌, ℕ, ◌*◌, ◌<◌, All, length}
use Rattle.hll_kernels.specs.Packed.{lowered_by}
use Rattle.hll_kernels.specs.Packed.{nibble_at}
use Rattle.hll_kernels.proofs.nibbles.lower_by.Given as goal

-- the nibbles after the steps so far
abbrev pub invariant-loop : goal.invariant-loop
invariant-loop l = record {
  nibbles : (s : ℕ) → s < 2 * length l.fn.bytes → nibble_at l.bytes s ≡ lowered_by l.counter (nibble_at l.fn.bytes s);
  len : length l.bytes ≡ length l.fn.bytes;
  fits : All (λ b. b < 256) l.bytes;
}
