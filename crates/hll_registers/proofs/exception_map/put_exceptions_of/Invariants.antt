-- SPDX-License-Identifier: Apache-2.0
use Rattle.std.proofs.Common.{◌≡◌, ◌<◌, ◌≤◌, ℕ, None, slice_index}
use Rattle.hll_registers.specs.FourBits.{exception_in, exception_of, IsMapFor}
use Rattle.hll_registers.proofs.exception_map.put_exceptions_of.Given as goal

-- the exceptions of the slots so far
abbrev pub invariant-loop-slot : goal.invariant-loop-slot
invariant-loop-slot g l = record {
  map : IsMapFor l.registers.lg_k l.map;
  done : (s : ℕ) → l.from ≤ s → s < l.slot → exception_in l.map s ≡ exception_of l.registers.minimum (slice_index l.registers.values.now s);
  before : (s : ℕ) → s < l.from → exception_in l.map s ≡ exception_in l.initial.map s;
  left : (s : ℕ) → l.from ≤ s → l.slot ≤ s → exception_in l.map s ≡ None;
}
