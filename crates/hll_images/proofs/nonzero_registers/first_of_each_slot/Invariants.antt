-- SPDX-License-Identifier: Apache-2.0
use Rattle.std.proofs.Common.{◌≡◌, ◌++◌, drop}
use Rattle.hll_images.proofs.NonzeroRegisters.{firsts}
use Rattle.hll_images.proofs.nonzero_registers.first_of_each_slot.Given as goal

-- the first keys of the slots so far were found
abbrev pub invariant-loop-key : goal.invariant-loop-key
invariant-loop-key g l = l.found.items ++ firsts l.next (drop l.key-index l.keys) ≡ firsts 0 l.keys
