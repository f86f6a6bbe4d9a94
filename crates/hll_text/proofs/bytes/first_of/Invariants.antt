-- SPDX-License-Identifier: Apache-2.0
use Rattle.std.proofs.Common.{◌*◌, ◌==◌}
use Rattle.hll_text.proofs.ByteLemmas.{NoneBefore}
use Rattle.hll_text.proofs.bytes.first_of.Given as goal

-- the byte is not in the blocks so far
abbrev pub invariant-loop-block : goal.invariant-loop-block
invariant-loop-block l = NoneBefore (λ b. b == l.byte) l.text (64 * l.block)
