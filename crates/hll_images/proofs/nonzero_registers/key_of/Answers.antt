-- SPDX-License-Identifier: Apache-2.0
use Rattle.std.proofs.Common.{◌≡◌, ℕ, ◌+◌, ◌-◌, ◌*◌, ◌%◌, ◌^◌, ◌≤◌, ap, arith}
use Rattle.std.proofs.lemmas.Nat.{pow_below}
use Rattle.hll_coupons.specs.Pair.{slot_of, value_of}
use Rattle.hll_images.proofs.NonzeroRegisters.{value_of_one, key_is}
use Rattle.hll_images.proofs.nonzero_registers.key_of.Goals as goal

size : (k : ℕ) → k ≤ 21 → 1 * 2 ^ k % 4294967296 ≡ 2 ^ k
size k small = omega (arith, pow_below k 32 (omega arith))

pub returns-clause-value : goal.returns-clause-value
returns-clause-value c s = value_of_one c.args.lg_k s c.args.raw _ (omega arith) (ap (λ m. slot_of c.args.raw % m * 64 + (63 - value_of c.args.raw)) (size c.args.lg_k c.requires))

pub returns-clause-key : goal.returns-clause-key
returns-clause-key c some = key_is c.args.lg_k c.args.raw _ (omega arith) some (ap (λ m. slot_of c.args.raw % m * 64 + (63 - value_of c.args.raw)) (size c.args.lg_k c.requires))
