-- SPDX-License-Identifier: Apache-2.0
use Rattle.std.proofs.Common.{arith, ◌≡◌, ℕ, ◌-◌, ◌*◌, ◌%◌, ◌^◌, ◌<◌, ◌∙◌, ap, bit_and}
use Rattle.std.specs.Prelude.{min}
use Rattle.std.specs.Int.{bit_at}
use Rattle.std.proofs.lemmas.Nat.Bits.{bit_at_and, bit_at_mask_inside, bit_at_mask_below, bit_at-lt, ones_shl}
use Rattle.hll_coupons.proofs.blocks.from_bit.Goals as goal

masked : (n b j : ℕ) → b < 64 → bit_at (bit_and n (18446744073709551615 * 2 ^ b % 18446744073709551616)) j ≡ min (bit_at n j) (bit_at (2 ^ 64 - 2 ^ b) j)
masked n b j h = ap (λ m. bit_at (bit_and n m) j) (ones_shl 64 b (omega arith)) ∙ bit_at_and n (2 ^ 64 - 2 ^ b) j

pub returns-clause-low : goal.returns-clause-low
returns-clause-low c j l = masked c.args.block c.args.bit j c.requires ∙ ap (min (bit_at c.args.block j)) (bit_at_mask_below c.args.bit 64 j l) ∙ omega arith

pub returns-clause-high : goal.returns-clause-high
returns-clause-high c j l h =
    masked c.args.block c.args.bit j c.requires ∙ ap (min (bit_at c.args.block j)) (bit_at_mask_inside c.args.bit 64 j l h) ∙ omega (arith, bit_at-lt c.args.block j)
