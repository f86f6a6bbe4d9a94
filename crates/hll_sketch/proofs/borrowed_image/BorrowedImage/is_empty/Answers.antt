-- SPDX-License-Identifier: Apache-2.0
use Rattle.std.proofs.Common.{nat_eq, sym, ap, ◌∙◌}
use Rattle.hll_sketch.specs.BorrowedImage.{sketch_of_borrowed}
use Rattle.hll_sketch.specs.Value.{is_empty}
use Rattle.hll_sketch.proofs.Emptiness.{zeros-empty}
use Rattle.hll_sketch.proofs.borrowed_image.BorrowedImage.is_empty.Goals as goal

pub returns-in-Nibbles : goal.returns-in-Nibbles
returns-in-Nibbles g c = c.are_all_zero.ensures ∙ zeros-empty c.in-Nibbles.registers.registers ∙ ap (λ b. is_empty (sketch_of_borrowed b)) (sym c.in-Nibbles.is)

pub returns-in-Groups : goal.returns-in-Groups
returns-in-Groups g c = c.are_all_zero-in-Groups.ensures ∙ zeros-empty c.in-Groups.registers.registers ∙ ap (λ b. is_empty (sketch_of_borrowed b)) (sym c.in-Groups.is)

pub returns-in-Bytes : goal.returns-in-Bytes
returns-in-Bytes g c = c.are_all_zero-in-Bytes.ensures ∙ zeros-empty c.in-Bytes.registers.registers ∙ ap (λ b. is_empty (sketch_of_borrowed b)) (sym c.in-Bytes.is)

pub returns-in-Coupons : goal.returns-in-Coupons
returns-in-Coupons g c = ap (λ n. nat_eq n 0) (sym c.in-Coupons.coupons.once) ∙ ap (λ b. is_empty (sketch_of_borrowed b)) (sym c.in-Coupons.is)
