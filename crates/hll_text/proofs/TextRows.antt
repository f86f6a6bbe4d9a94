-- SPDX-License-Identifier: Apache-2.0
-- Examples of lines and what they say, each proved by computing it.
use Rattle.std.specs.Prelude.{◌≡◌, refl, [], ◌∷◌, ◌++◌, Some, None, Ok, Err, codes}
use Rattle.std.specs.Str.Lines.{lines}
use Rattle.hex.proofs.OnLiterals.{hex_on_literals}
use Rattle.hll_base.specs.declared.hll_type.HllType.TheVariants.{Hll4, Hll8}
use Rattle.hll_text.specs.declared.fault.Fault.TheVariants.{Syntax, Range, Hex}
use Rattle.hll_text.specs.Text.{reading, ended_lines, open_line, new, image, coupon, union, fold}

row-new : reading (codes "new 10 8") ≡ Ok (Some (new 10 Hll8))
row-new = refl

row-leading_zeros : reading (codes "new 00000010 8") ≡ Ok (Some (new 10 Hll8))
row-leading_zeros = refl

row-empty : reading [] ≡ Ok None
row-empty = refl

row-comment : reading (codes "# new") ≡ Ok None
row-comment = refl

row-two_spaces : reading (codes "new  10 8") ≡ Err Syntax
row-two_spaces = refl

row-first_space : reading (codes " new 10 8") ≡ Err Syntax
row-first_space = refl

row-last_space : reading (codes "new 10 8 ") ≡ Err Syntax
row-last_space = refl

row-nine_digits : reading (codes "new 123456789 8") ≡ Err Syntax
row-nine_digits = refl

row-sign : reading (codes "new +10 8") ≡ Err Syntax
row-sign = refl

row-other_word : reading (codes "News 10 8") ≡ Err Syntax
row-other_word = refl

row-three_numbers : reading (codes "new 10 8 8") ≡ Err Syntax
row-three_numbers = refl

-- a token that is not a number is reported before a number out of range
row-syntax_first : reading (codes "new 3 x") ≡ Err Syntax
row-syntax_first = refl

row-range : reading (codes "new 3 8") ≡ Err Range
row-range = refl

row-width : reading (codes "new 10 5") ≡ Err Range
row-width = refl

row-coupon : reading (codes "coupon 67108863 63") ≡ Ok (Some (coupon 67108863 63))
row-coupon = refl

row-slot : reading (codes "coupon 67108864 1") ≡ Err Range
row-slot = refl

row-value : reading (codes "coupon 1 0") ≡ Err Range
row-value = refl

row-union : reading (codes "union 0 12 4") ≡ Ok (Some (union 0 12 Hll4))
row-union = refl

row-bound : reading (codes "union 2 22 4") ≡ Err Range
row-bound = refl

row-image_alone : reading (codes "image") ≡ Err Syntax
row-image_alone = refl

row-image_space : reading (codes "image ") ≡ Err Syntax
row-image_space = refl

row-image_words : reading (codes "image 02 01") ≡ Err Syntax
row-image_words = refl

row-upper : reading (codes "image 020A") ≡ Ok (Some (image (2 ∷ 10 ∷ [])))
unfolding hex_on_literals
row-upper = refl

row-lower : reading (codes "image 020a") ≡ Ok (Some (image (2 ∷ 10 ∷ [])))
unfolding hex_on_literals
row-lower = refl

row-digit : reading (codes "image 0g") ≡ Err Hex
unfolding hex_on_literals
row-digit = refl

row-odd : reading (codes "image 020") ≡ Err Hex
row-odd = refl

-- a tab is not a space
row-tab : reading (codes "image 0" ++ 9 ∷ []) ≡ Err Hex
unfolding hex_on_literals
row-tab = refl

-- ---- lines

row-no_text : lines [] ≡ []
row-no_text = refl

row-one_newline : lines (10 ∷ []) ≡ [] ∷ []
row-one_newline = refl

-- one CR before an LF belongs to the line's end; a second CR does not, nor does one at the end of the text
row-returns : lines (65 ∷ 13 ∷ 13 ∷ 10 ∷ 66 ∷ 13 ∷ []) ≡ (65 ∷ 13 ∷ []) ∷ (66 ∷ 13 ∷ []) ∷ []
row-returns = refl

row-ended : ended_lines (65 ∷ 13 ∷ 10 ∷ 66 ∷ []) ≡ (65 ∷ []) ∷ []
row-ended = refl

row-none_ended : ended_lines (66 ∷ []) ≡ []
row-none_ended = refl

row-fold : reading (codes "fold 04") ≡ Ok (Some (fold 4))
row-fold = refl

row-fold_range : reading (codes "fold 22") ≡ Err Range
row-fold_range = refl

row-fold_words : reading (codes "fold 4 8") ≡ Err Syntax
row-fold_words = refl

row-open_line : open_line (codes "new 10 8" ++ 10 ∷ codes "new") ≡ codes "new"
row-open_line = refl

row-no_open_line : open_line (codes "new" ++ 10 ∷ []) ≡ []
row-no_open_line = refl
