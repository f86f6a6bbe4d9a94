-- SPDX-License-Identifier: Apache-2.0
-- Coupons of known hashes.
use Rattle.std.specs.Prelude.{◌≡◌, ◌^◌, refl}
use Rattle.std.specs.Int.Count.{count_leading_zeros}
use Rattle.hll_coupons.specs.Pair.{slot_of, value_of, pair}
use Rattle.hll_coupons.specs.Hashed.{coupon_of_words}

-- no bit of the second half is set
pub coupon_of_words-zero : coupon_of_words 0 0 ≡ 0xfc000000
unfolding count_leading_zeros
coupon_of_words-zero = refl

pub value_of-zero : value_of (coupon_of_words 0 0) ≡ 63
unfolding count_leading_zeros
value_of-zero = refl

-- the first bit is set
pub value_of-first : value_of (coupon_of_words 0 (2 ^ 63)) ≡ 1
unfolding count_leading_zeros
value_of-first = refl

-- the bits near the end
pub value_of-four : value_of (coupon_of_words 0 4) ≡ 62
unfolding count_leading_zeros
value_of-four = refl

pub value_of-two : value_of (coupon_of_words 0 2) ≡ 63
unfolding count_leading_zeros
value_of-two = refl

pub value_of-one : value_of (coupon_of_words 0 1) ≡ 63
unfolding count_leading_zeros
value_of-one = refl

-- the slot is the first raw coupon modulo 2^26
pub slot_of-folded : slot_of (coupon_of_words 67108869 (2 ^ 63)) ≡ 5
unfolding count_leading_zeros
slot_of-folded = refl

-- the parts of a pair
pub slot_of-pair : slot_of (pair 12345 42) ≡ 12345
slot_of-pair = refl

pub value_of-pair : value_of (pair 12345 42) ≡ 42
value_of-pair = refl

-- slot 5 with value 3
pub pair-five_three : pair 5 3 ≡ 201326597
pair-five_three = refl
