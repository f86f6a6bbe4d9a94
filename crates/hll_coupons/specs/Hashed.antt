-- SPDX-License-Identifier: Apache-2.0
-- The coupon of hashed bytes (docs/MODEL.md, "Coupons of values").
use Rattle.std.specs.Prelude.{ℕ, ◌+◌, List, min}
use Rattle.std.specs.Int.{w64, leading_zeros}
use Rattle.hll_base.specs.Hash.{Halves, hash, default_seed}
use Rattle.hll_coupons.specs.Pair.{slot_of, pair}

-- the raw coupon of the two halves of a hash: the slot is the low 26 bits of the first half, the value is the number of
-- leading zeros of the second half, at most 62, plus one
abbrev pub coupon_of_words : ℕ → ℕ → ℕ
coupon_of_words lo hi = pair (slot_of lo) (min (leading_zeros w64 hi) 62 + 1)

-- the raw coupon of a hash
abbrev pub coupon_of_halves : Halves → ℕ
coupon_of_halves words = coupon_of_words words.first words.second

-- the raw coupon of the hash of bytes at the default seed
abbrev pub coupon_of_bytes : List ℕ → ℕ
coupon_of_bytes bytes = coupon_of_halves (hash default_seed bytes)
