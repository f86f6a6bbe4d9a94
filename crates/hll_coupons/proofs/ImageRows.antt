-- SPDX-License-Identifier: Apache-2.0
-- Images of known coupons, written and read.
use Rattle.std.specs.Prelude.{◌≡◌, true, false, [], ◌∷◌, refl}
use Rattle.hll_coupons.specs.Pair.{pair}
use Rattle.hll_coupons.specs.Coupons.{list_bytes, set_bytes, mode_byte, coupons_at}
use Rattle.hll_base.specs.declared.hll_type.HllType.TheVariants.{Hll4, Hll6, Hll8}

-- a list with no coupon, and with one
pub list_bytes-empty : list_bytes 10 Hll8 [] ≡ 2 ∷ 1 ∷ 7 ∷ 10 ∷ 3 ∷ 12 ∷ 0 ∷ 8 ∷ []
list_bytes-empty = refl

pub list_bytes-one : list_bytes 10 Hll8 (pair 5 3 ∷ []) ≡ 2 ∷ 1 ∷ 7 ∷ 10 ∷ 3 ∷ 8 ∷ 1 ∷ 8 ∷ 5 ∷ 0 ∷ 0 ∷ 12 ∷ []
list_bytes-one = refl

-- a set with two coupons
pub set_bytes-two : set_bytes 12 Hll8 5 (pair 16 1 ∷ pair 17 2 ∷ []) ≡ 3 ∷ 1 ∷ 7 ∷ 12 ∷ 5 ∷ 8 ∷ 0 ∷ 9 ∷ 2 ∷ 0 ∷ 0 ∷ 0 ∷ 16 ∷ 0 ∷ 0 ∷ 4 ∷ 17 ∷ 0 ∷ 0 ∷ 8 ∷ []
set_bytes-two = refl

-- the mode bytes of the other widths
pub mode_byte-list : mode_byte 0 Hll4 ∷ mode_byte 0 Hll6 ∷ mode_byte 0 Hll8 ∷ [] ≡ 0 ∷ 4 ∷ 8 ∷ []
mode_byte-list = refl

pub mode_byte-set : mode_byte 1 Hll4 ∷ mode_byte 1 Hll6 ∷ mode_byte 1 Hll8 ∷ [] ≡ 1 ∷ 5 ∷ 9 ∷ []
mode_byte-set = refl

pub mode_byte-hll : mode_byte 2 Hll4 ∷ mode_byte 2 Hll6 ∷ mode_byte 2 Hll8 ∷ [] ≡ 2 ∷ 6 ∷ 10 ∷ []
mode_byte-hll = refl

-- what is written is read, also with an empty bucket between
pub coupons_at-compact : coupons_at true 2 (16 ∷ 0 ∷ 0 ∷ 4 ∷ 17 ∷ 0 ∷ 0 ∷ 8 ∷ 255 ∷ []) ≡ pair 16 1 ∷ pair 17 2 ∷ []
coupons_at-compact = refl

pub coupons_at-updatable : coupons_at false 3 (16 ∷ 0 ∷ 0 ∷ 4 ∷ 0 ∷ 0 ∷ 0 ∷ 0 ∷ 17 ∷ 0 ∷ 0 ∷ 8 ∷ []) ≡ pair 16 1 ∷ pair 17 2 ∷ []
coupons_at-updatable = refl
