-- SPDX-License-Identifier: Apache-2.0
-- The constants of the image have the values in docs/FORMAT.md.
use Rattle.std.proofs.Common.{◌≡◌, [], ◌∷◌, refl}
use Rattle.hll_coupons.specs.declared.serialization.TheConstants.{SERIAL_VERSION, EMPTY_FLAG_MASK, COMPACT_FLAG_MASK, OUT_OF_ORDER_FLAG_MASK, LIST_PREINTS, HASH_SET_PREINTS, HLL_PREINTS, LIST_PREAMBLE_SIZE, SET_PREAMBLE_SIZE, HLL_PREAMBLE_SIZE, CUR_MODE_LIST, CUR_MODE_SET, CUR_MODE_HLL, TGT_HLL4, TGT_HLL6, TGT_HLL8, COUPON_SIZE_BYTES}

flags : SERIAL_VERSION ∷ EMPTY_FLAG_MASK ∷ COMPACT_FLAG_MASK ∷ OUT_OF_ORDER_FLAG_MASK ∷ [] ≡ 1 ∷ 4 ∷ 8 ∷ 16 ∷ []
flags = refl

preambles : LIST_PREINTS ∷ HASH_SET_PREINTS ∷ HLL_PREINTS ∷ LIST_PREAMBLE_SIZE ∷ SET_PREAMBLE_SIZE ∷ HLL_PREAMBLE_SIZE ∷ [] ≡ 2 ∷ 3 ∷ 10 ∷ 8 ∷ 12 ∷ 40 ∷ []
preambles = refl

modes : CUR_MODE_LIST ∷ CUR_MODE_SET ∷ CUR_MODE_HLL ∷ [] ≡ 0 ∷ 1 ∷ 2 ∷ []
modes = refl

widths : TGT_HLL4 ∷ TGT_HLL6 ∷ TGT_HLL8 ∷ COUPON_SIZE_BYTES ∷ [] ≡ 0 ∷ 1 ∷ 2 ∷ 4 ∷ []
widths = refl
