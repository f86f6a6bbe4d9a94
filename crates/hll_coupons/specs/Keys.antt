-- SPDX-License-Identifier: Apache-2.0
-- The key of an entry: the raw coupon in a set, the slot in a table of exceptions (docs/MODEL.md, "Probing").
use Rattle.std.specs.Prelude.{ℕ}
use Rattle.hll_coupons.specs.Pair.{slot_of}
use Rattle.hll_coupons.specs.declared.search.Key.{Key}
use Rattle.hll_coupons.specs.declared.search.Key.TheVariants.{RawCoupon, Slot}

abbrev pub key_of : Key → ℕ → ℕ
key_of RawCoupon entry = entry
key_of Slot entry = slot_of entry
