-- SPDX-License-Identifier: Apache-2.0
use Rattle.std.proofs.Common.{◌≡◌, ℕ, All, take}
use Rattle.hll_coupons.specs.Fold.{greatest, value_at}
use Rattle.hll_images.specs.Keys.{value_in_key, IsKey}
use Rattle.hll_images.proofs.nonzero_registers.keys_of.Given as goal

-- the keys have the values of the raw coupons so far
abbrev pub invariant-loop-raw : goal.invariant-loop-raw
invariant-loop-raw g l = record {
  values : (s : ℕ) → greatest (value_at l.fn.lg_k s) (take l.raw-index l.raw_coupons) ≡ greatest (value_in_key s) l.keys.items;
  keys : All (IsKey l.fn.lg_k) l.keys.items;
}
