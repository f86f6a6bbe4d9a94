-- SPDX-License-Identifier: Apache-2.0
-- How the buckets of an image were read.
use Rattle.hll_coupons.specs.declared.hash_set.Reading.{Reading}
use Rattle.hll_coupons.specs.declared.hash_set.Reading.TheVariants.{Whole, Cut}

-- what holds if all buckets were read
abbrev pub IfWhole : Reading → Type 0 → Type 0
IfWhole Whole P = P
IfWhole Cut P = Unit {0}
