-- SPDX-License-Identifier: Apache-2.0
-- A table of buckets for coupons, in their order (docs/MODEL.md, "Tables").
use Rattle.std.specs.Prelude.{ℕ, ◌≡◌, ◌-◌, ◌^◌, ◌≤◌, List, [], ◌∷◌, ◌++◌, filter, nat_lt, length, All, replicate, if◌then◌else◌}
use Rattle.std.specs.FinSet as set
use Rattle.hll_coupons.specs.Pair.{Pairs, IsPair, set_of}

-- the logarithm of the number of buckets, and the buckets; 0 stands for an empty one
pub record Table : Type 0 where
  pub lg_size : ℕ
  pub buckets : List ℕ

-- the coupons of buckets, in their order
abbrev pub coupons_in : List ℕ → List ℕ
coupons_in buckets = filter (λ c. nat_lt 0 c) buckets

-- the coupons of a table as a set
abbrev pub coupons_of : Table → Pairs
coupons_of t = set_of (coupons_in t.buckets)

-- the number of buckets is a power of two, and the coupons are distinct and have values
pub record IsTable (t : Table) : Type 0 where
  pub small : t.lg_size ≤ 26
  pub size : length t.buckets ≡ 2 ^ t.lg_size
  pub distinct : set.len (coupons_of t) ≡ length (coupons_in t.buckets)
  pub valued : All IsPair (coupons_in t.buckets)

-- a table without coupons
abbrev pub empty_table : ℕ → Table
empty_table lg_size = record { lg_size = lg_size; buckets = replicate (2 ^ lg_size) 0 }

-- the coupons are in the first buckets, without gaps
abbrev pub IsFilledFromFront : Table → Type 0
IsFilledFromFront t = t.buckets ≡ coupons_in t.buckets ++ replicate (2 ^ t.lg_size - length (coupons_in t.buckets)) 0

-- a table with these coupons in its first buckets, in this order
abbrev pub filled_from_front : ℕ → List ℕ → Table
filled_from_front lg_size order = record { lg_size = lg_size; buckets = order ++ replicate (2 ^ lg_size - length order) 0 }

-- a list of coupons with one more at its end, unless it has the coupon already
abbrev pub coupons_with : List ℕ → ℕ → List ℕ
coupons_with order coupon = if set.contains (set_of order) coupon then order else order ++ coupon ∷ []
