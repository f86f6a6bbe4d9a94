-- SPDX-License-Identifier: Apache-2.0
-- What comes after the header in the images of lists and sets, and what can be wrong with it (docs/FORMAT.md, "LIST"
-- and "SET"; docs/MODEL.md, "Images").
use Rattle.std.specs.Prelude.{◌≡◌, ◌≢◌, ℕ, ◌+◌, ◌*◌, ◌^◌, ◌≤◌, ◌<◌, ◌↔◌, Bool, if◌then◌else◌, IsTrue, List, length, drop, replicate}
use Rattle.std.specs.Int.{w32, from_le_bytes}
use Rattle.hll_base.specs.declared.error.Reason.{Reason}
use Rattle.hll_base.specs.declared.error.Reason.TheVariants.{Truncated, Count, Coupon}
use Rattle.hll_coupons.specs.Coupons.{coupons_at, AreCoupons}
use Rattle.hll_coupons.specs.Table.{Table, filled_from_front}
use Rattle.hll_coupons.specs.Probe.{PutsEach}

-- ---- a list

-- what the header says about a list: the logarithm of the number of its buckets, its count, and two flags
pub record ListShape : Type 0 where
  pub lg_size : ℕ
  pub count : ℕ
  pub empty : Bool
  pub compact : Bool

-- the record of these fields, in the order of a reader's arguments
abbrev pub shape_of_list : ℕ → ℕ → Bool → Bool → ListShape
shape_of_list lg_size count empty compact = record { lg_size = lg_size; count = count; empty = empty; compact = compact }

-- such a list may have this count, and the empty flag agrees with the count
pub record HasListCount (h : ListShape) : Type 0 where
  pub low : h.count ≤ 2 ^ h.lg_size
  pub flag : IsTrue h.empty ↔ (h.count ≡ 0)

-- how many buckets follow
abbrev pub list_buckets : ListShape → ℕ
list_buckets h = if h.empty then 0 else (if h.compact then h.count else 2 ^ h.lg_size)

-- the coupons, in their order
abbrev pub list_coupons : ListShape → List ℕ → List ℕ
list_coupons h bytes = coupons_at h.compact (list_buckets h) bytes

-- the bytes are the coupons of such a list, and no more
pub record IsListPayload (h : ListShape) (bytes : List ℕ) : Type 0 where
  pub count : HasListCount h
  pub size : length bytes ≡ 4 * list_buckets h
  pub are_coupons : AreCoupons (list_coupons h bytes)
  pub number : length (list_coupons h bytes) ≡ h.count

-- the table that is read: the coupons in their order, filled from the front
abbrev pub list_table : ListShape → List ℕ → Table
list_table h bytes = filled_from_front h.lg_size (list_coupons h bytes)

-- a check fails with this reason, and the bytes that it reads are there
pub data ListFault (h : ListShape) (bytes : List ℕ) : Reason → Type 0 where
  count : (HasListCount h → ⊥) → ListFault h bytes Count
  short : HasListCount h → length bytes < 4 * list_buckets h → ListFault h bytes Truncated
  coupon : HasListCount h → 4 * list_buckets h ≤ length bytes → (AreCoupons (list_coupons h bytes) → ⊥) → ListFault h bytes Coupon
  number : HasListCount h → 4 * list_buckets h ≤ length bytes → length (list_coupons h bytes) ≢ h.count → ListFault h bytes Count

-- ---- a set

-- what the header says about a set: the logarithm of the number of its buckets, and a flag
pub record SetShape : Type 0 where
  pub lg_size : ℕ
  pub compact : Bool

-- the record of these fields, in the order of a reader's arguments
abbrev pub shape_of_set : ℕ → Bool → SetShape
shape_of_set lg_size compact = record { lg_size = lg_size; compact = compact }

-- the count, four bytes
abbrev pub set_count : List ℕ → ℕ
set_count bytes = from_le_bytes w32 bytes

-- how many buckets follow
abbrev pub set_buckets : SetShape → List ℕ → ℕ
set_buckets h bytes = if h.compact then set_count bytes else 2 ^ h.lg_size

-- the coupons, in their order
abbrev pub set_coupons : SetShape → List ℕ → List ℕ
set_coupons h bytes = coupons_at h.compact (set_buckets h bytes) (drop 4 bytes)

-- the count is there, and leaves at least one bucket empty
pub record HasSetCount (h : SetShape) (bytes : List ℕ) : Type 0 where
  pub whole : 4 ≤ length bytes
  pub low : set_count bytes < 2 ^ h.lg_size

-- the bytes are the count and the coupons of such a set, and no more
pub record IsSetPayload (h : SetShape) (bytes : List ℕ) : Type 0 where
  pub count : HasSetCount h bytes
  pub size : length bytes ≡ 4 + 4 * set_buckets h bytes
  pub are_coupons : AreCoupons (set_coupons h bytes)
  pub number : length (set_coupons h bytes) ≡ set_count bytes

-- the table that is read: the coupons inserted by probing, in their order
pub record IsSetTable (h : SetShape) (bytes : List ℕ) (t : Table) : Type 0 where
  pub size : t.lg_size ≡ h.lg_size
  pub buckets : PutsEach (λ c. c) h.lg_size (replicate (2 ^ h.lg_size) 0) (set_coupons h bytes) t.buckets

-- a check fails with this reason, and the bytes that it reads are there
pub data SetFault (h : SetShape) (bytes : List ℕ) : Reason → Type 0 where
  no_count : length bytes < 4 → SetFault h bytes Truncated
  count : 4 ≤ length bytes → 2 ^ h.lg_size ≤ set_count bytes → SetFault h bytes Count
  short : HasSetCount h bytes → length bytes < 4 + 4 * set_buckets h bytes → SetFault h bytes Truncated
  coupon : HasSetCount h bytes → 4 + 4 * set_buckets h bytes ≤ length bytes → (AreCoupons (set_coupons h bytes) → ⊥) → SetFault h bytes Coupon
  number : HasSetCount h bytes → 4 + 4 * set_buckets h bytes ≤ length bytes → length (set_coupons h bytes) ≢ set_count bytes → SetFault h bytes Count
