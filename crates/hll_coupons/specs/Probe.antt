-- SPDX-License-Identifier: Apache-2.0
-- The path of a search through a table, and what it finds (docs/MODEL.md, "Probing").
use Rattle.std.specs.Prelude.{◌≡◌, ◌≢◌, ℕ, ◌+◌, ◌*◌, ◌/◌, ◌%◌, ◌^◌, ◌<◌, List, [], ◌∷◌, length, map, slice_index, slice_set, bit_or}
use Rattle.std.specs.List.{range_with_len}
use Rattle.hll_coupons.specs.Pair.{slot_of}

-- the buckets that a search of a table of 2^lg buckets goes through, in order
abbrev pub path : ℕ → ℕ → ℕ → List ℕ
path start stride lg = map (λ i. (start + i * stride) % 2 ^ lg) (range_with_len 0 (2 ^ lg))

-- ---- searches by a key: the raw coupon in a set, the slot in a table of exceptions

-- the stride of a key: the bits of its slot above the lg low ones, made odd
abbrev pub stride_of : ℕ → ℕ → ℕ
stride_of lg key = bit_or (slot_of key / 2 ^ lg) 1

-- the i-th bucket on the path of a search for a key
abbrev pub bucket_of : ℕ → ℕ → ℕ → ℕ
bucket_of lg key i = slice_index (path key (stride_of lg key) lg) i

module _ (key_of : ℕ → ℕ) where
  -- the buckets of the path before this index are filled, with other keys
  abbrev pub Passes : ℕ → List ℕ → ℕ → ℕ → Type 0
  Passes lg buckets key i = (j : ℕ) → j < i →
      (slice_index buckets (bucket_of lg key j) ≢ 0) × (key_of (slice_index buckets (bucket_of lg key j)) ≢ key)

  -- a search for the key comes to this bucket: the buckets before it on the path are filled, with other keys
  pub record IsFirstFor (lg : ℕ) (buckets : List ℕ) (key bucket : ℕ) : Type 0 where
    pub index : ℕ
    pub within : index < 2 ^ lg
    pub at : bucket_of lg key index ≡ bucket
    pub passes : Passes lg buckets key index

  -- a search for the key ends at this bucket: it comes to it, and the bucket is empty or filled with the key
  pub record EndsAt (lg : ℕ) (buckets : List ℕ) (key bucket : ℕ) : Type 0 where
    pub first : IsFirstFor lg buckets key bucket
    pub within : bucket < 2 ^ lg
    pub same : slice_index buckets bucket ≢ 0 → key_of (slice_index buckets bucket) ≡ key

  -- each entry is in a bucket that the search for its key comes to
  pub record IsProbed (lg : ℕ) (buckets : List ℕ) : Type 0 where
    pub size : length buckets ≡ 2 ^ lg
    pub found : (p : ℕ) → p < length buckets → slice_index buckets p ≢ 0 → IsFirstFor lg buckets (key_of (slice_index buckets p)) p

  -- no bucket has the key
  abbrev pub IsAbsent : List ℕ → ℕ → Type 0
  IsAbsent buckets key = (p : ℕ) → p < length buckets → slice_index buckets p ≢ 0 → key_of (slice_index buckets p) ≢ key

  -- the search for an entry's key ends at a bucket that has the key, and nothing changes; or at an empty bucket, and
  -- the entry goes there
  pub data Puts (lg : ℕ) (buckets : List ℕ) (entry : ℕ) (new : List ℕ) : Type 0 where
    present : (p : ℕ) → IsFirstFor lg buckets (key_of entry) p → slice_index buckets p ≢ 0 → key_of (slice_index buckets p) ≡ key_of entry → new ≡ buckets → Puts lg buckets entry new
    placed : (p : ℕ) → IsFirstFor lg buckets (key_of entry) p → slice_index buckets p ≡ 0 → new ≡ slice_set buckets p entry → Puts lg buckets entry new

  -- entries are put one after the other
  abbrev pub PutsEach : ℕ → List ℕ → List ℕ → List ℕ → Type 0
  PutsEach lg buckets [] new = new ≡ buckets
  PutsEach lg buckets (entry ∷ more) new = (between : List ℕ) × Puts lg buckets entry between × PutsEach lg between more new
