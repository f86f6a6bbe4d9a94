-- SPDX-License-Identifier: Apache-2.0
-- The laws of folding, registers and probing (docs/MODEL.md, "Laws of folding and probing").
use Rattle.std.specs.Prelude.{◌≡◌, ◌≢◌, ℕ, ◌%◌, ◌^◌, ◌<◌, ◌≤◌, List, length, slice_index, slice_set}
use Rattle.std.specs.FinSet.{union}
use Rattle.hll_coupons.specs.Pair.{Pairs}
use Rattle.hll_coupons.specs.Coupons.{IsAscending}
use Rattle.hll_coupons.specs.Fold.{fold_to, pairs}
use Rattle.hll_base.specs.Join.{join}
use Rattle.hll_coupons.specs.Probe.{path, bucket_of, Passes, IsProbed, IsAbsent}

-- a set has one ascending order
abbrev pub OneAscendingOrder : Type 0
OneAscendingOrder = (S : Pairs) (a b : List ℕ) → IsAscending a S → IsAscending b S → a ≡ b

-- folding twice is folding once to the smaller size
abbrev pub FoldOfFold : Type 0
FoldOfFold = (P : Pairs) (k e : ℕ) → e ≤ k → k ≤ 21 → fold_to (pairs (fold_to P k)) e ≡ fold_to P e

-- the fold of a union is the maximum of both folds
abbrev pub FoldOfUnion : Type 0
FoldOfUnion = (P Q : Pairs) (e : ℕ) → fold_to (union P Q) e ≡ join (fold_to P e) (fold_to Q e)

-- a maximum of registers doesn't depend on order, grouping or repetition
pub record JoinLaws : Type 0 where
  pub commutative : (R Q : List ℕ) → join R Q ≡ join Q R
  pub idempotent : (R : List ℕ) → join R R ≡ R
  pub associative : (R Q S : List ℕ) → join (join R Q) S ≡ join R (join Q S)

-- registers are the fold of their pairs
abbrev pub FoldOfRegisters : Type 0
FoldOfRegisters = (R : List ℕ) (k : ℕ) → k ≤ 21 → length R ≡ 2 ^ k → fold_to (pairs R) k ≡ R

-- an odd stride visits each bucket at exactly one index
abbrev pub MeetsEachBucketOnce : Type 0
MeetsEachBucketOnce = (start stride lg bucket : ℕ) → stride % 2 ≡ 1 → bucket < 2 ^ lg →
    (i : ℕ) × (i < 2 ^ lg) × (slice_index (path start stride lg) i ≡ bucket)
    × ((j : ℕ) → j < 2 ^ lg → slice_index (path start stride lg) j ≡ bucket → j ≡ i)

-- after an entry is put into the empty bucket where its search ended, all entries are still found
abbrev pub FoundAfterInsert : Type 0
FoundAfterInsert = (key_of : ℕ → ℕ) (lg : ℕ) (buckets : List ℕ) (entry i : ℕ) → IsProbed key_of lg buckets → entry ≢ 0 → i < 2 ^ lg →
    Passes key_of lg buckets (key_of entry) i → slice_index buckets (bucket_of lg (key_of entry) i) ≡ 0 →
    IsProbed key_of lg (slice_set buckets (bucket_of lg (key_of entry) i) entry)

-- if a search comes to an empty bucket, its key is absent
abbrev pub AbsentAtEmpty : Type 0
AbsentAtEmpty = (key_of : ℕ → ℕ) (lg : ℕ) (buckets : List ℕ) (key i : ℕ) → IsProbed key_of lg buckets →
    Passes key_of lg buckets key i → slice_index buckets (bucket_of lg key i) ≡ 0 → IsAbsent key_of buckets key

-- if a search goes through the whole table, its key is absent
abbrev pub AbsentFromFull : Type 0
AbsentFromFull = (key_of : ℕ → ℕ) (lg : ℕ) (buckets : List ℕ) (key : ℕ) → length buckets ≡ 2 ^ lg →
    Passes key_of lg buckets key (2 ^ lg) → IsAbsent key_of buckets key

-- no key occurs twice
abbrev pub KeysAreDistinct : Type 0
KeysAreDistinct = (key_of : ℕ → ℕ) (lg : ℕ) (buckets : List ℕ) (p q : ℕ) → IsProbed key_of lg buckets →
    p < length buckets → q < length buckets → slice_index buckets p ≢ 0 → slice_index buckets q ≢ 0 →
    key_of (slice_index buckets p) ≡ key_of (slice_index buckets q) → p ≡ q
