-- SPDX-License-Identifier: Apache-2.0
-- A map from slots to values, the exceptions of 4-bit registers, in a hash table: its entries, and the size of the
-- table (docs/MODEL.md, "Maps of exceptions"; docs/FORMAT.md, "Probing").
use Rattle.std.specs.Prelude.{ℕ, ◌≡◌, ◌≢◌, ◌+◌, ◌-◌, ◌*◌, ◌%◌, ◌^◌, ◌<◌, ◌≤◌, ◌==◌, nat_le, if◌then◌else◌, List, length, map, All, None, unwrap_or, find}
use Rattle.std.specs.List.{range_with_len}
use Rattle.std.specs.Option.{option_map}
use Rattle.std.specs.declared.option.Option.{Option}
use Rattle.hll_coupons.specs.Pair.{slot_of, value_of, pair}
use Rattle.hll_coupons.specs.Table.{Table, coupons_in, empty_table, IsTable}
use Rattle.hll_coupons.specs.Probe.{IsProbed, Puts, PutsEach}
use Rattle.hll_coupons.specs.Blocks.{bit_of}

-- ---- sizes

-- the logarithm of the start size of a table of exceptions, by lg_k
abbrev pub start_size : ℕ → ℕ
start_size k = if nat_le k 6 then 2 else (if nat_le k 9 then 3 else (if nat_le k 11 then 4 else (if nat_le k 13 then 5 else k - 8)))

-- the smallest size, from the start size up, such that n entries fill at most three quarters of the buckets
abbrev pub table_size : ℕ → ℕ → ℕ
table_size k n = unwrap_or (find (λ q. nat_le (4 * n) (3 * 2 ^ q)) (range_with_len (start_size k) 24)) 0

-- the bytes of a table of exceptions, 0 if there is no entry
abbrev pub table_bytes : ℕ → ℕ → ℕ
table_bytes k n = if n == 0 then 0 else 4 * 2 ^ table_size k n

-- ---- maps

-- what contracts see of a map: the lg_k of its slots, and the table of its entries
pub record ExceptionMap : Type 0 where
  pub lg_k : ℕ
  pub table : Table

-- the value of the first entry at a slot; slots count modulo 2^k
abbrev pub entry_at : ℕ → List ℕ → ℕ → Option ℕ
entry_at k entries s = option_map value_of (find (λ c. slot_of c % 2 ^ k == s) entries)

-- the value that a map has at a slot
abbrev pub value_in : ExceptionMap → ℕ → Option ℕ
value_in m s = entry_at m.lg_k (coupons_in m.table.buckets) s

-- a raw coupon as a slot and a value
abbrev pub entry_of : ℕ → ℕ × ℕ
entry_of c = (slot_of c, value_of c)

-- the entries of a map, in the order of their buckets
abbrev pub entries_in : ExceptionMap → List (ℕ × ℕ)
entries_in m = map entry_of (coupons_in m.table.buckets)

-- slots are below 2^lg_k, a search for a slot finds its entry, and the table has the smallest size
pub record IsMap (m : ExceptionMap) : Type 0 where
  pub low : 4 ≤ m.lg_k
  pub high : m.lg_k ≤ 21
  pub table : IsTable m.table
  pub probed : IsProbed slot_of m.table.lg_size m.table.buckets
  pub slots : All (λ c. slot_of c < 2 ^ m.lg_k) (coupons_in m.table.buckets)
  pub size : m.table.lg_size ≡ table_size m.lg_k (length (coupons_in m.table.buckets))

-- a map without entries
abbrev pub empty_map : ℕ → ExceptionMap
empty_map k = record { lg_k = k; table = empty_table (start_size k) }

-- a bit for each slot, set if the slot has a value
pub record MarksValues (m : ExceptionMap) (raw_coupons : List ℕ) : Type 0 where
  pub room : 2 ^ m.lg_k ≤ 64 * length raw_coupons
  pub set : (s : ℕ) → s < 2 ^ m.lg_k → bit_of raw_coupons s ≡ 1 → value_in m s ≢ None
  pub clear : (s : ℕ) → s < 2 ^ m.lg_k → bit_of raw_coupons s ≢ 1 → value_in m s ≡ None

-- an entry is put, and all entries move to a table of the next size, in the order of their buckets
pub record IsGrownFrom (old : Table) (entry : ℕ) (new : Table) : Type 0 where
  pub buckets : List ℕ
  pub put : Puts slot_of old.lg_size old.buckets entry buckets
  pub size : new.lg_size ≡ old.lg_size + 1
  pub moved : PutsEach slot_of new.lg_size (empty_table new.lg_size).buckets (coupons_in buckets) new.buckets

-- an entry is put; if more than three quarters of the buckets are then filled, the table grows
pub data Inserts (old : Table) (entry : ℕ) (new : Table) : Type 0 where
  fits : 4 * (length (coupons_in old.buckets) + 1) ≤ 3 * 2 ^ old.lg_size → new.lg_size ≡ old.lg_size
      → Puts slot_of old.lg_size old.buckets entry new.buckets → Inserts old entry new
  grows : 3 * 2 ^ old.lg_size < 4 * (length (coupons_in old.buckets) + 1) → IsGrownFrom old entry new → Inserts old entry new

-- the new raw coupon of a bucket when a slot gets a value: the pair of both if the bucket had the entry of that slot
abbrev pub replaced : ℕ → ℕ → ℕ → ℕ
replaced slot value c = if c == 0 then 0 else (if slot_of c == slot then pair slot value else c)

-- a map in which the entry at a slot has another value, in the same bucket
abbrev pub with_value : ExceptionMap → ℕ → ℕ → ExceptionMap
with_value m slot value = record { lg_k = m.lg_k; table = record { lg_size = m.table.lg_size; buckets = map (replaced slot value) m.table.buckets } }
