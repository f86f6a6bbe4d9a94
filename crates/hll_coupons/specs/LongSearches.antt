-- SPDX-License-Identifier: Apache-2.0
-- The cycles of several strides through the buckets of a table (docs/MODEL.md, "Cycles").
use Rattle.std.specs.Prelude.{◌≡◌, ℕ, ◌^◌, List, All, length}
use Rattle.hll_coupons.specs.Cycle.{IsFor}
use Rattle.hll_coupons.specs.Probe.{IsAbsent, EndsAt}
use Rattle.hll_coupons.specs.declared.long_searches.LongSearches.{LongSearches}

-- each cycle is a cycle through these buckets
abbrev pub AreFor : {A : Type 0} → ℕ → List ℕ → LongSearches A → Type 0
AreFor lg buckets searches = All (IsFor lg buckets) searches.cycles.items

-- where the search for a key ends, in any table that these are the cycles of and that lacks the key
abbrev pub EndsByCycle : {A : Type 0} → LongSearches A → ℕ → ℕ → ℕ → Type 0
EndsByCycle searches lg key bucket = (key_of : ℕ → ℕ) (buckets : List ℕ) → length buckets ≡ 2 ^ lg → AreFor lg buckets searches → IsAbsent key_of buckets key → EndsAt key_of lg buckets key bucket
