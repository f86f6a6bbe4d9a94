-- SPDX-License-Identifier: Apache-2.0
-- What contracts see of a watched stream (docs/PLAN.md, "Streams").
use Rattle.std.specs.Prelude.{ℕ, ◌+◌, ◌-◌, ◌^◌, min, Bool}

-- the stream inside, whether it has failed, and how many reads were made of it
pub record Watching (S : Type 0) : Type 0 where
  pub inner : S
  pub failed : Bool
  pub reads : ℕ

-- the number of reads after one more
abbrev pub more_reads : ℕ → ℕ
more_reads n = min (n + 1) (2 ^ 64 - 1)
