-- SPDX-License-Identifier: Apache-2.0
-- Registers that a table of coupons becomes.
use Rattle.std.specs.Prelude.{ℕ, Option, Some, None}
use Rattle.std.specs.FinSet.{insert}
use Rattle.hll_coupons.specs.Pair.{Pairs}

-- a set with one more pair, if there is one
abbrev pub with_more : Pairs → Option ℕ → Pairs
with_more S None = S
with_more S (Some c) = insert S c
