-- SPDX-License-Identifier: Apache-2.0
use Rattle.std.proofs.Common.{rules}
use Rattle.std.specs.Int.{w32, from_le_bytes}
use Rattle.std.proofs.lemmas.List.Sorted.{IsPermutation-map, IsNonDecreasingBy-from_sort_by_key}
use Rattle.hll_state.proofs.Raws.{raws_rise}
use Rattle.hll_state.proofs.elements.sort.Goals as goal

pub returns-clause-permutation : goal.returns-clause-permutation
returns-clause-permutation c = IsPermutation-map (from_le_bytes w32) _ _ c.sort_unstable_by_key.ensures.permutation

pub returns-clause-sorted : goal.returns-clause-sorted
returns-clause-sorted c =
    raws_rise c.sort_unstable_by_key.new.self
    (IsNonDecreasingBy-from_sort_by_key (from_le_bytes w32) _ c.sort_unstable_by_key.ensures.sorted (λ a r q k. search rules))
