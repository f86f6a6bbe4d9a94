-- SPDX-License-Identifier: Apache-2.0
use Rattle.hll_state.proofs.Whole.{empty_whole, added_whole, merged_whole, joining_is_merging, joining_all_is_merging_all}
use Rattle.hll_state.proofs.laws.sketches.Goals as goal

pub returns : goal.returns
returns c = record {
  empty = empty_whole;
  adding = added_whole;
  joining = merged_whole;
  joining_is_merging = joining_is_merging;
  joining_all_is_merging_all = joining_all_is_merging_all;
}
