-- SPDX-License-Identifier: Apache-2.0
use Rattle.hll_sketch.proofs.Adding.{merge_of_empty, union_lg_k}
use Rattle.hll_sketch.proofs.Joined.{merge_of_canonical}
use Rattle.hll_sketch.proofs.Regrouping.{union_of_same, union_of_union, merges_of_same, merge_of_merge}
use Rattle.hll_sketch.proofs.LegalSketches.{merge_is_legal}
use Rattle.hll_sketch.proofs.laws.merging.Goals as goal

pub returns-clause-merge_of_empty : goal.returns-clause-merge_of_empty
returns-clause-merge_of_empty c = merge_of_empty

pub returns-clause-union_lg_k : goal.returns-clause-union_lg_k
returns-clause-union_lg_k c = union_lg_k

pub returns-clause-merge_of_canonical : goal.returns-clause-merge_of_canonical
returns-clause-merge_of_canonical c = merge_of_canonical

pub returns-clause-union_of_same : goal.returns-clause-union_of_same
returns-clause-union_of_same c = union_of_same

pub returns-clause-union_of_union : goal.returns-clause-union_of_union
returns-clause-union_of_union c = union_of_union

pub returns-clause-merges_of_same : goal.returns-clause-merges_of_same
returns-clause-merges_of_same c = merges_of_same

pub returns-clause-merge_of_merge : goal.returns-clause-merge_of_merge
returns-clause-merge_of_merge c = merge_of_merge

pub returns-clause-merge_is_legal : goal.returns-clause-merge_is_legal
returns-clause-merge_is_legal c = merge_is_legal
