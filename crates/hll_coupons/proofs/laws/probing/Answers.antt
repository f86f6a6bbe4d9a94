-- SPDX-License-Identifier: Apache-2.0
use Rattle.hll_coupons.proofs.Probing.{meets_each_bucket_once}
use Rattle.hll_coupons.proofs.Searching.{found_after_insert, absent_at_empty, absent_from_full, keys_are_distinct}
use Rattle.hll_coupons.proofs.laws.probing.Goals as goal

pub returns-clause-meets_each_bucket_once : goal.returns-clause-meets_each_bucket_once
returns-clause-meets_each_bucket_once c = meets_each_bucket_once

pub returns-clause-found_after_insert : goal.returns-clause-found_after_insert
returns-clause-found_after_insert c = found_after_insert

pub returns-clause-absent_at_empty : goal.returns-clause-absent_at_empty
returns-clause-absent_at_empty c = absent_at_empty

pub returns-clause-absent_from_full : goal.returns-clause-absent_from_full
returns-clause-absent_from_full c = absent_from_full

pub returns-clause-keys_are_distinct : goal.returns-clause-keys_are_distinct
returns-clause-keys_are_distinct c = keys_are_distinct
