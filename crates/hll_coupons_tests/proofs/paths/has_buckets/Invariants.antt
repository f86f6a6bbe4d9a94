-- SPDX-License-Identifier: Apache-2.0
use Rattle.hll_coupons_tests.proofs.paths.has_buckets.Given as goal

abbrev pub invariant-loop-bucket : goal.invariant-loop-bucket
invariant-loop-bucket l = (goal.iterator-loop-bucket).can_next l.coupons × (goal.iterator-loop-bucket).is_finite l.coupons
