-- SPDX-License-Identifier: Apache-2.0
use Rattle.hll_coupons_tests.proofs.paths.has_buckets.Goals as goal

pub next-requires : goal.next-requires
next-requires c = tt
