-- SPDX-License-Identifier: Apache-2.0
use Rattle.hll_coupons.specs.Coupons.{coupons_at}
use Rattle.hll_coupons.proofs.SetReading.{CopiedSoFar}
use Rattle.hll_coupons.proofs.hash_set.read_coupons.Given as goal

abbrev pub invariant-loop : goal.invariant-loop
invariant-loop g l = CopiedSoFar l.compact l.buckets l.counter (coupons_at l.compact l.fn.buckets l.fn.cursor) l.coupons.items l.cursor
