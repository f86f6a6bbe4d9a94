-- SPDX-License-Identifier: Apache-2.0
use Rattle.hll_coupons.specs.Coupons.{coupons_at}
use Rattle.hll_coupons.proofs.SetReading.{ReadSoFar}
use Rattle.hll_coupons.proofs.hash_set.read_by_search.Given as goal

abbrev pub invariant-loop : goal.invariant-loop
invariant-loop g l = ReadSoFar l.compact l.buckets l.counter l.fn.set.lg_size (coupons_at l.compact l.fn.buckets l.fn.cursor) l.fn.set.buckets l.set l.cursor
