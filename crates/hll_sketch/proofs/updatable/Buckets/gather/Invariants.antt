-- SPDX-License-Identifier: Apache-2.0
use Rattle.hll_sketch.proofs.Gathering.{GatheredSoFar}
use Rattle.hll_sketch.proofs.updatable.Buckets.gather.Given as goal

abbrev pub invariant-loop : goal.invariant-loop
invariant-loop l = GatheredSoFar l.counter l.fn.self.raw_coupons.count l.count l.fn.self.raw_coupons.bytes.now l.cursor l.room
