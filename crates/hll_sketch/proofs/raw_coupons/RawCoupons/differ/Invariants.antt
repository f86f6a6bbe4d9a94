-- SPDX-License-Identifier: Apache-2.0
use Rattle.hll_sketch.proofs.Differing.{DifferSoFar}
use Rattle.hll_sketch.proofs.raw_coupons.RawCoupons.differ.Given as goal

abbrev pub invariant-loop-index : goal.invariant-loop-index
invariant-loop-index l = DifferSoFar l.index l.fn.self.count 1024 l.fn.self.bytes.now l.cursor l.marks
