-- SPDX-License-Identifier: Apache-2.0
use Rattle.hll_images.proofs.SortedCoupons.{ReadSoFar}
use Rattle.hll_images.proofs.sorted.read_raw_coupons.Given as goal

abbrev pub invariant-loop-index : goal.invariant-loop-index
invariant-loop-index l = ReadSoFar l.index l.fn.coupons.count l.fn.coupons.bytes.now l.cursor l.numbers
