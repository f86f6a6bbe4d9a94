-- SPDX-License-Identifier: Apache-2.0
use Rattle.std.proofs.Common.{◌≡◌, length}
use Rattle.hll_coupons.specs.Table.{coupons_in}
use Rattle.hll_coupons.proofs.container.ContainerIterIterator.next.Given as goal

abbrev pub invariant-loop-first : goal.invariant-loop-first
invariant-loop-first l = coupons_in l.self-inside.buckets.now ≡ coupons_in l.initial.self-inside.buckets.now

abbrev pub decreases-loop-first : goal.decreases-loop-first
decreases-loop-first l = length l.self-inside.buckets.now
