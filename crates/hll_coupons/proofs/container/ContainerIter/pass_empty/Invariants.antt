-- SPDX-License-Identifier: Apache-2.0
use Rattle.std.proofs.Common.{◌≡◌, length}
use Rattle.hll_coupons.specs.Table.{coupons_in}
use Rattle.hll_coupons.proofs.container.ContainerIter.pass_empty.Given as goal

abbrev pub invariant-loop-self : goal.invariant-loop-self
invariant-loop-self l = coupons_in l.self-inside.buckets.now ≡ coupons_in l.initial.self-inside.buckets.now

abbrev pub decreases-loop-self : goal.decreases-loop-self
decreases-loop-self l = length l.self-inside.buckets.now
