-- SPDX-License-Identifier: Apache-2.0
use Rattle.std.proofs.Common.{arith}
use Rattle.hll_base.proofs.Joins.{is_join}
use Rattle.hll_kernels.proofs.kernels.max_one_by_one.Goals as goal

pub returns : goal.returns
returns c =
    is_join c.args.dst.now c.args.src.now c.loop-place.dst c.requires c.loop-place.invariant.size
    (λ k h. c.loop-place.invariant.done k (omega (arith, c.loop-place.invariant.size, c.loop-place-test.false)))
