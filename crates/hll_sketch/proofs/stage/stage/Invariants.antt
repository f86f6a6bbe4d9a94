-- SPDX-License-Identifier: Apache-2.0
use Rattle.std.proofs.Common.{◌≡◌, ◌-◌}
use Rattle.std.specs.Prelude.{find, nat_le, ◌&&◌}
use Rattle.std.specs.List.{range_with_len}
use Rattle.hll_sketch.specs.Stage.{stage, can_hold}
use Rattle.hll_sketch.proofs.stage.stage.Given as goal

-- the sizes before this one do not hold the coupons
abbrev pub invariant-loop-size : goal.invariant-loop-size
invariant-loop-size l = find (λ q. nat_le l.from q && can_hold q l.count) (range_with_len l.size (l.lg_k - 2 - l.size)) ≡ stage l.lg_k l.from l.count
