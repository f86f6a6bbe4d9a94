-- SPDX-License-Identifier: Apache-2.0
use Rattle.std.proofs.Common.{◌-◌, length, ap, ◌∙◌}
use Rattle.std.specs.Int.{w32, from_le_bytes}
use Rattle.std.proofs.lemmas.List.{take-map, drop-map}
use Rattle.hll_state.specs.CouponRun.{raws}
use Rattle.hll_state.proofs.Raws.{moved_to_end}
use Rattle.hll_state.proofs.elements.move_to_end.Goals as goal
use Rattle.std.proofs.Common.{sym}

pub returns : goal.returns
returns c =
    drop-map (from_le_bytes w32) (length c.args.coupons.now - c.args.len) c.copy_within.new.self
    ∙ ap raws (moved_to_end c.args.coupons.now c.copy_within.new.self c.args.len c.requires c.copy_within.ensures.len c.copy_within.ensures.after)
    ∙ sym (take-map (from_le_bytes w32) c.args.len c.args.coupons.now)
