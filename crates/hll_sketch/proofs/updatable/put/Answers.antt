-- SPDX-License-Identifier: Apache-2.0
use Rattle.std.proofs.Common.{◌∙◌, arith}
use Rattle.hll_sketch.proofs.Gathering.{kept, put_raw_coupon}
use Rattle.hll_sketch.proofs.updatable.put.Goals as goal

pub returns-clause-kept : goal.returns-clause-kept
returns-clause-kept c = kept c.args.room.now c.args.count (omega (arith, c.requires, c.told-room)) _

pub returns-clause-put : goal.returns-clause-put
returns-clause-put c =
    put_raw_coupon c.args.room.now c.args.count (omega (arith, c.requires, c.told-room)) c.args.raw_coupon c.copy_from_slice.new.self _ (omega (arith, c.ranges.raw_coupon)) (c.copy_from_slice.ensures.after ∙ c.to_le_bytes.ensures)
