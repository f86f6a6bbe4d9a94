-- SPDX-License-Identifier: Apache-2.0
use Rattle.std.proofs.Common.{length, map, subst, ◌∙◌}
use Rattle.std.proofs.lemmas.List.{length-map}
use Rattle.hll_coupons.specs.Hashed.{coupon_of_bytes}
use Rattle.hll_c.specs.Batches.{AreEnds, strings}
use Rattle.hll_c.specs.States.{TakesValues}
use Rattle.hll_state.specs.Memory.{GrowsBy}
use Rattle.hll_c.proofs.StringsByNumber.{length-strings}
use Rattle.hll_c.proofs.Whole.{leaves_added, pairs_of_strings}
use Rattle.hll_c.proofs.hll_state_add.Goals as goal

pub returns-clause-left : goal.returns-clause-left
returns-clause-left c =
    leaves_added (AreEnds (length c.args.values.now) c.args.ends.now × TakesValues c.args.state.now) (map coupon_of_bytes (strings c.args.values.now c.args.ends.now)) c.args.state.now c.add.new.state
    c.args.size.now c.add.new.size c.add.result (λ are. pairs_of_strings (strings c.args.values.now c.args.ends.now)) c.add.ensures.added

pub returns-clause-grows : goal.returns-clause-grows
returns-clause-grows c =
    subst (λ n. GrowsBy n c.args.state.now c.add.new.state) (length-map (strings c.args.values.now c.args.ends.now) coupon_of_bytes ∙ length-strings 0 c.args.values.now c.args.ends.now) c.add.ensures.grows
