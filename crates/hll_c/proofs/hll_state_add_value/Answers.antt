-- SPDX-License-Identifier: Apache-2.0
use Rattle.std.proofs.Common.{[], ◌∷◌}
use Rattle.hll_coupons.specs.Hashed.{coupon_of_bytes}
use Rattle.hll_c.specs.States.{TakesValues}
use Rattle.hll_c.proofs.Whole.{leaves_added, pairs_of_strings}
use Rattle.hll_c.proofs.hll_state_add_value.Goals as goal

pub returns-clause-left : goal.returns-clause-left
returns-clause-left c =
    leaves_added (TakesValues c.args.state.now) (coupon_of_bytes c.args.value.now ∷ []) c.args.state.now c.add_value.new.state c.args.size.now c.add_value.new.size c.add_value.result
    (λ are. pairs_of_strings (c.args.value.now ∷ [])) c.add_value.ensures.added
