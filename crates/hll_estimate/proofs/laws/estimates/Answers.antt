-- SPDX-License-Identifier: Apache-2.0
use Rattle.hll_estimate.proofs.Doubles.{doubles_never_fall}
use Rattle.hll_estimate.proofs.Lists.{raising_never_lowers, union_never_below_parts}
use Rattle.hll_estimate.proofs.laws.estimates.Goals as goal

pub returns : goal.returns
returns c = record { raising = raising_never_lowers; union = union_never_below_parts; double = doubles_never_fall }
