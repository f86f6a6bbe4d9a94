-- SPDX-License-Identifier: Apache-2.0
use Rattle.hll_registers.proofs.Binary64.{one_estimator_state}
use Rattle.hll_arrays.proofs.laws.estimator_fields.Goals as goal

pub returns : goal.returns
returns c = record { one_state = one_estimator_state }
