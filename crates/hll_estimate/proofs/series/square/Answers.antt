-- SPDX-License-Identifier: Apache-2.0
use Rattle.std.proofs.Common.{refl}
use Rattle.hll_estimate.specs.FixedPoint.{square_of}
use Rattle.hll_estimate.proofs.series.square.Goals as goal

pub returns-clause-value : goal.returns-clause-value
unfolding square_of
returns-clause-value c = refl
