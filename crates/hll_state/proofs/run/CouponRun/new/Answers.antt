-- SPDX-License-Identifier: Apache-2.0
use Rattle.std.proofs.Common.{arith}
use Rattle.hll_state.proofs.run.CouponRun.new.Goals as goal

pub returns-clause-run : goal.returns-clause-run
returns-clause-run c = λ coupons. record { run = omega arith; used = omega arith }
