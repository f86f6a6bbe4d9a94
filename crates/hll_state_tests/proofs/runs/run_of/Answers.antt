-- SPDX-License-Identifier: Apache-2.0
use Rattle.hll_state_tests.proofs.runs.run_of.Goals as goal

pub push_all-requires : goal.push_all-requires
push_all-requires c = c.new-run.ensures.run c.args.coupons.now
