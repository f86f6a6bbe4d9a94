-- SPDX-License-Identifier: Apache-2.0
use Rattle.hll_merge.proofs.Outcomes.{plans_have_meaning, same_inputs_agree}
use Rattle.hll_merge.proofs.CanonicalPlans.{converges}
use Rattle.hll_merge.proofs.Rearranging.{rearranged_plans_agree}
use Rattle.hll_merge.proofs.Headline.{outcome_is_legal}
use Rattle.hll_merge.proofs.laws.plans.Goals as goal

pub returns-clause-plans_have_meaning : goal.returns-clause-plans_have_meaning
returns-clause-plans_have_meaning c = plans_have_meaning

pub returns-clause-same_inputs_agree : goal.returns-clause-same_inputs_agree
returns-clause-same_inputs_agree c = same_inputs_agree

pub returns-clause-canonical_plans_converge : goal.returns-clause-canonical_plans_converge
returns-clause-canonical_plans_converge c = converges

pub returns-clause-rearranged_plans_agree : goal.returns-clause-rearranged_plans_agree
returns-clause-rearranged_plans_agree c = rearranged_plans_agree

pub returns-clause-outcome_is_legal : goal.returns-clause-outcome_is_legal
returns-clause-outcome_is_legal c = outcome_is_legal
