-- SPDX-License-Identifier: Apache-2.0
use Rattle.hll_merge.proofs.Accepted.{one_plan, one_first_fault, accepted_is_faultless, first_faults_are_own}
use Rattle.hll_merge.proofs.Headline.{accepted_plans_hold}
use Rattle.hll_merge.proofs.laws.texts.Goals as goal

pub returns-clause-one_plan : goal.returns-clause-one_plan
returns-clause-one_plan c = one_plan

pub returns-clause-one_first_fault : goal.returns-clause-one_first_fault
returns-clause-one_first_fault c = one_first_fault

pub returns-clause-accepted_is_faultless : goal.returns-clause-accepted_is_faultless
returns-clause-accepted_is_faultless c = accepted_is_faultless

pub returns-clause-first_faults_are_own : goal.returns-clause-first_faults_are_own
returns-clause-first_faults_are_own c = first_faults_are_own

pub returns-clause-accepted_plans_hold : goal.returns-clause-accepted_plans_hold
returns-clause-accepted_plans_hold c = accepted_plans_hold
