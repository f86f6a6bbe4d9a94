-- SPDX-License-Identifier: Apache-2.0
use Rattle.hll_sketch.proofs.Adding.{add_again, add_each}
use Rattle.hll_sketch.proofs.Steps.{one_step_suffices}
use Rattle.hll_sketch.proofs.SameLemmas.{same_is_equal}
use Rattle.hll_sketch.proofs.LegalSketches.{add_is_legal}
use Rattle.hll_sketch.proofs.laws.adding.Goals as goal

pub returns-clause-add_of_add : goal.returns-clause-add_of_add
returns-clause-add_of_add c = add_again

pub returns-clause-add_each : goal.returns-clause-add_each
returns-clause-add_each c = add_each

pub returns-clause-one_step_suffices : goal.returns-clause-one_step_suffices
returns-clause-one_step_suffices c = one_step_suffices

pub returns-clause-same_is_equal : goal.returns-clause-same_is_equal
returns-clause-same_is_equal c = same_is_equal

pub returns-clause-add_is_legal : goal.returns-clause-add_is_legal
returns-clause-add_is_legal c = add_is_legal
