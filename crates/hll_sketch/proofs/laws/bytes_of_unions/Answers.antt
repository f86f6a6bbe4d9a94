-- SPDX-License-Identifier: Apache-2.0
use Rattle.hll_sketch.proofs.SameUnions.{unions_in_any_order, unions_in_groups, unions_are_canonical}
use Rattle.hll_sketch.proofs.laws.bytes_of_unions.Goals as goal

pub returns-clause-unions_in_any_order : goal.returns-clause-unions_in_any_order
returns-clause-unions_in_any_order c = unions_in_any_order

pub returns-clause-unions_in_groups : goal.returns-clause-unions_in_groups
returns-clause-unions_in_groups c = unions_in_groups

pub returns-clause-unions_are_canonical : goal.returns-clause-unions_are_canonical
returns-clause-unions_are_canonical c = unions_are_canonical
