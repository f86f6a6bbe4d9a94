-- SPDX-License-Identifier: Apache-2.0
use Rattle.hll_coupons.proofs.Ascending.{one_ascending_order}
use Rattle.hll_coupons.proofs.Registers.{fold_to-pairs-fold_to, fold_to-pairs}
use Rattle.hll_coupons.proofs.Folds.{fold_to-union}
use Rattle.hll_base.proofs.Joins.{join_comm, join_itself, join_assoc}
use Rattle.hll_coupons.proofs.laws.folding.Goals as goal

pub returns-clause-one_ascending_order : goal.returns-clause-one_ascending_order
returns-clause-one_ascending_order c = one_ascending_order

pub returns-clause-fold_of_fold : goal.returns-clause-fold_of_fold
returns-clause-fold_of_fold c = fold_to-pairs-fold_to

pub returns-clause-fold_of_union : goal.returns-clause-fold_of_union
returns-clause-fold_of_union c = fold_to-union

pub returns-clause-join_laws : goal.returns-clause-join_laws
returns-clause-join_laws c = record { commutative = join_comm; idempotent = join_itself; associative = join_assoc }

pub returns-clause-fold_of_registers : goal.returns-clause-fold_of_registers
returns-clause-fold_of_registers c = fold_to-pairs
