-- SPDX-License-Identifier: Apache-2.0
use Rattle.hll_sketch.proofs.Folds.{folded_is_legal, folded_is_canonical, folded_has_same_folds}
use Rattle.hll_sketch.proofs.laws.folding.Goals as goal

pub returns-clause-folded_is_legal : goal.returns-clause-folded_is_legal
returns-clause-folded_is_legal c = folded_is_legal

pub returns-clause-folded_is_canonical : goal.returns-clause-folded_is_canonical
returns-clause-folded_is_canonical c = folded_is_canonical

pub returns-clause-folded_has_same_folds : goal.returns-clause-folded_has_same_folds
returns-clause-folded_has_same_folds c = folded_has_same_folds
