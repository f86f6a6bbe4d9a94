-- SPDX-License-Identifier: Apache-2.0
use Rattle.hll_text.proofs.LaneLemmas.{Each2-fits, Steps-fit, fold-products}
use Rattle.hll_text.proofs.tokens.value_of_eight.Goals as goal

pub overflow_mul-result : goal.overflow_mul-result
overflow_mul-result c = Each2-fits c.args.text.now c.requires.long c.type_inv.text c.args.count c.requires.few

pub overflow_add-result : goal.overflow_add-result
overflow_add-result c = Steps-fit c.args.text.now c.requires.long c.type_inv.text c.args.count c.requires.few

pub returns : goal.returns
returns c = fold-products c.args.text.now c.requires.long c.type_inv.text c.args.count c.requires.few
