-- SPDX-License-Identifier: Apache-2.0
use Rattle.std.proofs.Common.{ap, sym, ◌∙◌}
use Rattle.std.specs.FinSet.{len}
use Rattle.hll_sketch.specs.Union.{gadget_of}
use Rattle.hll_sketch.proofs.Collected.{some_listed, added_none}
use Rattle.hll_sketch.proofs.union.HllUnion.update_with_batch.Goals as goal

pub returns-then-len-eq0-clause-ok : goal.returns-then-len-eq0-clause-ok
returns-then-len-eq0-clause-ok g c = added_none (gadget_of c.args.self.now) c.args.batch.now (sym c.len.ensures.count ∙ c.if-len-eq0.true)

pub update_with_table-requires : goal.update_with_table-requires
update_with_table-requires g c = λ none. some_listed c.args.batch.now (λ e. c.if-len-eq0.false (c.len.ensures.count ∙ e)) (ap len (sym c.in_ok-table.ensures.ok) ∙ none)
