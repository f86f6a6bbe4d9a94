-- SPDX-License-Identifier: Apache-2.0
use Rattle.std.proofs.Common.{◌≡◌, sym, ◌∙◌}
use Rattle.hll_estimator_fields.proofs.RunLemmas.{finished}
use Rattle.hll_estimator_fields.proofs.run.run.Goals as goal

pub returns : goal.returns
returns g c =
    let reader : c.pass_all.new.reader.failed ≡ _ = sym c.failed.ensures ∙ c.if-failed.false in
    let ok = c.in_ok-pass_all.ensures in
    finished c.pass_rest.result _ _ _ ok.0 c.pass_all.new.filter.pending.items c.pass_all.new.filter.count reader ok.1 (ok.2.2 reader) ok.2.0 ok.2.1 c.pass_rest.ensures
