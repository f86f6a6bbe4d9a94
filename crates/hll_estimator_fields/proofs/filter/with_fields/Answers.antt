-- SPDX-License-Identifier: Apache-2.0
use Rattle.std.proofs.Common.{◌≡◌, None}
use Rattle.std.proofs.lemmas.Result.{IfErr-weaker}
use Rattle.hll_base.specs.declared.error.Reason.TheVariants.{Memory}
use Rattle.hll_sketch.specs.Checks.{size_fault}
use Rattle.hll_sketch.specs.Layout.{sketch_of}
use Rattle.hll_estimator_fields.proofs.PassingLemmas.{sized_if_read}
use Rattle.hll_estimator_fields.proofs.filter.with_fields.Goals as goal

pub returns-clause-asked : goal.returns-clause-asked
returns-clause-asked g c =
    IfErr-weaker c.serialize.result _ (λ e. e ≡ Memory → size_fault c.args.bytes.now ≡ None)
    (λ e memory _. sized_if_read c.args.bytes.now (sketch_of c.in_ok-sketch.sketch) c.in_ok-sketch.ensures.ok) c.serialize.ensures.err
