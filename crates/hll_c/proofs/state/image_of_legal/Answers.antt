-- SPDX-License-Identifier: Apache-2.0
use Rattle.std.proofs.Common.{ℕ, sym, subst}
use Rattle.std.proofs.lemmas.Result.{IfOk-weaker}
use Rattle.hll_sketch.specs.EstimatorFields.{FillsFields}
use Rattle.hll_state.specs.Counter.{content_of}
use Rattle.hll_c.specs.Answers.{IsImageOf}
use Rattle.hll_c.proofs.state.image_of_legal.Goals as goal

pub returns-in-Coupons-clause-ok : goal.returns-in-Coupons-clause-ok
returns-in-Coupons-clause-ok c =
    let k : ℕ = c.args.header.lg_k in
    IfOk-weaker c.image_of_coupons.result _ (λ image. IsImageOf (FillsFields (record { lg_k = k; width = c.args.hll_type; content = content_of k c.args.header.held c.args.body.now })) image.items)
    (λ image is. subst (λ held. IsImageOf (FillsFields (record { lg_k = k; width = c.args.hll_type; content = content_of k held c.args.body.now })) image.items) (sym c.in-Coupons.is) is)
    c.image_of_coupons.ensures.ok
