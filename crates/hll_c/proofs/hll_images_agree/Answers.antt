-- SPDX-License-Identifier: Apache-2.0
use Rattle.hll_c.specs.Answers.{RefusesAgreement}
use Rattle.hll_c.specs.Calls.{SaysAgreement}
use Rattle.hll_c.proofs.Answers.{reports_of, IfErr-both}
use Rattle.hll_c.proofs.hll_images_agree.Goals as goal

pub returns : goal.returns
returns c =
    reports_of (SaysAgreement c.args.left.now c.args.right.now c.args.failed.now c.agree.new.failed)
    (RefusesAgreement c.args.left.now c.args.right.now c.args.failed.now c.agree.new.failed) c.agree.result c.args.same.now c.report.new.place c.report.result c.agree.ensures.ok
    (IfErr-both c.agree.result _ _ c.agree.ensures.err c.agree.ensures.plain) c.report.ensures
