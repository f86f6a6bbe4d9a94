-- SPDX-License-Identifier: Apache-2.0
use Rattle.std.proofs.Common.{◌≡◌}
use Rattle.hll_c.specs.Head.{SaysHead, RefusesHead}
use Rattle.hll_c.proofs.Answers.{reports_of}
use Rattle.hll_c.proofs.hll_image_head.Goals as goal

pub returns : goal.returns
returns c =
    reports_of (SaysHead c.args.image.now) (RefusesHead (c.args.size ≡ 24)) c.head_of.result c.args.head.now c.report.new.place c.report.result
    c.head_of.ensures.ok c.head_of.ensures.err c.report.ensures
