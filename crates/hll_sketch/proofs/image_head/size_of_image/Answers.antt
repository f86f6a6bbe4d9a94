-- SPDX-License-Identifier: Apache-2.0
use Rattle.std.proofs.Common.{◌≡◌, List, ℕ, Some, None, sym, subst, ◌∙◌}
use Rattle.hll_base.specs.declared.error.Reason.{Reason}
use Rattle.hll_sketch.specs.Checks.{count_fault}
use Rattle.hll_sketch.specs.Image.{IsSizeOfImage}
use Rattle.hll_sketch.proofs.CountChecks.{counted_if_read}
use Rattle.hll_sketch.proofs.ImageSizes.{size_is_asked, no_header}
use Rattle.hll_sketch.proofs.image_head.size_of_image.Goals as goal

pub unreachable-requires : goal.unreachable-requires
unreachable-requires c = no_header c.args.bytes.now c.requires.0 c.in_default.field-0 c.requires.1 c.in_default.ensures.order

pub unreachable-requires-in-Err : goal.unreachable-requires-in-Err
unreachable-requires-in-Err c =
    let b : List ℕ = c.args.bytes.now in
    let none : count_fault b ≡ None = counted_if_read b c.requires.0 c.requires.1 in
    let e : Reason = c.in-Err.field-0 in
    let both : Some e ≡ None = sym c.in-Err.ensures.err ∙ none in
    absurd (cc)

pub returns : goal.returns
returns c = subst (IsSizeOfImage c.args.bytes.now) (sym c.in-Ok-read_counts.ensures.ok.1) (size_is_asked c.args.bytes.now c.requires.0 c.requires.1)
