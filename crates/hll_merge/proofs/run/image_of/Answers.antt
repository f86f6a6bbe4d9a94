-- SPDX-License-Identifier: Apache-2.0
use Rattle.std.proofs.Common.{refl}
use Rattle.hll_text.specs.Text.{printed_line}
use Rattle.hll_merge.proofs.FeedingLemmas.{finishes-stream, lines-counted, refuses_end-stream}
use Rattle.hll_merge.proofs.RunLemmas.{answer}
use Rattle.hll_merge.proofs.run.image_of.Goals as goal

pub returns-in-Err : goal.returns-in-Err
returns-in-Err g c = λ none text h. refuses_end-stream text c.args.feed _ h none (c.in-Err.ensures.end none)

pub returns-in-Ok-serialize : goal.returns-in-Ok-serialize
returns-in-Ok-serialize g c = λ none text h.
    let found = c.in-Ok.ensures.end none in
    let image = c.in-Ok-serialize.image.items in (
      answer text (printed_line image) image c.in-Ok.found.0 (finishes-stream text c.args.feed c.in-Ok.found.0 h none found.0) c.in-Ok-serialize.ensures.ok refl,
      lines-counted text c.args.feed _ h none found.1,
    )
