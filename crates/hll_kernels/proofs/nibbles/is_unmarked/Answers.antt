-- SPDX-License-Identifier: Apache-2.0
use Rattle.std.proofs.Common.{◌<◌, ◌∙◌}
use Rattle.std.proofs.lemmas.List.Elements.{All-from_get_or}
use Rattle.hll_kernels.proofs.Marks.{none_marked}
use Rattle.hll_kernels.proofs.nibbles.is_unmarked.Goals as goal

pub returns : goal.returns
returns c = c.are_below.ensures ∙ c.greater_nibbles.ensures 15 ∙ none_marked c.args.block.now (All-from_get_or (λ b. b < 256) c.args.block.now 0 (λ k l. c.fits-block k))
