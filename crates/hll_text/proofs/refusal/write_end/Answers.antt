-- SPDX-License-Identifier: Apache-2.0
use Rattle.std.proofs.Common.{[], ◌∷◌}
use Rattle.hll_text.specs.Refusal.{words_of}
use Rattle.hll_text.proofs.SendLemmas.{Sends-failed, Sends-second}
use Rattle.hll_text.proofs.refusal.write_end.Goals as goal

pub returns : goal.returns
returns g c =
    Sends-second (g.W.Write.contents c.args.writer.now) (g.W.Write.contents c.write_words.new.writer) (g.W.Write.contents c.write_piece.new.writer)
    c.write_piece.result (words_of c.args.fault) (10 ∷ []) c.in_ok-write_words.ensures c.write_piece.ensures

pub returns-in_err-write_words : goal.returns-in_err-write_words
returns-in_err-write_words g c =
    Sends-failed (g.W.Write.contents c.args.writer.now) (g.W.Write.contents c.write_words.new.writer) c.from_residual.result c.in_err-write_words.field-0.0
    (words_of c.args.fault) (10 ∷ []) c.from_residual.ensures.1 c.in_err-write_words.ensures
