-- SPDX-License-Identifier: Apache-2.0
use Rattle.std.proofs.Common.{ℕ, List, codes, subst, ◌∙◌}
use Rattle.hll_base.specs.Reason.{word_of}
use Rattle.hll_text.specs.Refusal.{Sends}
use Rattle.hll_text.proofs.SendLemmas.{Sends-failed, Sends-second}
use Rattle.hll_text.proofs.refusal.write_words.Goals as goal

pub returns-in_ok-write_piece-in-Image : goal.returns-in_ok-write_piece-in-Image
returns-in_ok-write_piece-in-Image g c =
    let mid = g.W.Write.contents c.write_piece-in-Image.new.writer in
    let now = g.W.Write.contents c.write_piece-in-Image-2.new.writer in
    let result = c.write_piece-in-Image-2.result in
    let word = subst (λ (xs : List ℕ). Sends mid now result xs) (c.as_bytes.ensures.value ∙ c.word.ensures) c.write_piece-in-Image-2.ensures in
    rw c.in-Image.is
    (Sends-second (g.W.Write.contents c.args.writer.now) mid now result (codes "image ") (word_of c.in-Image.reason) c.in_ok-write_piece-in-Image.ensures word)

pub returns-in_err-write_piece-in-Image : goal.returns-in_err-write_piece-in-Image
returns-in_err-write_piece-in-Image g c =
    rw c.in-Image.is
    (Sends-failed (g.W.Write.contents c.args.writer.now) (g.W.Write.contents c.write_piece-in-Image.new.writer) c.from_residual.result
    c.in_err-write_piece-in-Image.field-0.0 (codes "image ") (word_of c.in-Image.reason) c.from_residual.ensures.1 c.in_err-write_piece-in-Image.ensures)
