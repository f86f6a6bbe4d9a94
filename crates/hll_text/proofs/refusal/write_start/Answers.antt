-- SPDX-License-Identifier: Apache-2.0
use Rattle.std.proofs.Common.{◌++◌, codes}
use Rattle.std.specs.Fmt.{decimal}
use Rattle.hll_text.proofs.SendLemmas.{Sends-failed, Sends-second}
use Rattle.hll_text.proofs.refusal.write_start.Goals as goal

pub returns : goal.returns
returns g c =
    let a = g.W.Write.contents c.write_piece.new.writer in
    let b = g.W.Write.contents c.write_number.new.writer in
    let d = g.W.Write.contents c.write_piece-2.new.writer in
    Sends-second (g.W.Write.contents c.args.writer.now) a d c.write_piece-2.result (codes "line ") (decimal c.args.line ++ codes ": ") c.in_ok-write_piece.ensures
    (Sends-second a b d c.write_piece-2.result (decimal c.args.line) (codes ": ") c.in_ok-write_number.ensures c.write_piece-2.ensures)

pub returns-in_err-write_piece : goal.returns-in_err-write_piece
returns-in_err-write_piece g c =
    Sends-failed (g.W.Write.contents c.args.writer.now) (g.W.Write.contents c.write_piece.new.writer) c.from_residual.result c.in_err-write_piece.field-0.0
    (codes "line ") (decimal c.args.line ++ codes ": ") c.from_residual.ensures.1 c.in_err-write_piece.ensures

pub returns-in_err-write_number : goal.returns-in_err-write_number
returns-in_err-write_number g c =
    let a = g.W.Write.contents c.write_piece.new.writer in
    let b = g.W.Write.contents c.write_number.new.writer in
    let failed = Sends-failed a b c.from_residual-in_err-write_number.result c.in_err-write_number.field-0.0
    (decimal c.args.line) (codes ": ") c.from_residual-in_err-write_number.ensures.1 c.in_err-write_number.ensures in
    Sends-second (g.W.Write.contents c.args.writer.now) a b c.from_residual-in_err-write_number.result (codes "line ") (decimal c.args.line ++ codes ": ") c.in_ok-write_piece.ensures failed
