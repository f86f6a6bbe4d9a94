-- SPDX-License-Identifier: Apache-2.0
use Rattle.std.proofs.Common.{List, ℕ, [], ◌∷◌, ◌++◌, codes}
use Rattle.std.specs.Fmt.{decimal}
use Rattle.hll_text.specs.Refusal.{words_of}
use Rattle.hll_text.proofs.SendLemmas.{Sends-failed, Sends-second}
use Rattle.hll_text.proofs.refusal.write_refusal.Goals as goal

pub returns : goal.returns
returns g c =
    let start : List ℕ = codes "line " ++ (decimal c.args.refusal.now.line ++ codes ": ") in
    let end : List ℕ = words_of c.args.refusal.now.fault ++ 10 ∷ [] in
    Sends-second (g.W.Write.contents c.args.writer.now) (g.W.Write.contents c.write_start.new.writer) (g.W.Write.contents c.write_end.new.writer)
    c.write_end.result start end c.in_ok-write_start.ensures c.write_end.ensures

pub returns-in_err-write_start : goal.returns-in_err-write_start
returns-in_err-write_start g c =
    let start : List ℕ = codes "line " ++ (decimal c.args.refusal.now.line ++ codes ": ") in
    let end : List ℕ = words_of c.args.refusal.now.fault ++ 10 ∷ [] in
    Sends-failed (g.W.Write.contents c.args.writer.now) (g.W.Write.contents c.write_start.new.writer) c.from_residual.result c.in_err-write_start.field-0.0
    start end c.from_residual.ensures.1 c.in_err-write_start.ensures
