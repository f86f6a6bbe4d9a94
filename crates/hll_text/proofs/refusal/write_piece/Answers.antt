-- SPDX-License-Identifier: Apache-2.0
use Rattle.std.proofs.Common.{arith, ℕ, List, ◌≤◌, length-drop, length, take, drop, subst, sym, ap}
use Rattle.std.proofs.Math.Seq.{take-add}
use Rattle.std.specs.Io.KnownBytes.{Appends}
use Rattle.hll_text.proofs.StreamLemmas.{Appends-more}
use Rattle.hll_text.proofs.PartLemmas.{take-rest}
use Rattle.hll_text.proofs.refusal.write_piece.Goals as goal

pub loop-sent-preserved : goal.loop-sent-preserved
loop-sent-preserved g c =
    let old = g.W.Write.contents c.args.writer.now in
    let mid = g.W.Write.contents c.loop-sent.writer in
    let now = g.W.Write.contents c.write.new.self in
    let n : ℕ = c.in-Ok.count in
    let s : ℕ = c.loop-sent.sent in
    let bytes : List ℕ = c.args.piece.now in
    let inside : s ≤ length bytes = c.loop-sent.invariant.inside in
    record {
      inside = omega (arith, c.in-Ok.ensures.bound, ap length (take-rest s bytes), length-drop s bytes);
      sent_so_far = subst (λ xs. Appends old now xs) (sym (take-add s n bytes))
          (Appends-more old mid now (take s bytes) (take n (drop s bytes)) c.loop-sent.invariant.sent_so_far
          (subst (λ xs. Appends mid now (take n xs)) (take-rest s bytes) c.in-Ok.ensures.bytes));
    }
