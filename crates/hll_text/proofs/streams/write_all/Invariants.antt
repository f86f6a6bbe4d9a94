-- SPDX-License-Identifier: Apache-2.0
use Rattle.std.proofs.Common.{◌≡◌, ◌≤◌, ◌-◌, length, take}
use Rattle.std.specs.Io.KnownBytes.{Appends}
use Rattle.hll_text.proofs.streams.write_all.Given as goal

abbrev pub invariant-loop-sent : goal.invariant-loop-sent
invariant-loop-sent g l = record {
  inside : l.sent ≤ length l.bytes;
  sent_so_far : Appends (g.W.Write.contents l.initial.writer.inner) (g.W.Write.contents l.writer.inner) (take l.sent l.bytes);
  failed : l.writer.failed ≡ l.initial.writer.failed;
}

abbrev pub decreases-loop-sent : goal.decreases-loop-sent
decreases-loop-sent g l = length l.bytes - l.sent
