-- SPDX-License-Identifier: Apache-2.0
use Rattle.std.proofs.Common.{length, ◌-◌, ◌≡◌, ◌≤◌, take}
use Rattle.std.specs.Io.KnownBytes.{Appends}
use Rattle.hex.specs.Hex.{encode_lower}
use Rattle.hll_text.proofs.streams.write_hex_line.Given as goal

-- the digits of the bytes so far are written
abbrev pub invariant-loop-shown : goal.invariant-loop-shown
invariant-loop-shown g l = record {
  inside : l.shown ≤ length l.bytes;
  written : Appends (g.W.Write.contents l.initial.writer.inner) (g.W.Write.contents l.writer.inner) (encode_lower (take l.shown l.bytes));
  failed : l.writer.failed ≡ l.initial.writer.failed;
}

abbrev pub decreases-loop-shown : goal.decreases-loop-shown
decreases-loop-shown g l = length l.bytes - l.shown
