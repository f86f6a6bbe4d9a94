-- SPDX-License-Identifier: Apache-2.0
use Rattle.std.proofs.Common.{◌≡◌, ◌-◌, ◌^◌, ℕ, List, None, false}
use Rattle.std.specs.Io.KnownBytes.{Consumes}
use Rattle.hll_merge.specs.Feeding.{IsFedBy}
use Rattle.hll_merge.proofs.run.feed_all.Given as goal

-- what was read so far was fed, and nothing has failed
abbrev pub invariant-pieces : goal.invariant-pieces
invariant-pieces g l = record {
  text : List ℕ;
  bytes : Consumes (g.R.Read.remaining l.initial.reader.inner) (g.R.Read.remaining l.reader.inner) text;
  fed : IsFedBy text l.feed;
  fault : l.feed.fault ≡ None;
  works : l.reader.failed ≡ false;
}

abbrev pub decreases-pieces : goal.decreases-pieces
decreases-pieces g l = 2 ^ 64 - l.reader.reads
