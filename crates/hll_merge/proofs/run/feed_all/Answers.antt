-- SPDX-License-Identifier: Apache-2.0
use Rattle.std.proofs.Common.{◌++◌, ℕ, List, [], take, sym, ap, subst, ◌∙◌}
use Rattle.std.proofs.lemmas.List.{append-nil}
use Rattle.hll_merge.specs.Feeding.{Feed, IsFedBy, TakesPiece}
use Rattle.hll_text.proofs.StreamLemmas.{Consumes-nil, Consumes-more}
use Rattle.hll_merge.proofs.FeedingLemmas.{unfed-stream, none_of_option, Consumes-keeps}
use Rattle.hll_merge.proofs.run.feed_all.Goals as goal

pub pieces-init : goal.pieces-init
pieces-init g c = record {
  text = [];
  bytes = Consumes-nil (g.R.Read.remaining c.args.reader.now.inner);
  fed = subst (λ s. IsFedBy [] s) (sym c.requires.unfed) unfed-stream;
  fault = ap (λ (s : Feed). s.fault) c.requires.unfed;
  works = c.requires.works;
}

pub returns-in-Err-clause-fed : goal.returns-in-Err-clause-fed
returns-in-Err-clause-fed g c =
    let inv = c.pieces.invariant in
    (inv.text, Consumes-keeps _ _ _ inv.text inv.bytes c.in-Err.ensures.bytes, inv.fed)

pub returns-then-count-eq0-clause-fed : goal.returns-then-count-eq0-clause-fed
returns-then-count-eq0-clause-fed g c =
    let inv = c.pieces.invariant in
    let came : List ℕ = take c.in-Ok.count c.read.new.buffer in (
      inv.text ++ came,
      Consumes-more _ _ _ inv.text came inv.bytes c.in-Ok.ensures.bytes.0,
      subst (λ n. IsFedBy (inv.text ++ take n c.read.new.buffer) c.pieces.feed) (sym c.if-count-eq0.true) (subst (λ text. IsFedBy text c.pieces.feed) (sym (append-nil inv.text)) inv.fed),
    )

pub returns-in-Err-feed-clause-fed : goal.returns-in-Err-feed-clause-fed
returns-in-Err-feed-clause-fed g c =
    let inv = c.pieces.invariant in
    let came : List ℕ = take c.in-Ok.count c.read.new.buffer in
    (inv.text ++ came, Consumes-more _ _ _ inv.text came inv.bytes c.in-Ok.ensures.bytes.0, c.feed.ensures.stream inv.text inv.fed)

pub pieces-preserved : goal.pieces-preserved
pieces-preserved g c =
    let inv = c.pieces.invariant in
    let came : List ℕ = take c.in-Ok.count c.read.new.buffer in
    let took : TakesPiece c.pieces.feed came c.feed.new.self = none_of_option _ c.pieces.feed.fault inv.fault c.in_default.ensures.piece in
    record {
      text = inv.text ++ came;
      bytes = Consumes-more _ _ _ inv.text came inv.bytes c.in-Ok.ensures.bytes.0;
      fed = c.feed.ensures.stream inv.text inv.fed;
      fault = took.fault;
      works = c.in-Ok.ensures.failed ∙ inv.works;
    }
