-- SPDX-License-Identifier: Apache-2.0
use Rattle.std.proofs.Common.{◌≡◌, ◌∙◌, inl, inr, sym, subst, refl}
use Rattle.std.proofs.KnownBytes.{Keeps-refl}
use Rattle.hll_text.specs.Text.{printed_line}
use Rattle.hll_merge.specs.Run.{IsAnswer, IsRefused}
use Rattle.hll_merge.proofs.FeedingLemmas.{Gone, gone}
use Rattle.hll_merge.proofs.RunLemmas.{all_of, refused_with, fault_of_fed, Whole, whole_of, first_of_front}
use Rattle.hll_merge.proofs.run.run.Goals as goal

pub returns-in_err-feed : goal.returns-in_err-feed
returns-in_err-feed g c =
    refused_with _ (IsRefused _) c.from_residual.result c.in_err-feed.field-0.0 c.from_residual.ensures.1
    (inl (record { fault = c.in_err-feed.ensures.err; writer = c.requires.writer_works; unwritten = Keeps-refl _ }))

pub returns-in_err-feed_all : goal.returns-in_err-feed_all
returns-in_err-feed_all g c =
    let fed = c.feed_all.ensures.fed in
    let stays = c.in_err-feed_all.ensures.err in
    refused_with _ (IsRefused _) c.from_residual-in_err-feed_all.result c.in_err-feed_all.field-0.0 c.from_residual-in_err-feed_all.ensures.1 (elim (fault_of_fed fed.0 c.feed_all.new.feed c.in_err-feed_all.field-0.0 fed.2 stays.0) [
      | inl m ↦ inl (record { fault = m; writer = c.requires.writer_works; unwritten = Keeps-refl _ })
      | inr f ↦
          let whole : Whole (g.R.Read.remaining c.args.reader.now.inner) fed.0 = whole_of _ _ fed.0 fed.1 in
          inr (inl (record {
            reader = stays.1;
            writer = c.requires.writer_works;
            unwritten = Keeps-refl _;
            text = whole.text;
            all = whole.all;
            taken = fed.0;
            read = fed.1;
            first = first_of_front whole.text fed.0 whole.more c.in_err-feed_all.field-0.0 whole.is f;
          }))
    ])

pub returns-in_err-image : goal.returns-in_err-image
returns-in_err-image g c =
    let reader : c.feed_all.new.reader.failed ≡ _ = sym c.failed.ensures ∙ c.if-failed.false in
    let fed = c.feed_all.ensures.fed in
    let ok = c.in_ok-feed_all.ensures.ok in
    refused_with _ (IsRefused _) c.from_residual-in_err-image.result c.in_err-image.field-0.0 c.from_residual-in_err-image.ensures.1 (elim (c.in_err-image.ensures ok.0 fed.0 fed.2) [
      | inl m ↦ inl (record { fault = m; writer = c.requires.writer_works; unwritten = Keeps-refl _ })
      | inr f ↦ inr (inl (record {
        reader = reader;
        writer = c.requires.writer_works;
        unwritten = Keeps-refl _;
        text = fed.0;
        all = all_of _ _ fed.0 fed.1 (ok.1 reader);
        taken = fed.0;
        read = fed.1;
        first = f;
      }))
    ])

pub returns-in-Ok : goal.returns-in-Ok
returns-in-Ok g c =
    let reader : c.feed_all.new.reader.failed ≡ _ = sym c.failed.ensures ∙ c.if-failed.false in
    let fed = c.feed_all.ensures.fed in
    let ok = c.in_ok-feed_all.ensures.ok in
    let found = c.in_ok-image.ensures ok.0 fed.0 fed.2 in
    let written = c.in-Ok.ensures.ok in
    record {
      reader = reader;
      writer = written.1 ∙ c.requires.writer_works;
      text = fed.0;
      read = fed.1;
      whole = ok.1 reader;
      line = printed_line c.deref.result.now;
      answer = subst (λ bytes. IsAnswer fed.0 (printed_line bytes)) (sym c.deref.ensures.value) found.0;
      written = written.0;
    }

pub returns-then-failed : goal.returns-then-failed
returns-then-failed g c =
    let fed = c.feed_all.ensures.fed in
    let ok = c.in_ok-feed_all.ensures.ok in
    let s : Gone fed.0 c.feed_all.new.feed = gone fed.0 c.feed_all.new.feed fed.2 ok.0 in
    subst (IsRefused _) (sym c.at.ensures) (inr (inr (inl (record {
      reader = sym c.failed.ensures ∙ c.if-failed.true;
      writer = c.requires.writer_works;
      unwritten = Keeps-refl _;
      text = fed.0;
      read = fed.1;
      first = inr (record { fault = refl; at = c.count.ensures ∙ s.count; stack = s.stack; runs = s.runs });
    }))))

pub returns : goal.returns
returns g c =
    let reader : c.feed_all.new.reader.failed ≡ _ = sym c.failed.ensures ∙ c.if-failed.false in
    let fed = c.feed_all.ensures.fed in
    let ok = c.in_ok-feed_all.ensures.ok in
    let found = c.in_ok-image.ensures ok.0 fed.0 fed.2 in
    let failed = c.in-Err.ensures.err in
    subst (IsRefused _) (sym c.at-in-Err.ensures) (inr (inr (inr (record {
      fault = failed.0;
      reader = reader;
      writer = failed.1;
      text = fed.0;
      read = fed.1;
      whole = ok.1 reader;
      at = found.1;
      line = printed_line c.deref.result.now;
      answer = subst (λ bytes. IsAnswer fed.0 (printed_line bytes)) (sym c.deref.ensures.value) found.0;
      sent = failed.2;
      short = failed.3;
      written = failed.4;
    }))))
