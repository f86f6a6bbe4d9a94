-- SPDX-License-Identifier: Apache-2.0
use Rattle.std.proofs.Common.{◌≡◌, ◌<◌, ◌+◌, ◌-◌, ℕ, List, [], ◌∷◌, ◌++◌, length, take, drop, sym, subst, refl, ◌∙◌, arith}
use Rattle.std.specs.Io.KnownBytes.{Appends}
use Rattle.std.proofs.lemmas.List.{take_all}
use Rattle.hex.specs.Hex.{encode_lower}
use Rattle.std.proofs.lemmas.Result.{IfErr-weaker, on_ok_weaker}
use Rattle.hll_base.proofs.Errors.{IfErr-passed}
use Rattle.hll_text.proofs.StreamLemmas.{Appends-nil, Appends-more, front_more, digits-none, digits-more, line-cut}
use Rattle.hll_text.proofs.streams.write_hex_line.Given.{Over}
use Rattle.hll_text.proofs.streams.write_hex_line.Goals as goal

pub loop-shown-init : goal.loop-shown-init
loop-shown-init g c =
    let old = g.W.Write.contents c.args.writer.now.inner in
    record {
      inside = omega arith;
      written = subst (λ ds. Appends old old ds) (sym digits-none) (Appends-nil old);
      failed = refl;
    }

pub loop-shown-preserved : goal.loop-shown-preserved
loop-shown-preserved g c =
    let old = g.W.Write.contents c.args.writer.now.inner in
    let mid = g.W.Write.contents c.loop-shown.writer.inner in
    let now = g.W.Write.contents c.write_digits.new.writer.inner in
    let s : ℕ = c.loop-shown.shown in
    let n : ℕ = c.min-size.result in
    let bytes : List ℕ = c.args.bytes.now in
    let size : s + n - s ≡ n = omega arith in
    record {
      inside = omega (arith, c.loop-shown.invariant.inside, c.min-size.ensures);
      written = subst (λ ds. Appends old now ds) (sym (digits-more s n bytes))
          (Appends-more old mid now (encode_lower (take s bytes)) (encode_lower (take n (drop s bytes))) c.loop-shown.invariant.written
          (subst (λ m. Appends mid now (encode_lower (take m (drop s bytes)))) size c.in_ok-write_digits.ensures.ok.0));
      failed = c.in_ok-write_digits.ensures.ok.1 ∙ c.loop-shown.invariant.failed;
    }

pub returns-in_err-write_digits-clause-err : goal.returns-in_err-write_digits-clause-err
returns-in_err-write_digits-clause-err g c =
    let old = g.W.Write.contents c.args.writer.now.inner in
    let mid = g.W.Write.contents c.loop-shown.writer.inner in
    let now = g.W.Write.contents c.write_digits.new.writer.inner in
    let s : ℕ = c.loop-shown.shown in
    let n : ℕ = c.min-size.result in
    let bytes : List ℕ = c.args.bytes.now in
    let size : s + n - s ≡ n = omega arith in
    let failed = c.in_err-write_digits.ensures.err in
    let front = front_more old mid now (encode_lower (take s bytes)) (encode_lower (take n (drop s bytes))) (encode_lower (drop n (drop s bytes)) ++ 10 ∷ []) failed.2
    c.loop-shown.invariant.written (subst (λ m. failed.2 < length (encode_lower (take m (drop s bytes)))) size failed.3)
    (subst (λ m. Appends mid now (take failed.2 (encode_lower (take m (drop s bytes))))) size failed.4) in
    IfErr-passed _ c.from_residual.result c.in_err-write_digits.field-0.0 c.from_residual.ensures.1 (
      failed.0,
      failed.1,
      front.0,
      subst (λ whole. front.0 < length whole) (sym (line-cut s n bytes)) front.1,
      subst (λ whole. Appends old now (take front.0 whole)) (sym (line-cut s n bytes)) front.2,
    )

-- once the loop ends all digits are written, and the LF is what is left
all_digits : (g : Over) (c : goal.After-write_all g) → Appends (g.W.Write.contents c.args.writer.now.inner) (g.W.Write.contents c.loop-shown.writer.inner) (encode_lower c.args.bytes.now)
all_digits g c =
    let bytes : List ℕ = c.args.bytes.now in
    let all : take c.loop-shown.shown bytes ≡ bytes = take_all c.loop-shown.shown bytes (omega (arith, c.loop-shown-test.false)) in
    subst (λ xs. Appends (g.W.Write.contents c.args.writer.now.inner) (g.W.Write.contents c.loop-shown.writer.inner) (encode_lower xs)) all c.loop-shown.invariant.written

pub returns-clause-ok : goal.returns-clause-ok
returns-clause-ok g c =
    on_ok_weaker c.write_all.result (λ sent. (
      Appends-more _ _ (g.W.Write.contents c.write_all.new.writer.inner) (encode_lower c.args.bytes.now) (10 ∷ []) (all_digits g c) sent.0,
      sent.1 ∙ c.loop-shown.invariant.failed,
    )) c.write_all.ensures.ok

pub returns-clause-err : goal.returns-clause-err
returns-clause-err g c =
    IfErr-weaker c.write_all.result _ _ (λ e failed.
    let front = front_more _ _ (g.W.Write.contents c.write_all.new.writer.inner) (encode_lower c.args.bytes.now) (10 ∷ []) [] failed.2 (all_digits g c) failed.3 failed.4 in
    (failed.0, failed.1, front.0, front.1, front.2)) c.write_all.ensures.err
