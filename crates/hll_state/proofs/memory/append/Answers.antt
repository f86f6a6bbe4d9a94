-- SPDX-License-Identifier: Apache-2.0
use Rattle.std.proofs.Common.{◌≡◌, ℕ, ◌-◌, List, [], ◌∷◌, length, drop, sym, ap, subst, ◌∙◌, arith}
use Rattle.std.proofs.lemmas.List.{length-drop}
use borrow.Rule.Slice.PartMut.{mid_of}
use Rattle.hll_base.specs.declared.hll_type.HllType.TheVariants.{Hll8}
use Rattle.hll_coupons.specs.Pair.{Pairs, set_of}
use Rattle.hll_sketch.specs.Adding.{content_with}
use Rattle.hll_sketch.specs.Value.{Sketch, Content}
use Rattle.hll_state.specs.Counter.{sketch_in, content_of}
use Rattle.hll_state.specs.Header.{AreWithin}
use Rattle.hll_state.specs.Memory.{HasHeader}
use Rattle.hll_state.specs.declared.header.CouponTable.{CouponTable}
use Rattle.hll_state.specs.declared.header.Header.{Header}
use Rattle.hll_state.specs.declared.header.Held.{Held}
use Rattle.hll_state.specs.declared.header.Held.TheVariants.{Coupons}
use Rattle.hll_state.proofs.States.{means, rest_borrowed, rest_written, size_written}
use Rattle.hll_state.proofs.memory.append.Goals as goal

pub returns-clause-added : goal.returns-clause-added
returns-clause-added c done =
    let e : List (List ℕ) = c.args.elements.now in
    let n : List (List ℕ) = c.write_used.new.elements in
    let h : Header = c.in-Some.header in
    let k : ℕ = h.lg_k in
    let more : CouponTable = c.with-more.result in
    let g : Header = record h { held = Coupons more } in
    let body : List (List ℕ) = c.with-more.new.body in
    let has : HasHeader e h = c.in-Some.ensures.some in
    let T : Pairs = set_of (c.args.raw ∷ []) in
    let fits : length body ≡ length e - 10 = c.with-more.auto.body ∙ ap length (rest_borrowed e) ∙ length-drop 10 e in
    let size : length n ≡ length e = c.write_used.auto.elements ∙ size_written e body has.there fits in
    let rest : drop 10 n ≡ body = c.write_used.ensures.rest ∙ rest_written e body has.there in
    let room : length (mid_of 10 (length e - 10) e) ≡ length n - 10 = sym c.with-more.auto.body ∙ fits ∙ ap (λ m. m - 10) (sym size) in
    let content : content_of k (Coupons more) (drop 10 n) ≡ content_with k (content_of k h.held (drop 10 e)) T =
    ap (content_of k (Coupons more)) rest ∙ c.with-more.ensures.added
    ∙ ap (λ xs. content_with k (content_of k (Coupons c.in-Coupons.coupons) xs) T) (rest_borrowed e)
    ∙ ap (λ (held : Held). content_with k (content_of k held (drop 10 e)) T) (sym c.in-Coupons.is) in
    record {
      sketch = sketch_in h (drop 10 e);
      was = means e h has;
      is = record {
        state = record {
          header = g;
          has = record {
            there = omega (arith, size, has.there);
            read = c.write_used.ensures.header;
            within = record { lg_k = has.within.lg_k; widths = has.within.widths; held = subst (AreWithin k more) room c.with-more.ensures.within };
          };
        };
        is = ap (λ (it : Content). let x : Sketch = record { lg_k = k; width = Hll8; content = it } in x) (sym content);
      };
    }
