-- SPDX-License-Identifier: Apache-2.0
-- Sketches that are merged into a state, with a bound or at the same lg_k.
use Rattle.std.proofs.Common.{◌≡◌, ℕ, Bool, true, false, not, ◌&&◌, if◌then◌else◌, nat_eq, List, length, refl, sym, ap, subst, ◌∙◌, ◌⊎◌, inl, inr}
use Rattle.std.proofs.lemmas.Bool.{cond-true, cond-false, eq-eqb, true≢false}
use Rattle.hll_base.specs.declared.hll_type.HllType.TheVariants.{Hll8}
use Rattle.hll_sketch.specs.Merging.{merge, merge_content}
use Rattle.hll_sketch.specs.Value.{Sketch, is_empty, empty_sketch}
use Rattle.hll_state.specs.Counter.{sketch_in}
use Rattle.hll_state.specs.Header.{IsWithin}
use Rattle.hll_state.specs.Joined.{joined, started, started_header, raised, restarted, lg_ks_differ, is_refused, widths_after, AreEnoughToMerge, MergesInto, IsJoined}
use Rattle.hll_state.specs.Merged.{HasRoomToMerge, is_unused}
use Rattle.hll_state.specs.declared.header.Header.{Header}
use Rattle.hll_state.specs.declared.join.Joined.{Joined}
use Rattle.hll_state.specs.declared.join.Joined.TheVariants.{Done, NoRoom, OtherLgK}
use Rattle.hll_state.proofs.Emptiness.{unused_is_empty}

-- ---- lg_k

no_differ : (b same : Bool) (rest : Bool) → (b ≡ true) ⊎ (same ≡ true) → (not b && (not rest && not same)) ≡ false
no_differ true same rest is = refl
no_differ false true true is = refl
no_differ false true false is = refl
no_differ false false rest (inl is) = absurd (true≢false (sym is))
no_differ false false rest (inr is) = absurd (true≢false (sym is))

pub bounded_same : (b : Bool) (k : ℕ) (y : Sketch) → b ≡ true → lg_ks_differ b k y ≡ false
bounded_same b k y is = no_differ b (nat_eq k y.lg_k) (is_empty y) (inl is)

pub own_same : (b : Bool) (k : ℕ) (y : Sketch) → k ≡ y.lg_k → lg_ks_differ b k y ≡ false
own_same b k y is = no_differ b (nat_eq k y.lg_k) (is_empty y) (inr (eq-eqb k y.lg_k is))

empty_differ : (b rest same : Bool) → rest ≡ true → (not b && (not rest && not same)) ≡ false
empty_differ true rest same is = refl
empty_differ false true same is = refl
empty_differ false false same is = absurd (true≢false (sym is))

pub empty_same : (b : Bool) (k : ℕ) (y : Sketch) → is_empty y ≡ true → lg_ks_differ b k y ≡ false
empty_same b k y is = empty_differ b (is_empty y) (nat_eq k y.lg_k) is

false_first : (a b : Bool) → a ≡ false → (a && b) ≡ false
false_first true b is = absurd (true≢false is)
false_first false b is = refl

pub not_refused : (b : Bool) (x y : Sketch) → lg_ks_differ b x.lg_k y ≡ false → is_refused b x y ≡ false
not_refused b x y same = false_first (lg_ks_differ b x.lg_k y) (not (is_empty x)) same

-- ---- the sketch

pub joined-empty : (b : Bool) (x y : Sketch) → is_empty y ≡ true → joined b x y ≡ raised b y.lg_k x
joined-empty b x y none =
    let s : Sketch = started b x y in
    cond-true (is_empty y) s (merge_content s.lg_k s y y.content) none
    ∙ cond-true (is_empty y) (raised b y.lg_k x) (if lg_ks_differ b x.lg_k y then empty_sketch y.lg_k Hll8 else x) none

started-same : (b : Bool) (x y : Sketch) → is_empty y ≡ false → lg_ks_differ b x.lg_k y ≡ false → started b x y ≡ x
started-same b x y some same =
    cond-false (is_empty y) (raised b y.lg_k x) (if lg_ks_differ b x.lg_k y then empty_sketch y.lg_k Hll8 else x) some
    ∙ cond-false (lg_ks_differ b x.lg_k y) (empty_sketch y.lg_k Hll8) x same

pub joined-same : (b : Bool) (x y : Sketch) → is_empty y ≡ false → lg_ks_differ b x.lg_k y ≡ false → joined b x y ≡ merge x.lg_k x y
joined-same b x y some same = ap (λ (s : Sketch). merge s.lg_k s y) (started-same b x y some same)

started_header-same : (b : Bool) (h : Header) (y : Sketch) → lg_ks_differ b h.lg_k y ≡ false → started_header b h y ≡ h
started_header-same b h y same = cond-false (lg_ks_differ b h.lg_k y) (restarted y.lg_k h.widths) h same

-- ---- the state

-- what merging gives at the same lg_k or under a bound
pub merged_joined : (b : Bool) (others widths : ℕ) (y : Sketch) (old : Header) (old_body : List (List ℕ)) (new : Header) (new_body : List (List ℕ)) (answer : Joined)
    → IsWithin old (length old_body) → is_empty y ≡ false → lg_ks_differ b old.lg_k y ≡ false → widths ≡ widths_after old.widths others (is_unused old.held) (is_empty y)
    → MergesInto widths y old old_body new new_body answer → IsJoined b others y old old_body new new_body answer
merged_joined b others widths y old old_body new new_body Done within some same widths_are is = record {
  accepted = λ not_zero. not_refused b (sketch_in old old_body) y same;
  is = λ not_zero. is.is not_zero ∙ sym (joined-same b (sketch_in old old_body) y some same);
  empty = λ not_zero. unused_is_empty old old_body within not_zero;
  takes = λ len enough to_merge. is.takes len (subst (λ h. HasRoomToMerge h y len) (started_header-same b old y same) to_merge);
  widths = is.widths_are ∙ widths_are;
}
merged_joined b others widths y old old_body new new_body (NoRoom len) within some same widths_are is =
    let kept : new.lg_k ≡ old.lg_k = ap (λ (x : Sketch). x.lg_k) is.kept in
    record {
      kept = is.kept;
      widths = is.widths;
      accepted = λ not_zero. not_refused b (sketch_in old old_body) y same;
      keeps = is.keeps;
      lacks = subst (λ h. HasRoomToMerge h y (length old_body) → ⊥) (sym (started_header-same b old y same)) is.lacks;
      enough = subst (λ h. AreEnoughToMerge y h len) (sym (started_header-same b new y (ap (λ k. lg_ks_differ b k y) kept ∙ same))) is.enough;
      short = is.short;
    }
merged_joined b others widths y old old_body new new_body OtherLgK within some same widths_are is = absurd is
