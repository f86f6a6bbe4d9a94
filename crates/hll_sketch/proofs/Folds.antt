-- SPDX-License-Identifier: Apache-2.0
-- Folds of sketches: the laws.
use Rattle.std.proofs.Common.{◌≡◌, ℕ, ◌≤◌, true, false, cond, eqb, Option, Some, None, refl, sym, ap, ◌∙◌, arith}
use Rattle.std.specs.FinSet.{len}
use Rattle.std.proofs.lemmas.Bool.{cond-true, eq-eqb}
use Rattle.hll_coupons.specs.Pair.{Pairs}
use Rattle.hll_coupons.specs.Fold.{fold_to, pairs}
use Rattle.hll_coupons.proofs.Registers.{fold_to-pairs, fold_to-pairs-fold_to}
use Rattle.hll_registers.specs.State.{IsState, cleared_state}
use Rattle.hll_sketch.specs.Adding.{content_for}
use Rattle.hll_sketch.specs.Folding.{folded, folded_content, FoldedIsLegal, FoldedIsCanonical, FoldedHasSameFolds}
use Rattle.hll_sketch.specs.Canonical.{IsCanonicalClearedContent}
use Rattle.hll_sketch.specs.Stage.{stage}
use Rattle.hll_sketch.specs.Value.{Sketch, Content, coupons, registers, pairs_in, in_registers, IsLegal, IsLegalContent}
use Rattle.hll_sketch.proofs.LegalSketches.{settled_legal, fold_are_registers, ArePairs-pairs, IsState-cleared_state}

-- registers folded to their own lg_k are unchanged
pub folded_at_own : (k e : ℕ) (c : Content) → e ≡ k → k ≤ 21 → IsLegalContent k c → in_registers c ≡ true → c ≡ folded_content k e c
folded_at_own k e (coupons S p) same small legal is = absurd (cc)
folded_at_own k e (registers R s) same small legal is =
    sym (λ i. registers ((ap (fold_to (pairs R)) same ∙ fold_to-pairs R k small legal.0.size) i) (cond-true (eqb e k) s cleared_state (eq-eqb e k same) i))

-- so a sketch with registers is its own fold at its own lg_k
pub own_fold_of_registers : (x : Sketch) (e : ℕ) → x.lg_k ≡ e → IsLegal x → in_registers x.content ≡ true → folded x e ≡ x
own_fold_of_registers x e same legal is =
    λ i. record { lg_k = sym same i; width = x.width; content = sym (folded_at_own x.lg_k e x.content (sym same) legal.lg_k.high legal.content is) i }

-- ---- laws

folded_content_legal : (k e : ℕ) (c : Content) → k ≤ 21 → IsLegalContent k c → IsLegalContent e (folded_content k e c)
folded_content_legal k e (coupons S p) small legal = settled_legal e S (len S) (stage e 3 (len S)) 3 legal.0 refl refl
folded_content_legal k e (registers R s) small legal = (
  fold_are_registers (pairs R) e (ArePairs-pairs k R small legal.0),
  (elim (eqb e k) as (λ b. IsState (cond b s cleared_state)) [ true ↦ legal.1 | false ↦ IsState-cleared_state ]),
)

pub folded_is_legal : FoldedIsLegal
folded_is_legal x e legal at = record {
  lg_k = record { low = at.low; high = omega (arith, at.high, legal.lg_k.high) };
  content = folded_content_legal x.lg_k e x.content legal.lg_k.high legal.content;
}

canonical_settled : (e : ℕ) (S : Pairs) (o : Option ℕ) → stage e 3 (len S) ≡ o → IsCanonicalClearedContent e (content_for e S o)
canonical_settled e S (Some q) is = is
canonical_settled e S None is = refl

canonical_content : (k e : ℕ) (c : Content) → IsCanonicalClearedContent k c → IsCanonicalClearedContent e (folded_content k e c)
canonical_content k e (coupons S p) canonical = canonical_settled e S (stage e 3 (len S)) refl
canonical_content k e (registers R s) canonical = elim (eqb e k) as (λ b. cond b s cleared_state ≡ cleared_state) [ true ↦ canonical | false ↦ refl ]

pub folded_is_canonical : FoldedIsCanonical
folded_is_canonical x e canonical = canonical_content x.lg_k e x.content canonical

settled_folds : (e d : ℕ) (S : Pairs) (o : Option ℕ) → e ≤ 21 → d ≤ e → fold_to (pairs_in (content_for e S o)) d ≡ fold_to S d
settled_folds e d S (Some q) small below = refl
settled_folds e d S None small below = fold_to-pairs-fold_to S e d below small

same_folds : (k e d : ℕ) (c : Content) → e ≤ 21 → d ≤ e → fold_to (pairs_in (folded_content k e c)) d ≡ fold_to (pairs_in c) d
same_folds k e d (coupons S p) small below = settled_folds e d S (stage e 3 (len S)) small below
same_folds k e d (registers R s) small below = fold_to-pairs-fold_to (pairs R) e d below small

pub folded_has_same_folds : FoldedHasSameFolds
folded_has_same_folds x e d small below = same_folds x.lg_k e d x.content small below
