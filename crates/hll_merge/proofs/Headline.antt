-- SPDX-License-Identifier: Apache-2.0
-- The plan of an accepted text or list of steps is legal, and so is its outcome.
use Rattle.std.proofs.Common.{◌≡◌, All, ℕ, zero, suc, ◌^◌, ◌<◌, ◌≤◌, inl, List, [], ◌∷◌, ◌++◌, length, get_or, take, Some, Ok, refl, sym, subst, arith}
use Rattle.std.specs.Str.Lines.{lines}
use Rattle.std.specs.FinSet.{empty, from_list, len, len-empty}
use Rattle.std.proofs.lemmas.List.Elements.{All-from_get_or, All-tail}
use Rattle.std.proofs.lemmas.Nat.{div-mul-add}
use Rattle.hll_coupons.specs.Pair.{IsPair, pair, value_of, set_of}
use Rattle.hll_base.specs.declared.hll_type.HllType.{HllType}
use Rattle.hll_base.specs.declared.hll_type.HllType.TheVariants.{Hll8}
use Rattle.hll_sketch.specs.Value.{Sketch, IsLgK, IsLegal, empty_sketch}
use Rattle.hll_sketch.specs.Folding.{IsFoldLgK}
use Rattle.hll_sketch.specs.Merging.{merge, merge_all, empty_union}
use Rattle.hll_sketch.specs.Image.{AreBytes}
use Rattle.hll_sketch.proofs.Folds.{folded_is_legal}
use Rattle.hll_sketch.proofs.Gadgets.{ArePairs-one}
use Rattle.hll_sketch.proofs.Meanings.{ArePairs-empty}
use Rattle.hll_sketch.proofs.LegalImages.{image_is_legal}
use Rattle.hll_sketch.proofs.LegalSketches.{add_is_legal, merge_is_legal}
use Rattle.hll_sketch.specs.Written.{Written}
use Rattle.hll_sketch.proofs.Written.{written_is_image, one_written}
use Rattle.hll_merge.specs.Plan as plan
use Rattle.hll_merge.specs.Plan.{Plan, Plans, no_plans, more_plans, plans_of, outcome, outcomes, IsLegalPlan, LeavesOfEach}
use Rattle.hll_text.specs.Step.{IsWellFormed}
use Rattle.hll_text.specs.Text.{PlanStep, Reading, reading, new, image, coupon, union, fold}
use Rattle.hll_text.proofs.StepLemmas.{reading-well_formed}
use Rattle.hll_merge.specs.Accepting.{Carries, Gives, Runs, itself, Accepts, AcceptsSteps, skipped, taken}
use Rattle.hll_merge.specs.Headline.{OutcomeIsLegal, Holds, AcceptedPlansHold, CanonicalPlansConvergeAnywhere}
use Rattle.hll_merge.proofs.EffectiveLgK.{lg_k-outcome}
use Rattle.hll_merge.proofs.CanonicalPlans.{converges}
use Rattle.hll_merge.proofs.Outcomes.{plans_have_meaning, same_inputs_agree}
use Rattle.hll_merge.proofs.Rearranging.{rearranged_plans_agree}

-- ---- outcomes

empty_legal : (k : ℕ) (w : HllType) → IsLgK k → IsLegal (empty_sketch k w)
empty_legal k w h = record { lg_k = h; content = (ArePairs-empty, inl (refl, omega (arith, len-empty Rattle.std.specs.Ordering.nat_cmp))) }

legal_width : (x : Sketch) (w : HllType) → IsLegal x → IsLegal (record x { width = w })
legal_width x w h = record { lg_k = h.lg_k; content = h.content }

mutual
  pub outcome_is_legal : OutcomeIsLegal
  outcome_is_legal (plan.new k w) h = empty_legal k w h
  outcome_is_legal (plan.image x) h = h.0
  outcome_is_legal (plan.coupon t c) h = add_is_legal (outcome t) (set_of (c ∷ [])) (outcome_is_legal t h.0) (ArePairs-one c h.1)
  outcome_is_legal (plan.fold t e) h = folded_is_legal (outcome t) e (outcome_is_legal t h.0) (subst (λ k. IsFoldLgK k e) (sym (lg_k-outcome t)) h.1)
  outcome_is_legal (plan.union_plan m w ts) h = legal_width (merge_all m (empty_union m) (outcomes ts)) w (merged_each m (empty_union m) ts (empty_legal m Hll8 h.0) h.1)

  merged_each : (m : ℕ) (g : Sketch) (ts : Plans) → IsLegal g → LeavesOfEach (λ _. Unit {0}) ts → IsLegal (merge_all m g (outcomes ts))
  merged_each m g no_plans h l = h
  merged_each m g (more_plans t ts) h l = merged_each m (merge m g (outcome t)) ts (merge_is_legal m g (outcome t) h (outcome_is_legal t l.0)) l.1

-- ---- well-formed steps

lg_k_right : (k : ℕ) → (4 ≤ k) × (k ≤ 21) → IsLgK k
lg_k_right k h = record { low = h.0; high = h.1 }

pair_right : (s v : ℕ) → s < 2 ^ 26 → 1 ≤ v → v ≤ 63 → IsPair (pair s v)
pair_right s v low least most =
    let is : value_of (pair s v) ≡ v = div-mul-add v (2 ^ 26) s low in
    record { valued = omega arith; small = omega arith }

-- ---- the plans of the stack are still legal

abbrev AreLegal : List Plan → Type 0
AreLegal [] = Unit {0}
AreLegal (t ∷ ts) = IsLegalPlan t × AreLegal ts

AreLegal-append : (ts us : List Plan) → AreLegal ts → AreLegal us → AreLegal (ts ++ us)
AreLegal-append [] us h k = k
AreLegal-append (t ∷ ts) us h k = (h.0, AreLegal-append ts us h.1 k)

AreLegal-front : (ts us : List Plan) → AreLegal (ts ++ us) → AreLegal ts
AreLegal-front [] us h = tt
AreLegal-front (t ∷ ts) us h = (h.0, AreLegal-front ts us h.1)

AreLegal-back : (ts us : List Plan) → AreLegal (ts ++ us) → AreLegal us
AreLegal-back [] us h = h
AreLegal-back (t ∷ ts) us h = AreLegal-back ts us h.1

children_legal : (ts : List Plan) → AreLegal ts → LeavesOfEach (λ _. Unit {0}) (plans_of ts)
children_legal [] h = tt
children_legal (t ∷ ts) h = (h.0, children_legal ts h.1)

AreBytes-take : (n : ℕ) (b : List ℕ) → AreBytes b → AreBytes (take n b)
AreBytes-take n b h = All-from_get_or (λ c. c < 256) (take n b) 0 (at n b h)
  where
    at : (n : ℕ) (b : List ℕ) → AreBytes b → (i : ℕ) → i < length (take n b) → get_or (take n b) i 0 < 256
    at zero b h i l = absurd (omega arith)
    at (suc n) [] h i l = absurd (omega arith)
    at (suc n) (c ∷ b) h zero l = h 0 0 (omega arith)
    at (suc n) (c ∷ b) h (suc i) l = at n b (All-tail (λ c. c < 256) c b h) i (omega arith)

carried_legal : (ts : List Plan) (step : PlanStep) (us : List Plan) → IsWellFormed step → AreLegal ts → Carries ts step us → AreLegal us
carried_legal ts (new k w) us r h c = subst AreLegal (sym c) (AreLegal-append ts _ h (lg_k_right k r.0, tt))
carried_legal ts (image bytes) us r h c = subst AreLegal (sym c.2) (AreLegal-append ts _ h ((image_is_legal (take c.1.size bytes) c.0 (AreBytes-take c.1.size bytes r.1) c.1.image, tt), tt))
carried_legal ts (coupon s v) us r h c =
    let all : AreLegal (c.0 ++ c.1 ∷ []) = subst AreLegal c.2 h in
    subst AreLegal (sym c.3) (AreLegal-append c.0 _ (AreLegal-front c.0 _ all) (((AreLegal-back c.0 _ all).0, pair_right s v r.0.0 r.0.1 r.0.2), tt))
carried_legal ts (fold e) us r h c =
    let all : AreLegal (c.0 ++ c.1 ∷ []) = subst AreLegal c.2 h in
    subst AreLegal (sym c.4) (AreLegal-append c.0 _ (AreLegal-front c.0 _ all) (((AreLegal-back c.0 _ all).0, record { low = r.0.0; high = c.3 }), tt))
carried_legal ts (union n m w) us r h c =
    let all : AreLegal (c.0 ++ c.1) = subst AreLegal c.2 h in
    subst AreLegal (sym c.4) (AreLegal-append c.0 _ (AreLegal-front c.0 c.1 all) ((lg_k_right m r.0, children_legal c.1 (AreLegal-back c.0 c.1 all)), tt))

module _ {L : Type 0} (reads : L → Reading) where
  -- the step that a line says, if it says one
  abbrev SaysWellFormed : L → Type 0
  SaysWellFormed l = (step : PlanStep) → reads l ≡ Ok (Some step) → IsWellFormed step

  line_legal : (ts : List Plan) (l : L) (us : List Plan) → SaysWellFormed l → AreLegal ts → Gives reads ts l us → AreLegal us
  line_legal ts l us r h (skipped says e) = subst AreLegal (sym e) h
  line_legal ts l us r h (taken step says t) = carried_legal ts step us (r step says) h t

  -- however lines are read, they leave legal plans
  run_legal : (ts : List Plan) (ls : List L) (us : List Plan) → All SaysWellFormed ls → AreLegal ts → Runs reads ts ls us → AreLegal us
  run_legal ts [] us r h g = subst AreLegal (sym g) h
  run_legal ts (l ∷ ls) us r h g = run_legal g.0 ls us (All-tail SaysWellFormed l ls r) (line_legal ts l g.0 (r 0 l (omega arith)) h g.1) g.2

pub canonical_plans_converge_anywhere : CanonicalPlansConvergeAnywhere
canonical_plans_converge_anywhere t h = record {
  canonical = converges t h;
  rearranged = λ u k r. sym (rearranged_plans_agree t u h k r);
  same_bytes = λ u a b k r v w. one_written (outcome t) a b v (subst (Written b) (sym (rearranged_plans_agree t u h k r)) w);
}

pub legal_plans_hold : (t : Plan) → IsLegalPlan t → Holds t
legal_plans_hold t legal =
    let sketch : IsLegal (outcome t) = outcome_is_legal t legal in
    record {
      legal_plan = legal;
      legal = sketch;
      meaning = plans_have_meaning t legal;
      image = λ bytes w. written_is_image bytes (outcome t) sketch w;
      agrees = λ u k same. same_inputs_agree t u legal k (sym same);
      converges = canonical_plans_converge_anywhere t;
    }

pub text_holds : (text : List ℕ) (t : Plan) → Accepts text t → Holds t
text_holds text t h = legal_plans_hold t (run_legal reading [] (lines text) (t ∷ []) (λ i d l. reading-well_formed (get_or (lines text) i d)) tt h).0

pub steps_hold : (all : List PlanStep) (t : Plan) → All IsWellFormed all → AcceptsSteps all t → Holds t
steps_hold all t w h = legal_plans_hold t (run_legal itself [] all (t ∷ []) right tt h).0
  where
    right : All (SaysWellFormed itself) all
    right i d l step is = let same : get_or all i d ≡ step = cc in subst IsWellFormed same (w i d l)

pub accepted_plans_hold : AcceptedPlansHold
accepted_plans_hold = record { of_text = text_holds; of_steps = steps_hold }
