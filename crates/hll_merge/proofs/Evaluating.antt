-- SPDX-License-Identifier: Apache-2.0
-- Lemmas on carrying out a list of steps.
use Rattle.std.proofs.lemmas.Bool.Decides.{nat_tests}
use Rattle.std.proofs.Common.{◌≡◌, nat_eq, true, false, ◌⊎◌, ℕ, suc, ◌+◌, ◌<◌, min, List, [], ◌∷◌, ◌++◌, length, take, drop, get_or, map, refl, sym, ◌∙◌, ap, subst, arith, append_assoc, inl, inr}
use Rattle.std.proofs.Math.Seq.{take-suc}
use Rattle.std.proofs.lemmas.List.{map-append, take-append-drop, length-append}
use Rattle.std.proofs.lemmas.List.Elements.{All-append, All-cons}
use Rattle.hll_coupons.specs.Fold.{fold_to}
use Rattle.hll_sketch.specs.Agree.{Agree}
use Rattle.hll_sketch.specs.Layout.{SketchLayout}
use Rattle.hll_sketch.specs.Value.{pairs_of}
use Rattle.hll_text.specs.declared.fault.Fault.{Fault}
use Rattle.hll_text.specs.declared.fault.Fault.TheVariants.{Memory, Stack}
use Rattle.hll_text.specs.declared.fault.MergeError.{MergeError}
use Rattle.hll_text.specs.Step.{IsWellFormed}
use Rattle.hll_text.specs.Text.{PlanStep, line_number}
use Rattle.hll_merge.specs.Accepting.{Runs, FaultsAtLine, IsFirstFaultOfLines, itself, AcceptsSteps, taken, refused}
use Rattle.hll_merge.specs.Evaluate.{IsOutcomeOfSteps, RunsSteps}
use Rattle.hll_merge.specs.Stack.{StackCarries, StackRefuses}
use Rattle.hll_merge.specs.Headline.{Holds}
use Rattle.hll_merge.specs.Plan.{Plan, inputs, outcome}
use Rattle.hll_merge.proofs.Headline.{steps_hold}
use Rattle.hll_merge.proofs.StackLemmas.{AllRepresent-one, length-AllRepresent, Runs-more}

pub no_items : {X : Type 0} (xs : List X) → nat_eq (length xs) 0 ≡ true → xs ≡ []
no_items [] e = refl
no_items (x ∷ xs) e = absurd (let same : true ≡ false = sym e ∙ positive (length xs) in cc)
  where
    positive : (n : ℕ) → nat_eq (suc n) 0 ≡ false
    positive n = grind (arith, nat_tests)

module _ {X Y : Type 0} (f : X → Y) where
  take-next : (xs : List X) (i : ℕ) (d : X) → i < length xs → take (i + 1) xs ≡ take i xs ++ get_or xs i d ∷ []
  take-next xs i d l = ap (λ n. take n xs) (let next : i + 1 ≡ suc i = omega arith in next) ∙ take-suc xs i d l

  pub map-next : (xs : List X) (i : ℕ) (d : X) → i < length xs → map f (take (i + 1) xs) ≡ map f (take i xs) ++ f (get_or xs i d) ∷ []
  map-next xs i d l = ap (map f) (take-next xs i d l) ∙ map-append f (take i xs) (get_or xs i d ∷ [])

  pub map-parts : (xs : List X) (i : ℕ) (d : X) → i < length xs → map f xs ≡ map f (take i xs) ++ f (get_or xs i d) ∷ map f (drop (i + 1) xs)
  map-parts xs i d l =
      ap (map f) (sym (take-append-drop (i + 1) xs)) ∙ map-append f (take (i + 1) xs) (drop (i + 1) xs)
      ∙ ap (λ ys. ys ++ map f (drop (i + 1) xs)) (map-next xs i d l)
      ∙ append_assoc (map f (take i xs)) (f (get_or xs i d) ∷ []) (map f (drop (i + 1) xs))

-- no steps yet
pub runs_none : (xs : List SketchLayout) → xs ≡ [] → RunsSteps [] xs 0
runs_none xs e = subst (λ ys. RunsSteps [] ys 0) (sym e) (record { plans = []; runs = refl; all_represent = tt; well_formed = λ i d l. absurd (omega arith); counted = let none : 0 ≡ line_number 0 = omega arith in none })

-- one more step
pub runs_more : (all : List PlanStep) (step : PlanStep) (xs ys : List SketchLayout) (n m : ℕ) → RunsSteps all xs n → IsWellFormed step → StackCarries xs step ys → m ≡ line_number (n + 1)
    → RunsSteps (all ++ step ∷ []) ys m
runs_more all step xs ys n m r w carries e =
    let next = carries r.plans r.all_represent in
    record {
      plans = next.0;
      runs = Runs-more itself [] r.plans next.0 all step r.runs (taken step refl next.1);
      all_represent = next.2;
      well_formed = All-append IsWellFormed all (step ∷ []) r.well_formed (All-cons IsWellFormed step [] w (λ i d l. absurd (omega arith)));
      counted = let count : m ≡ line_number (length (all ++ step ∷ [])) = omega (arith, e, r.counted, length-append all (step ∷ [])) in count;
    }

-- a step that fails
pub stops_at : (front : List PlanStep) (step : PlanStep) (rest all : List PlanStep) (xs : List SketchLayout) (n m : ℕ) (e : Fault) → all ≡ front ++ step ∷ rest
    → RunsSteps front xs n → StackRefuses xs step e → m ≡ line_number (n + 1)
    → let refusal : MergeError = record { line = m; fault = e } in (e ≡ Memory) ⊎ FaultsAtLine itself all refusal
stops_at front step rest all xs n m e is r refuses at = elim (refuses r.plans r.all_represent) [
  | inl memory ↦ inl memory
  | inr f ↦ inr (record {
    front = front;
    line = step;
    rest = rest;
    is = is;
    stack = r.plans;
    runs = r.runs;
    fault = refused step refl f;
    at = let line : m ≡ line_number (0 + length front + 1) = omega (arith, at, r.counted) in line;
  })
]

-- the one sketch that is left
pub outcome_of_steps : (all : List PlanStep) (xs : List SketchLayout) (x : SketchLayout) (n : ℕ) → RunsSteps all xs n → xs ≡ x ∷ [] → IsOutcomeOfSteps all x
outcome_of_steps all xs x n r one =
    let t = AllRepresent-one x xs r.plans one r.all_represent in
    let accepted : AcceptsSteps all t.0 = subst (Runs itself [] all) t.1 r.runs in
    record { plan = t.0; accepted = accepted; holds = steps_hold all t.0 r.well_formed accepted; value = t.2 }

-- not exactly one sketch is left
pub ends_at : (all : List PlanStep) (xs : List SketchLayout) (n : ℕ) (e : MergeError) → RunsSteps all xs n → (length xs ≡ 1 → ⊥) → e.fault ≡ Stack → e.line ≡ n → IsFirstFaultOfLines itself all e
ends_at all xs n e r other fault line = inr (record {
  stack = r.plans;
  runs = r.runs;
  left = λ one. other (length-AllRepresent xs r.plans r.all_represent ∙ one);
  fault = fault;
  at = let number : e.line ≡ line_number (0 + length all) = omega (arith, line, r.counted) in number;
})

-- two plans over the same inputs agree, by their outcomes' own lg_k
pub same_inputs_agree_whole : (t u : Plan) → Holds t → Holds u → inputs t ≡ inputs u → Agree (outcome t) (outcome u)
same_inputs_agree_whole t u h k same =
    subst (λ e. fold_to (pairs_of (outcome t)) e ≡ fold_to (pairs_of (outcome u)) e)
    (λ i. min (sym h.meaning.lg_k i) (sym k.meaning.lg_k i)) (h.agrees u k.legal_plan (sym same))
