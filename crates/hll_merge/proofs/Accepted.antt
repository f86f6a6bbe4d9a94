-- SPDX-License-Identifier: Apache-2.0
-- Lemmas on texts: a text has one plan or one first fault, and not both.
use Rattle.std.proofs.Common.{◌≡◌, ℕ, suc, ◌+◌, inl, inr, List, [], ◌∷◌, ◌++◌, length, take, drop, refl, sym, ◌∙◌, ap, subst, arith, Some, None, Ok, Err}
use Rattle.std.proofs.lemmas.List.{length-append, take-append-drop}
use Rattle.std.proofs.lemmas.Result.{IfErr-at_err}
use Rattle.std.specs.Str.Lines.{lines}
use Rattle.hll_base.specs.Reason.{kind_of}
use Rattle.hll_coupons.specs.Pair.{pair}
use Rattle.hll_sketch.specs.Checks.{first_fault}
use Rattle.hll_sketch.specs.Image.{IsReadAs}
use Rattle.hll_sketch.specs.Value.{Sketch}
use Rattle.hll_sketch.proofs.FaultKinds.{faults_are_of_data}
use Rattle.hll_sketch.proofs.FirstFaults.{first_fault_stands, faultless_is_image}
use Rattle.hll_sketch.proofs.Images.{one_image}
use Rattle.hll_text.specs.declared.fault.Fault.{Fault}
use Rattle.hll_text.specs.declared.fault.Fault.TheVariants as faults
use Rattle.hll_text.specs.declared.fault.MergeError.{MergeError}
use Rattle.hll_text.specs.Text.{PlanStep, Reading, new, image, coupon, union, fold, line_number, reading, IsLineFault}
use Rattle.hll_text.proofs.FaultLemmas.{IfErr-reading}
use Rattle.hll_merge.specs.Plan as plan
use Rattle.hll_merge.specs.Plan.{Plan, plans_of, effective_lg_k}
use Rattle.hll_merge.specs.Accepting.{Carries, IsFaultOfStep, Gives, IsFaultOfLine, Runs, FaultsFrom, AcceptsLines, IsFirstFaultOfLines, itself, skipped, taken, unread, refused}
use Rattle.hll_merge.specs.Texts.{OnePlan, OneFirstFault, AcceptedIsFaultless, IsOwnFault, FirstFaultsAreOwn}

-- ---- one outcome of a step

append_parts : (f g x y : List Plan) → length x ≡ length y → f ++ x ≡ g ++ y → (f ≡ g) × (x ≡ y)
append_parts [] [] x y n e = (refl, e)
append_parts [] (b ∷ g) x y n e = absurd (omega (arith, ap length e, length-append g y))
append_parts (a ∷ f) [] x y n e = absurd (omega (arith, ap length e, length-append f x))
append_parts (a ∷ f) (b ∷ g) x y n e =
    let head : a ≡ b = cc in
    let tail : f ++ x ≡ g ++ y = cc in
    let rest = append_parts f g x y n tail in
    ((λ i. head i ∷ rest.0 i), rest.1)

-- the last plan and the plans before it
last_parts : (f g : List Plan) (t u : Plan) → f ++ t ∷ [] ≡ g ++ u ∷ [] → (f ≡ g) × (t ≡ u)
last_parts f g t u e =
    let parts = append_parts f g (t ∷ []) (u ∷ []) refl e in
    let top : t ≡ u = let same : (t ∷ []) ≡ (u ∷ []) = parts.1 in cc in
    (parts.0, top)

one_sketch : (bytes : List ℕ) (x y : Sketch) → IsReadAs bytes x → IsReadAs bytes y → x ≡ y
one_sketch bytes x y h g =
    (one_image (take h.size bytes) (take g.size bytes) (drop h.size bytes) (drop g.size bytes) x y h.image g.image (take-append-drop h.size bytes ∙ sym (take-append-drop g.size bytes))).1

one_carry : (ts : List Plan) (step : PlanStep) (us vs : List Plan) → Carries ts step us → Carries ts step vs → us ≡ vs
one_carry ts (new k w) us vs h g = h ∙ sym g
one_carry ts (image bytes) us vs h g = h.2 ∙ ap (λ x. ts ++ plan.image x ∷ []) (one_sketch bytes h.0 g.0 h.1 g.1) ∙ sym g.2
one_carry ts (coupon s v) us vs h g =
    let parts = last_parts h.0 g.0 h.1 g.1 (sym h.2 ∙ g.2) in
    h.3 ∙ (λ i. parts.0 i ++ plan.coupon (parts.1 i) (pair s v) ∷ []) ∙ sym g.3
one_carry ts (union n m w) us vs h g =
    let parts = append_parts h.0 g.0 h.1 g.1 (h.3 ∙ sym g.3) (sym h.2 ∙ g.2) in
    h.4 ∙ (λ i. parts.0 i ++ plan.union_plan m w (plans_of (parts.1 i)) ∷ []) ∙ sym g.4
one_carry ts (fold e) us vs h g =
    let parts = last_parts h.0 g.0 h.1 g.1 (sym h.2 ∙ g.2) in
    h.4 ∙ (λ i. parts.0 i ++ plan.fold (parts.1 i) e ∷ []) ∙ sym g.4

not_nothing : (ts front : List Plan) (t : Plan) → ts ≡ [] → ts ≡ front ++ t ∷ [] → ⊥
not_nothing ts front t e h = omega (arith, ap length e, ap length h, length-append front (t ∷ []))

carry_or_fault : (ts : List Plan) (step : PlanStep) (us : List Plan) (e : Fault) → Carries ts step us → IsFaultOfStep ts step e → ⊥
carry_or_fault ts (new k w) us e h f = f
carry_or_fault ts (image bytes) us e h f =
    let none : first_fault bytes ≡ None = (faultless_is_image bytes).1 (h.0, h.1) in
    let some : first_fault bytes ≡ Some f.0 = f.1 in
    cc
carry_or_fault ts (coupon s v) us e h f = not_nothing ts h.0 h.1 f.0 h.2
carry_or_fault ts (union n m w) us e h f = omega (arith, f.0, ap length h.2, length-append h.0 h.1, h.3)
carry_or_fault ts (fold k) us e h (inl f) = not_nothing ts h.0 h.1 f.0 h.2
carry_or_fault ts (fold k) us e h (inr f) =
    let above = f.0 in
    let parts = last_parts h.0 above.0 h.1 above.1 (sym h.2 ∙ above.2) in
    omega (arith, h.3, above.3, ap effective_lg_k parts.1)

one_fault : (ts : List Plan) (step : PlanStep) (d e : Fault) → IsFaultOfStep ts step d → IsFaultOfStep ts step e → d ≡ e
one_fault ts (new k w) d e f g = absurd f
one_fault ts (image bytes) d e f g =
    let one : first_fault bytes ≡ Some f.0 = f.1 in
    let two : first_fault bytes ≡ Some g.0 = g.1 in
    let same : f.0 ≡ g.0 = cc in
    f.2 ∙ ap faults.Image same ∙ sym g.2
one_fault ts (coupon s v) d e f g = f.1 ∙ sym g.1
one_fault ts (union n m w) d e f g = f.1 ∙ sym g.1
one_fault ts (fold k) d e (inl f) (inl g) = f.1 ∙ sym g.1
one_fault ts (fold k) d e (inr f) (inr g) = f.1 ∙ sym g.1
one_fault ts (fold k) d e (inl f) (inr g) = absurd (not_nothing ts g.0.0 g.0.1 f.0 g.0.2)
one_fault ts (fold k) d e (inr f) (inl g) = absurd (not_nothing ts f.0.0 f.0.1 g.0 f.0.2)

-- ---- one outcome of lines

module _ {L : Type 0} (reads : L → Reading) where
  same_step : (l : L) (p q : PlanStep) → reads l ≡ Ok (Some p) → reads l ≡ Ok (Some q) → p ≡ q
  same_step l p q h g = cc

  pub one_line : (ts : List Plan) (l : L) (us vs : List Plan) → Gives reads ts l us → Gives reads ts l vs → us ≡ vs
  one_line ts l us vs (skipped r e) (skipped s f) = e ∙ sym f
  one_line ts l us vs (skipped r e) (taken step s t) = cc
  one_line ts l us vs (taken step r t) (skipped s f) = cc
  one_line ts l us vs (taken p r t) (taken q s u) = one_carry ts p us vs t (subst (λ z. Carries ts z vs) (sym (same_step l p q r s)) u)

  pub line_or_fault : (ts : List Plan) (l : L) (us : List Plan) (e : Fault) → Gives reads ts l us → IsFaultOfLine reads ts l e → ⊥
  line_or_fault ts l us e (skipped r s) (unread f) = cc
  line_or_fault ts l us e (skipped r s) (refused step f g) = cc
  line_or_fault ts l us e (taken p r t) (unread f) = cc
  line_or_fault ts l us e (taken p r t) (refused q f g) = carry_or_fault ts p us e t (subst (λ z. IsFaultOfStep ts z e) (sym (same_step l p q r f)) g)

  one_fault_of_line : (ts : List Plan) (l : L) (d e : Fault) → IsFaultOfLine reads ts l d → IsFaultOfLine reads ts l e → d ≡ e
  one_fault_of_line ts l d e (unread f) (unread g) = cc
  one_fault_of_line ts l d e (unread f) (refused q s g) = cc
  one_fault_of_line ts l d e (refused p r f) (unread g) = cc
  one_fault_of_line ts l d e (refused p r f) (refused q s g) = one_fault ts p d e f (subst (λ z. IsFaultOfStep ts z e) (sym (same_step l p q r s)) g)

  pub one_run : (ts : List Plan) (ls : List L) (us vs : List Plan) → Runs reads ts ls us → Runs reads ts ls vs → us ≡ vs
  one_run ts [] us vs h g = h ∙ sym g
  one_run ts (l ∷ ls) us vs h g =
      one_run h.0 ls us vs h.2 (subst (λ zs. Runs reads zs ls vs) (sym (one_line ts l h.0 g.0 h.1 g.1)) g.2)

  -- lines that run have no line at fault
  pub runs_or_faults : (ts : List Plan) (n : ℕ) (all : List L) (us : List Plan) (e : MergeError) → Runs reads ts all us → FaultsFrom reads ts n all e → ⊥
  runs_or_faults ts n all us e h f = of ts f.front (subst (λ ls. Runs reads ts ls us) f.is h) f.runs
    where
      of : (ts : List Plan) (front : List L) → Runs reads ts (front ++ f.line ∷ f.rest) us → Runs reads ts front f.stack → ⊥
      of ts [] h g = line_or_fault ts f.line h.0 e.fault h.1 (subst (λ zs. IsFaultOfLine reads zs f.line e.fault) g f.fault)
      of ts (l ∷ front) h g = of h.0 front h.2 (subst (λ zs. Runs reads zs front f.stack) (sym (one_line ts l h.0 g.0 h.1 g.1)) g.2)

  -- there is only one first line at fault, with one fault
  pub one_first_fault_from : (ts : List Plan) (n : ℕ) (all : List L) (d e : MergeError) → FaultsFrom reads ts n all d → FaultsFrom reads ts n all e → d ≡ e
  one_first_fault_from ts n all d e f g =
      let same = of ts f.front g.front (sym f.is ∙ g.is) f.runs g.runs in
      let line : d.line ≡ e.line = f.at ∙ ap (λ k. line_number (n + k + 1)) same.0 ∙ sym g.at in
      (λ i. record { line = line i; fault = same.1 i })
    where
      of : (ts : List Plan) (front gront : List L) → front ++ f.line ∷ f.rest ≡ gront ++ g.line ∷ g.rest → Runs reads ts front f.stack → Runs reads ts gront g.stack
          → (length front ≡ length gront) × (d.fault ≡ e.fault)
      of ts [] [] is h k =
          let same : g.line ≡ f.line = cc in
          let one = subst (λ zs. IsFaultOfLine reads zs f.line d.fault) h f.fault in
          let two = subst (λ l. IsFaultOfLine reads ts l e.fault) same (subst (λ zs. IsFaultOfLine reads zs g.line e.fault) k g.fault) in
          (refl, one_fault_of_line ts f.line d.fault e.fault one two)
      of ts [] (m ∷ gront) is h k =
          let same : m ≡ f.line = cc in
          absurd (line_or_fault ts f.line k.0 d.fault (subst (λ l. Gives reads ts l k.0) same k.1) (subst (λ zs. IsFaultOfLine reads zs f.line d.fault) h f.fault))
      of ts (m ∷ front) [] is h k =
          let same : m ≡ g.line = cc in
          absurd (line_or_fault ts g.line h.0 e.fault (subst (λ l. Gives reads ts l h.0) same h.1) (subst (λ zs. IsFaultOfLine reads zs g.line e.fault) k g.fault))
      of ts (m ∷ front) (o ∷ gront) is h k =
          let head : o ≡ m = cc in
          let tail : front ++ f.line ∷ f.rest ≡ gront ++ g.line ∷ g.rest = cc in
          let between : k.0 ≡ h.0 = one_line ts m k.0 h.0 (subst (λ l. Gives reads ts l k.0) head k.1) h.1 in
          let more = of h.0 front gront tail h.2 (subst (λ zs. Runs reads zs gront g.stack) between k.2) in
          (ap suc more.0, more.1)

  one_first_fault_of_lines : (all : List L) (d e : MergeError) → IsFirstFaultOfLines reads all d → IsFirstFaultOfLines reads all e → d ≡ e
  one_first_fault_of_lines all d e (inl f) (inl g) = one_first_fault_from [] 0 all d e f g
  one_first_fault_of_lines all d e (inl f) (inr g) = absurd (runs_or_faults [] 0 all g.stack d g.runs f)
  one_first_fault_of_lines all d e (inr f) (inl g) = absurd (runs_or_faults [] 0 all f.stack e f.runs g)
  one_first_fault_of_lines all d e (inr f) (inr g) =
      let line : d.line ≡ e.line = f.at ∙ sym g.at in
      let fault : d.fault ≡ e.fault = f.fault ∙ sym g.fault in
      (λ i. record { line = line i; fault = fault i })

  one_accepted : (all : List L) (t u : Plan) → AcceptsLines reads all t → AcceptsLines reads all u → t ≡ u
  one_accepted all t u h g = let same : (t ∷ []) ≡ (u ∷ []) = one_run [] all (t ∷ []) (u ∷ []) h g in cc

  accepted_or_faulty : (all : List L) (t : Plan) (e : MergeError) → AcceptsLines reads all t → IsFirstFaultOfLines reads all e → ⊥
  accepted_or_faulty all t e h (inl f) = runs_or_faults [] 0 all (t ∷ []) e h f
  accepted_or_faulty all t e h (inr f) = f.left (ap length (one_run [] all f.stack (t ∷ []) f.runs h))

pub one_plan : OnePlan
one_plan = record {
  of_text = λ text t u h g. one_accepted reading (lines text) t u h g;
  of_steps = one_accepted itself;
}

pub one_first_fault : OneFirstFault
one_first_fault = record {
  of_text = λ text d e f g. one_first_fault_of_lines reading (lines text) d e f g;
  of_steps = one_first_fault_of_lines itself;
}

pub accepted_is_faultless : AcceptedIsFaultless
accepted_is_faultless = record {
  of_text = λ text t e. accepted_or_faulty reading (lines text) t e;
  of_steps = accepted_or_faulty itself;
}

-- ---- faults of the text itself

own-text : (e : Fault) → IsLineFault e → IsOwnFault e
own-text e (inl h) = record { not_memory = λ z. cc; not_read = λ z. cc; not_write = λ z. cc; of_data = λ r z. cc }
own-text e (inr (inl h)) = record { not_memory = λ z. cc; not_read = λ z. cc; not_write = λ z. cc; of_data = λ r z. cc }
own-text e (inr (inr h)) = record { not_memory = λ z. cc; not_read = λ z. cc; not_write = λ z. cc; of_data = λ r z. cc }

own-stack : (e : Fault) → e ≡ faults.Stack → IsOwnFault e
own-stack e is = record { not_memory = λ z. cc; not_read = λ z. cc; not_write = λ z. cc; of_data = λ r z. cc }

own-step : (ts : List Plan) (step : PlanStep) (e : Fault) → IsFaultOfStep ts step e → IsOwnFault e
own-step ts (new k w) e f = absurd f
own-step ts (image bytes) e f = let is : e ≡ faults.Image f.0 = f.2 in record {
  not_memory = λ z. cc;
  not_read = λ z. cc;
  not_write = λ z. cc;
  of_data = λ r z. let same : f.0 ≡ r = cc in ap kind_of (sym same) ∙ faults_are_of_data bytes f.0 (first_fault_stands bytes f.0 f.1);
}
own-step ts (coupon s v) e f = own-stack e f.1
own-step ts (union n m w) e f = own-stack e f.1
own-step ts (fold k) e (inl f) = own-stack e f.1
own-step ts (fold k) e (inr f) = let is : e ≡ faults.Fold = f.1 in record { not_memory = λ z. cc; not_read = λ z. cc; not_write = λ z. cc; of_data = λ r z. cc }

module _ {L : Type 0} (reads : L → Reading) (read : (l : L) (e : Fault) → reads l ≡ Err e → IsOwnFault e) where
  own-line : (ts : List Plan) (l : L) (e : Fault) → IsFaultOfLine reads ts l e → IsOwnFault e
  own-line ts l e (unread r) = read l e r
  own-line ts l e (refused step r f) = own-step ts step e f

  own-first : (all : List L) (e : MergeError) → IsFirstFaultOfLines reads all e → IsOwnFault e.fault
  own-first all e (inl f) = own-line f.stack f.line e.fault f.fault
  own-first all e (inr f) = own-stack e.fault f.fault

pub first_faults_are_own : FirstFaultsAreOwn
first_faults_are_own = record {
  of_lines = own-first reading (λ l e r. own-text e (IfErr-at_err IsLineFault r (IfErr-reading l)));
  of_steps = own-first itself (λ l e r. absurd (cc));
}
