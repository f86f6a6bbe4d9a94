-- SPDX-License-Identifier: Apache-2.0
-- Lemmas on what calls return and write.
use Rattle.std.proofs.Common.{◌≡◌, ◌↔◌, Bool, true, false, ℕ, List, Result, Ok, Err, refl, subst, sym, ap, ◌∙◌}
use Rattle.std.specs.Bool.{IsTrue}
use Rattle.std.specs.Result.{MatchResult, IfOk, IfErr}
use Rattle.hll_base.specs.Reason.{number_of}
use Rattle.hll_base.specs.declared.error.Reason.{Reason}
use Rattle.hll_base.specs.declared.error.Reason.TheVariants.{Memory}
use Rattle.hll_base.specs.declared.hll_type.HllType.{HllType}
use Rattle.hll_base.specs.declared.hll_type.HllType.TheVariants.{Hll8}
use Rattle.hll_sketch.proofs.SetFields.{fields_twice}
use Rattle.hll_sketch.specs.EstimatorFields.{SetsFields, SetsFieldsIn, HasClearedState, FillsFields, filled, stays}
use Rattle.hll_sketch.specs.Layout.{SketchLayout, sketch_of}
use Rattle.hll_sketch.specs.Value.{Sketch}
use Rattle.hll_c.specs.Answers.{Answers, IsImageOf, WithFields, PutsBytes, wrote, too_small, refused, Reports, reported, untold, Tests, passed, failed, ok_code}

-- what is tested and does not hold
pub not_so : (b : Bool) (W : Type 0) → b ≡ false → (IsTrue b ↔ W) → W → ⊥
not_so b W fails is w = absurd (let same : true ≡ false = sym (is.1 w) ∙ fails in cc)

-- what two clauses say of an error
pub IfErr-both : {T E : Type 0} (r : Result T E) (P Q : E → Type 0) → IfErr r P → IfErr r Q → IfErr r (λ e. P e × Q e)
IfErr-both (Ok x) P Q p q = tt
IfErr-both (Err e) P Q p q = (p, q)

-- the sketch that was made, and why none was, or why no image of it is written
abbrev pub IsOf : Result SketchLayout Reason → Sketch → Type 0
IsOf made y = MatchResult made (λ s. y ≡ sketch_of s) (λ _. ⊥)

abbrev pub IsFor : Result SketchLayout Reason → Reason → Type 0
IsFor made r = MatchResult made (λ _. r ≡ Memory) (λ e. r ≡ e)

-- what is written, and why not, in other terms
puts_as : {A B : List ℕ → Type 0} {Q R : Reason → Type 0} (old new : List ℕ) (size_old size_new code : ℕ) → ((b : List ℕ) → A b → B b) → ((r : Reason) → Q r → R r)
    → PutsBytes A Q old new size_old size_new code → PutsBytes B R old new size_old size_new code
puts_as old new so sn _ are why (wrote b put fits after size) = wrote b (are b put) fits after size
puts_as old new so sn _ are why (too_small b put short after size) = too_small b (are b put) short after size
puts_as old new so sn _ are why (refused r from after size) = refused r (why r from) after size

module _ (IsMade : Sketch → Type 0) (Refuses : Reason → Type 0) (memory : (y : Sketch) → IsMade y → Refuses Memory) where
  made_of : (made : Result SketchLayout Reason) (y : Sketch) → IfOk made (λ s. IsMade (sketch_of s)) → IsOf made y → IsMade y
  made_of (Ok s) y ok same = subst IsMade (sym same) ok
  made_of (Err e) y ok same = absurd same

  refused_of : (made : Result SketchLayout Reason) (r : Reason) → IfOk made (λ s. IsMade (sketch_of s)) → IfErr made Refuses → IsFor made r → Refuses r
  refused_of (Ok s) r ok err same = subst Refuses (sym same) (memory (sketch_of s) ok)
  refused_of (Err e) r ok err same = subst Refuses (sym same) err

  -- if the image of what was made is written, the call has done what it promises
  pub answers_of : (made : Result SketchLayout Reason) (old new : List ℕ) (size_old size_new code : ℕ)
      → IfOk made (λ s. IsMade (sketch_of s)) → IfErr made Refuses → Answers (λ y. IsOf made y) (λ r. IsFor made r) old new size_old size_new code
      → Answers IsMade Refuses old new size_old size_new code
  answers_of made old new so sn code ok err = puts_as old new so sn code (λ b is. (is.0, (is.1.0, made_of made is.1.0 ok is.1.1, is.1.2), is.2)) (λ r from. refused_of made r ok err from)

module _ {X : Type 0} (Says : X → Type 0) (Refuses : Reason → Type 0) where
  said : (found : Result X Reason) (x : X) → IfOk found Says → MatchResult found (λ y. x ≡ y) (λ _. ⊥) → Says x
  said (Ok y) x ok same = subst Says (sym same) ok
  said (Err e) x ok same = absurd same

  denied : (found : Result X Reason) (r : Reason) → IfErr found Refuses → MatchResult found (λ _. ⊥) (λ e. e ≡ r) → Refuses r
  denied (Ok y) r err same = absurd same
  denied (Err e) r err same = subst Refuses same err

  -- if what was found is reported, the call has done what it promises
  pub reports_of : (found : Result X Reason) (old new : X) (code : ℕ) → IfOk found Says → IfErr found Refuses
      → Reports X (λ x. MatchResult found (λ y. x ≡ y) (λ _. ⊥)) (λ r. MatchResult found (λ _. ⊥) (λ e. e ≡ r)) old new code → Reports X Says Refuses old new code
  reports_of found old new _ ok err (reported from) = reported (said found new ok from)
  reports_of found old new _ ok err (untold r from is) = untold r (denied found r err from) is

-- ---- an image, written into a buffer

module _ {X : Type 0} (items : X → List ℕ) (image : Result X Reason) where
  -- the bytes are those of the image, and why there is none
  abbrev pub AreOf : List ℕ → Type 0
  AreOf b = MatchResult image (λ v. b ≡ items v) (λ _. ⊥)

  abbrev pub IsWhyNone : Reason → Type 0
  IsWhyNone r = MatchResult image (λ _. ⊥) (λ e. r ≡ e)

  -- bytes that are put for the image
  pub puts_of : (v : X) (b : List ℕ) (old new : List ℕ) (size_old size_new code : ℕ) → image ≡ Ok v → b ≡ items v → PutsBytes (λ a. a ≡ b) (λ _. ⊥) old new size_old size_new code
      → PutsBytes AreOf IsWhyNone old new size_old size_new code
  puts_of v b old new so sn code is same = puts_as old new so sn code (λ a e. subst (λ m. MatchResult m (λ w. a ≡ items w) (λ _. ⊥)) (sym is) (e ∙ same)) (λ r none. absurd none)

  pub puts_nothing : (e : Reason) (old : List ℕ) (size code : ℕ) → image ≡ Err e → code ≡ number_of e → PutsBytes AreOf IsWhyNone old old size size code
  puts_nothing e old size code is number =
      subst (PutsBytes AreOf IsWhyNone old old size size) (sym number) (refused e (subst (λ m. MatchResult m (λ _. ⊥) (λ d. e ≡ d)) (sym is) refl) refl refl)

  -- if the image is written, a call that writes the image of what is made has done what it promises
  module _ (IsMade : Sketch → Type 0) (Refuses : Reason → Type 0) where
    image_in : (m : Result X Reason) → IfOk m (λ v. IsImageOf IsMade (items v)) → (b : List ℕ) → MatchResult m (λ v. b ≡ items v) (λ _. ⊥) → IsImageOf IsMade b
    image_in (Ok v) ok b same = subst (IsImageOf IsMade) (sym same) ok
    image_in (Err e) ok b same = absurd same

    why_in : (m : Result X Reason) → IfErr m Refuses → (r : Reason) → MatchResult m (λ _. ⊥) (λ e. r ≡ e) → Refuses r
    why_in (Ok v) err r same = absurd same
    why_in (Err e) err r same = subst Refuses (sym same) err

    pub answers_with : (old new : List ℕ) (size_old size_new code : ℕ) → IfOk image (λ v. IsImageOf IsMade (items v)) → IfErr image Refuses
        → PutsBytes AreOf IsWhyNone old new size_old size_new code → PutsBytes (IsImageOf IsMade) Refuses old new size_old size_new code
    answers_with old new so sn code ok err = puts_as old new so sn code (image_in image ok) (why_in image err)

-- the image of what was made is what is written for it with its estimator fields
pub image_of_made : (made : Result SketchLayout Reason) (bytes : List ℕ) → MatchResult made (λ s. IsImageOf (FillsFields (sketch_of s)) bytes) (λ _. ⊥) → IsImageOf (WithFields (λ y. IsOf made y)) bytes
image_of_made (Ok s) bytes is = (is.0, (sketch_of s, refl, is.1), is.2)
image_of_made (Err e) bytes is = absurd is

-- filling the estimator fields twice is filling them once
pub fills_twice : (x y z : Sketch) → FillsFields x y → FillsFields y z → FillsFields x z
fills_twice x y z (stays n same) next = subst (λ v. FillsFields v z) same next
fills_twice x y z (filled c w) (stays n same) = filled c (subst (λ v. SetsFields x v) (sym same) w)
fills_twice x y z (filled c w) (filled d v) = filled c (subst (λ u. SetsFields x u) (sym (fields_twice x y z w v)) w)

-- estimator fields follow from the registers, whatever the width is
pub fills_at_width : (width : HllType) (g x y z : Sketch) → x ≡ record g { width = Hll8 } → FillsFields x y → z ≡ record y { width = width } → FillsFields (record g { width = width }) z
fills_at_width width g x y z at (filled c w) is =
    filled (subst (λ v. HasClearedState v.content) at c)
    (record {
      lg_k = ap (λ v. v.lg_k) is ∙ w.lg_k ∙ ap (λ v. v.lg_k) at;
      width = ap (λ v. v.width) is;
      content = subst (λ C. SetsFieldsIn C z.content) (ap (λ v. v.content) at) (subst (λ C. SetsFieldsIn x.content C) (sym (ap (λ v. v.content) is)) w.content);
    })
fills_at_width width g x y z at (stays n same) is = stays (λ c. n (subst (λ v. HasClearedState v.content) (sym at) c)) (is ∙ ap {A = Sketch} (λ v. record v { width = width }) (same ∙ at))

module _ (IsMade : Sketch → Type 0) where
  again : (y : Sketch) → WithFields (WithFields IsMade) y → WithFields IsMade y
  again y w = (w.1.0, w.1.1, fills_twice w.1.0 w.0 y w.1.2 w.2)

  -- the image of a sketch whose estimator fields are filled already
  pub made_again : (x : Sketch) (bytes : List ℕ) → WithFields IsMade x → IsImageOf (FillsFields x) bytes → IsImageOf (WithFields IsMade) bytes
  made_again x bytes made is = (is.0, again is.0 (x, made, is.1), is.2)

  module _ (Refuses : Reason → Type 0) (memory : (y : Sketch) → IsMade y → Refuses Memory) where
    -- if the image of what was made with its estimator fields is written, the call has done what it promises
    pub answers_again : (made : Result SketchLayout Reason) (old new : List ℕ) (size_old size_new code : ℕ)
        → IfOk made (λ s. WithFields IsMade (sketch_of s)) → IfErr made Refuses → Answers (λ y. IsOf made y) (λ r. IsFor made r) old new size_old size_new code
        → Answers IsMade Refuses old new size_old size_new code
    answers_again made old new so sn code ok err answers =
        puts_as old new so sn code (λ b is. (is.0, again is.0 is.1, is.2)) (λ r from. from)
        (answers_of (WithFields IsMade) Refuses (λ y w. memory w.0 w.1) made old new so sn code ok err answers)

pub made_with_fields : (IsMade : Sketch → Type 0) (x : Sketch) (bytes : List ℕ) → IsMade x → IsImageOf (FillsFields x) bytes → IsImageOf (WithFields IsMade) bytes
made_with_fields IsMade x bytes made is = (is.0, (x, made, is.1), is.2)

-- ---- codes alone, and reports

module _ {X : Type 0} where
  pub reports_value : (found : Result X Reason) (value old : X) → found ≡ Ok value
      → Reports X (λ x. MatchResult found (λ y. x ≡ y) (λ _. ⊥)) (λ r. MatchResult found (λ _. ⊥) (λ e. e ≡ r)) old value ok_code
  reports_value found value old is = reported (subst (λ f. MatchResult f (λ y. value ≡ y) (λ _. ⊥)) (sym is) refl)

  pub reports_nothing : (found : Result X Reason) (e : Reason) (old : X) (code : ℕ) → found ≡ Err e → code ≡ number_of e
      → Reports X (λ x. MatchResult found (λ y. x ≡ y) (λ _. ⊥)) (λ r. MatchResult found (λ _. ⊥) (λ e. e ≡ r)) old old code
  reports_nothing found e old code is number =
      subst (Reports X (λ x. MatchResult found (λ y. x ≡ y) (λ _. ⊥)) (λ r. MatchResult found (λ _. ⊥) (λ e. e ≡ r)) old old) (sym number)
      (untold e (subst (λ f. MatchResult f (λ _. ⊥) (λ d. d ≡ e)) (sym is) refl) refl)

pub tests_passed : (answer : Result (Unit {0}) Reason) (u : Unit {0}) → answer ≡ Ok u → Tests (MatchResult answer (λ _. Unit {0}) (λ _. ⊥)) (λ r. MatchResult answer (λ _. ⊥) (λ e. e ≡ r)) ok_code
tests_passed answer u is = passed (subst (λ f. MatchResult f (λ _. Unit {0}) (λ _. ⊥)) (sym is) tt)

pub tests_failed : (answer : Result (Unit {0}) Reason) (e : Reason) (code : ℕ) → answer ≡ Err e → code ≡ number_of e
    → Tests (MatchResult answer (λ _. Unit {0}) (λ _. ⊥)) (λ r. MatchResult answer (λ _. ⊥) (λ e. e ≡ r)) code
tests_failed answer e code is number =
    subst (Tests (MatchResult answer (λ _. Unit {0}) (λ _. ⊥)) (λ r. MatchResult answer (λ _. ⊥) (λ e. e ≡ r))) (sym number)
    (failed e (subst (λ f. MatchResult f (λ _. ⊥) (λ d. d ≡ e)) (sym is) refl))

-- a test of something that holds, or fails for a reason
pub tests_of : (Passes : Type 0) (Refuses : Reason → Type 0) (answer : Result (Unit {0}) Reason) (code : ℕ) → IfOk answer (λ _. Passes) → IfErr answer Refuses
    → Tests (MatchResult answer (λ _. Unit {0}) (λ _. ⊥)) (λ r. MatchResult answer (λ _. ⊥) (λ e. e ≡ r)) code → Tests Passes Refuses code
tests_of Passes Refuses (Ok u) _ ok err (passed p) = passed ok
tests_of Passes Refuses (Ok u) _ ok err (failed r from) = absurd from
tests_of Passes Refuses (Err e) _ ok err (passed p) = absurd p
tests_of Passes Refuses (Err e) _ ok err (failed r from) = failed r (subst Refuses from err)

-- ---- results

-- what two clauses say of one value
pub IfOk-with : {T E : Type 0} (r : Result T E) (P Q S : T → Type 0) → ((x : T) → P x → Q x → S x) → IfOk r P → IfOk r Q → IfOk r S
IfOk-with (Ok x) P Q S h p q = h x p q
IfOk-with (Err e) P Q S h p q = tt
