-- SPDX-License-Identifier: Apache-2.0
-- The code of a call that did what was asked.
use Rattle.std.proofs.Common.{◌≡◌, ℕ, List, Result, Ok, Err, arith}
use Rattle.std.specs.Prelude.{IfOk, MatchResult}
use Rattle.hll_base.specs.Reason.{number_of}
use Rattle.hll_base.specs.declared.error.Reason.{Reason}
use Rattle.hll_base.specs.declared.error.Reason.TheVariants as reasons
use Rattle.hll_c.specs.Answers.{ok_code, PutsBytes, wrote, too_small, refused, Reports, reported, untold}

-- no reason has the code of success
pub no_ok : (r : Reason) → number_of r ≡ ok_code → ⊥
no_ok reasons.Truncated is = omega (arith, is)
no_ok reasons.Family is = omega (arith, is)
no_ok reasons.Version is = omega (arith, is)
no_ok reasons.LgK is = omega (arith, is)
no_ok reasons.Width is = omega (arith, is)
no_ok reasons.Stage is = omega (arith, is)
no_ok reasons.Preamble is = omega (arith, is)
no_ok reasons.LgArr is = omega (arith, is)
no_ok reasons.Count is = omega (arith, is)
no_ok reasons.Coupon is = omega (arith, is)
no_ok reasons.Register is = omega (arith, is)
no_ok reasons.Argument is = omega (arith, is)
no_ok reasons.Memory is = omega (arith, is)

-- what holds if something was made, holds if a call that writes or reports it did what was asked
pub if_put : {X : Type 0} (items : X → List ℕ) (made : Result X Reason) (Holds : Type 0) (old new : List ℕ) (size_old size_new code : ℕ)
    → PutsBytes (λ b. MatchResult made (λ x. b ≡ items x) (λ _. ⊥)) (λ r. MatchResult made (λ _. ⊥) (λ e. r ≡ e)) old new size_old size_new code → IfOk made (λ x. Holds) → code ≡ ok_code → Holds
if_put items (Ok x) Holds old new size_old size_new code puts holds done = holds
if_put items (Err e) Holds old new size_old size_new code (wrote bytes are fits same size) holds done = absurd are
if_put items (Err e) Holds old new size_old size_new code (too_small bytes are fits same size) holds done = absurd are
if_put items (Err e) Holds old new size_old size_new code (refused r is same size) holds done = absurd (no_ok r done)

pub if_reported : {X : Type 0} (found : Result X Reason) (Holds : Type 0) (old new : X) (code : ℕ)
    → Reports X (λ x. MatchResult found (λ y. x ≡ y) (λ _. ⊥)) (λ r. MatchResult found (λ _. ⊥) (λ e. e ≡ r)) old new code → IfOk found (λ x. Holds) → code ≡ ok_code → Holds
if_reported (Ok x) Holds old new code reports holds done = holds
if_reported (Err e) Holds old new code (reported says) holds done = absurd says
if_reported (Err e) Holds old new code (untold r is same) holds done = absurd (no_ok r done)

pub IfOk-always : {X E : Type 0} (r : Result X E) (Holds : Type 0) → Holds → IfOk r (λ x. Holds)
IfOk-always (Ok x) Holds holds = holds
IfOk-always (Err e) Holds holds = tt
