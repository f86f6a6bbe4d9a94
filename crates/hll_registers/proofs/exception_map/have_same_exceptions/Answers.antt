-- SPDX-License-Identifier: Apache-2.0
use Rattle.std.proofs.Common.{◌≡◌, ℕ, ◌∙◌, nat_eq, arith, sym, ap, subst, Some, None}
use Rattle.std.specs.Prelude.{◌&&◌}
use Rattle.std.specs.FinSet.{len, len-empty}
use Rattle.std.specs.Ordering.{nat_cmp}
use Rattle.std.proofs.lemmas.Bool.{eq-eqb}
use Rattle.hll_coupons.specs.AuxMap.{ExceptionMap}
use Rattle.hll_coupons.specs.Same.{have_same_coupons, same_coupons-from, same_coupons-to}
use Rattle.hll_registers.specs.FourBits.{exceptions_in, IsMapFor, unboxed}
use Rattle.hll_registers.proofs.exception_map.have_same_exceptions.Goals as goal

-- a map has an entry
some : (k : ℕ) (t : ExceptionMap) → IsMapFor k (Some t) → exceptions_in (Some t) ≡ exceptions_in None → ⊥
some k t h e = omega (arith, h.2, h.0.table.distinct, ap len e, len-empty nat_cmp)

-- maps for the same slots are the same if their entries are
tables : (k : ℕ) (t u : ExceptionMap) → IsMapFor k (Some t) → IsMapFor k (Some u) → (nat_eq t.lg_k u.lg_k && have_same_coupons t.table u.table) ≡ have_same_coupons t.table u.table
tables k t u h j = ap (λ b. b && have_same_coupons t.table u.table) (eq-eqb t.lg_k u.lg_k (h.1 ∙ sym j.1))

pub returns-in-Some-Some : goal.returns-in-Some-Some
returns-in-Some-Some g c k h j =
    let t : ExceptionMap = c.in-Some-Some.map.value in
    let u : ExceptionMap = c.in-Some-Some.other.value in
    let same : c.eq.result ≡ have_same_coupons t.table u.table = c.eq.ensures ∙ tables k t u (subst (λ o. IsMapFor k (unboxed o)) c.in-Some-Some.is-0 h) (subst (λ o. IsMapFor k (unboxed o)) c.in-Some-Some.is-1 j) in (
      λ e. ap (λ o. exceptions_in (unboxed o)) c.in-Some-Some.is-0 ∙ same_coupons-from t.table u.table (sym same ∙ e) ∙ sym (ap (λ o. exceptions_in (unboxed o)) c.in-Some-Some.is-1),
      λ e. same ∙ same_coupons-to t.table u.table (sym (ap (λ o. exceptions_in (unboxed o)) c.in-Some-Some.is-0) ∙ e ∙ ap (λ o. exceptions_in (unboxed o)) c.in-Some-Some.is-1),
    )

pub returns-in_default : goal.returns-in_default
returns-in_default g c k h j = (λ e. cc, λ e. absurd (some k c.in_default.field-0-0.value (subst (λ o. IsMapFor k (unboxed o)) c.in_default.is-0 h) (sym (ap (λ o. exceptions_in (unboxed o)) c.in_default.is-0) ∙ e ∙ ap (λ o. exceptions_in (unboxed o)) c.in_default.is-1)))

pub returns-in_default-2 : goal.returns-in_default-2
returns-in_default-2 g c k h j = (λ e. cc, λ e. absurd (some k c.in_default.field-0-1.value (subst (λ o. IsMapFor k (unboxed o)) c.in_default.is-1 j) (sym (ap (λ o. exceptions_in (unboxed o)) c.in_default.is-1) ∙ sym e ∙ ap (λ o. exceptions_in (unboxed o)) c.in_default.is-0)))
