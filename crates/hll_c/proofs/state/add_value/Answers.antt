-- SPDX-License-Identifier: Apache-2.0
use Rattle.std.proofs.Common.{◌≡◌, ℕ, List, [], ◌∷◌, refl, sym, ap, subst, ◌∙◌}
use Rattle.hll_coupons.specs.Hashed.{coupon_of_bytes}
use Rattle.hll_sketch.specs.Laws.{add_in_turn}
use Rattle.hll_state.specs.Memory.{IsStateOf, OfState, GrowsBy}
use Rattle.hll_state.proofs.States.{grows_own}
use Rattle.hll_c.specs.States.{TakesValues, AddsToState, added}
use Rattle.hll_c.proofs.state.add_value.Goals as goal

pub returns-then-append-clause-added : goal.returns-then-append-clause-added
returns-then-append-clause-added c =
    let raw : c.raw-raw.result ≡ coupon_of_bytes c.args.value.now = c.raw-raw.ensures ∙ c.from_bytes.ensures.bytes in
    subst (λ n. AddsToState (TakesValues c.args.state.now) (n ∷ []) c.args.state.now c.append.new.elements c.args.size.now c.args.size.now 0) raw
    (added (c.append.ensures.decided c.if-append.true) (c.append.ensures.added c.if-append.true) refl)

pub returns-then-has_raised-clause-added : goal.returns-then-has_raised-clause-added
returns-then-has_raised-clause-added c =
    let now : List (List ℕ) = c.args.state.now in
    let same : c.append.new.elements ≡ now = c.append.ensures.none c.if-append.false in
    let raw : c.raw-raw.result ≡ coupon_of_bytes c.args.value.now = c.raw-raw.ensures ∙ c.from_bytes.ensures.bytes in
    let of : OfState now (λ x. add_in_turn x (c.raw-raw.result ∷ []) ≡ x) =
    subst (λ e. OfState e (λ x. add_in_turn x (c.raw-raw.result ∷ []) ≡ x)) same (c.has_raised.ensures.held c.if-has_raised.true) in
    subst (λ e. AddsToState (TakesValues now) (coupon_of_bytes c.args.value.now ∷ []) now e c.args.size.now c.args.size.now 0) (sym same)
    (added (subst TakesValues same (c.has_raised.ensures.decided c.if-has_raised.true))
    (record { sketch = of.sketch; was = of.was; is = subst (IsStateOf now) (sym (ap (λ n. add_in_turn of.sketch (n ∷ [])) (sym raw) ∙ of.is)) of.was })
    refl)

pub returns-then-has_raised-clause-grows : goal.returns-then-has_raised-clause-grows
returns-then-has_raised-clause-grows c =
    subst (GrowsBy 1 c.args.state.now) (sym (c.append.ensures.none c.if-append.false)) (grows_own 1 c.args.state.now)

pub returns-clause-added : goal.returns-clause-added
returns-clause-added c =
    let raw : c.raw-raw.result ≡ coupon_of_bytes c.args.value.now = c.raw-raw.ensures ∙ c.from_bytes.ensures.bytes in
    subst (λ e. AddsToState (TakesValues e) (coupon_of_bytes c.args.value.now ∷ []) e c.add_raw.new.state c.args.size.now c.add_raw.new.size c.add_raw.result)
    (c.append.ensures.none c.if-append.false)
    (subst (λ n. AddsToState (TakesValues c.append.new.elements) (n ∷ []) c.append.new.elements c.add_raw.new.state c.args.size.now c.add_raw.new.size c.add_raw.result) raw c.add_raw.ensures.added)
