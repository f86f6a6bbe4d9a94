-- SPDX-License-Identifier: Apache-2.0
use Rattle.std.proofs.Common.{◌≡◌, ◌≢◌, ◌+◌, ◌^◌, ◌<◌, ◌≤◌, ℕ, List, All, Option, Some, None, get_or, ◌∙◌, ap, sym, subst}
use Rattle.std.proofs.lemmas.List.{append-nil}
use Rattle.std.proofs.lemmas.Result.{IfOk-weaker, on_err_weaker}
use Rattle.hll_base.proofs.Errors.{OnErr-of}
use Rattle.hll_coupons.specs.AuxMap.{ExceptionMap, entries_in, value_in}
use Rattle.hll_coupons.specs.Pair.{slot_of, value_of}
use Rattle.hll_coupons.specs.Table.{coupons_in}
use Rattle.hll_coupons.proofs.Listed.{has-at}
use Rattle.hll_coupons.proofs.Maps.{value_found}
use Rattle.hll_coupons.proofs.Pairs.{IsEntryOf, entries_are}
use Rattle.hll_coupons.proofs.Putting.{last_of_all}
use Rattle.hll_coupons.proofs.Yielded.{given}
use Rattle.hll_registers.specs.FourBits.{IsMapFor, exception_in, kept_above, unboxed}
use Rattle.hll_registers.proofs.FourBits.{KeptSoFar, kept_none, kept_more, kept_less, kept_whole}
use Rattle.hll_registers.proofs.exception_map.kept_entries.Goals as goal

-- if an entry is kept, it is an exception that stays one
stays : (t : ExceptionMap) (m : ℕ) (kept : Option ExceptionMap) (ys : List (ℕ × ℕ)) → KeptSoFar t m kept ys → kept ≢ None → (s : ℕ) × (v : ℕ) × (value_in t s ≡ Some v) × (m + 15 ≤ v)
stays t m None ys h some = absurd (some (λ i. None))
stays t m (Some u) ys h some =
    let c : ℕ = get_or (coupons_in u.table.buckets) 0 0 in
    let kept = h.only (slot_of c) (value_of c) (value_found u h.map.0 c (has-at (coupons_in u.table.buckets) 0 h.map.2)) in
    (slot_of c, value_of c, kept.0, kept.1)

pub loop-slot-init : goal.loop-slot-init
loop-slot-init g c = kept_none c.args.map.now c.args.minimum

pub keep_exception-requires-clause-within : goal.keep_exception-requires-clause-within
keep_exception-requires-clause-within g c =
    let parts = given _ _ _ _ _ (c.into_iter-slot-iterator.ensures.into_iter_gives ∙ c.iter-slot-items.ensures) c.loop-slot.yielded_by c.in-Some.ensures.steps in
    let entry : IsEntryOf c.args.map.now (c.in-Some.slot, c.in-Some.value) = last_of_all (IsEntryOf c.args.map.now) (entries_in c.args.map.now) _ _ _ parts (entries_are c.args.map.now c.requires.map) in
    subst (λ k. c.in-Some.slot < 2 ^ k) (sym c.lg_config_k.ensures.lg_k) entry.slot

pub keep_exception-requires-clause-most : goal.keep_exception-requires-clause-most
keep_exception-requires-clause-most g c =
    let parts = given _ _ _ _ _ (c.into_iter-slot-iterator.ensures.into_iter_gives ∙ c.iter-slot-items.ensures) c.loop-slot.yielded_by c.in-Some.ensures.steps in
    (last_of_all (IsEntryOf c.args.map.now) (entries_in c.args.map.now) _ _ _ parts (entries_are c.args.map.now c.requires.map)).most

pub keep_exception-requires-clause-map : goal.keep_exception-requires-clause-map
keep_exception-requires-clause-map g c = subst (λ k. IsMapFor k c.loop-slot.kept) (sym c.lg_config_k.ensures.lg_k) c.loop-slot.invariant.map

pub keep_exception-requires-clause-same : goal.keep_exception-requires-clause-same
keep_exception-requires-clause-same g c v has =
    let parts = given _ _ _ _ _ (c.into_iter-slot-iterator.ensures.into_iter_gives ∙ c.iter-slot-items.ensures) c.loop-slot.yielded_by c.in-Some.ensures.steps in
    let entry : IsEntryOf c.args.map.now (c.in-Some.slot, c.in-Some.value) = last_of_all (IsEntryOf c.args.map.now) (entries_in c.args.map.now) _ _ _ parts (entries_are c.args.map.now c.requires.map) in
    let both : Some v ≡ Some c.in-Some.value = sym (c.loop-slot.invariant.only c.in-Some.slot v has).0 ∙ entry.value in
    cc

pub loop-slot-preserved-in-Continue-1 : goal.loop-slot-preserved-in-Continue-1
loop-slot-preserved-in-Continue-1 g c =
    let parts = given _ _ _ _ _ (c.into_iter-slot-iterator.ensures.into_iter_gives ∙ c.iter-slot-items.ensures) c.loop-slot.yielded_by c.in-Some.ensures.steps in
    let all = subst (All (IsEntryOf c.args.map.now)) parts (entries_are c.args.map.now c.requires.map) in
    kept_more c.args.map.now c.args.minimum c.loop-slot.kept c.keep_exception.new.map c.loop-slot.yielded c.next.new.self c.in-Some.slot c.in-Some.value c.loop-slot.invariant all c.if-value-minimum.true
    (subst (λ k. IsMapFor k c.keep_exception.new.map) c.lg_config_k.ensures.lg_k c.in_ok-keep_exception.ensures.map) c.in_ok-keep_exception.ensures.values

pub loop-slot-preserved : goal.loop-slot-preserved
loop-slot-preserved g c = kept_less c.args.map.now c.args.minimum c.loop-slot.kept c.loop-slot.yielded c.in-Some.slot c.in-Some.value c.loop-slot.invariant c.if-value-minimum.false

pub returns-in_err-keep_exception-clause-needed : goal.returns-in_err-keep_exception-clause-needed
returns-in_err-keep_exception-clause-needed g c =
    let parts = given _ _ _ _ _ (c.into_iter-slot-iterator.ensures.into_iter_gives ∙ c.iter-slot-items.ensures) c.loop-slot.yielded_by c.in-Some.ensures.steps in
    let entry = last_of_all (IsEntryOf c.args.map.now) (entries_in c.args.map.now) _ _ _ parts (entries_are c.args.map.now c.requires.map) in
    OnErr-of c.from_residual.result _ (c.in-Some.slot, c.in-Some.value, entry.value, c.if-value-minimum.true)

pub returns-clause-needed : goal.returns-clause-needed
returns-clause-needed g c = on_err_weaker c.built.result (stays c.args.map.now c.args.minimum c.loop-slot.kept c.loop-slot.yielded c.loop-slot.invariant) c.built.ensures.needed

pub returns-clause-values : goal.returns-clause-values
returns-clause-values g c =
    let whole = given _ _ _ _ _ (c.into_iter-slot-iterator.ensures.into_iter_gives ∙ c.iter-slot-items.ensures) c.loop-slot.yielded_by c.in-None.ensures.steps.0 ∙ append-nil c.loop-slot.yielded in
    IfOk-weaker c.built.result (λ kept. unboxed kept ≡ c.loop-slot.kept) (λ kept. (s : ℕ) → exception_in (unboxed kept) s ≡ kept_above c.args.minimum (value_in c.args.map.now s))
    (λ kept is s. ap (λ o. exception_in o s) is ∙ kept_whole c.args.map.now c.args.minimum c.loop-slot.kept c.requires.map (subst (KeptSoFar c.args.map.now c.args.minimum c.loop-slot.kept) (sym whole) c.loop-slot.invariant) s)
    c.built.ensures.ok
