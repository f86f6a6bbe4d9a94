-- SPDX-License-Identifier: Apache-2.0
use Rattle.std.proofs.Common.{◌≡◌, ℕ, ◌+◌, [], ◌∷◌, ◌++◌, List, length, sym, ap, subst, ◌∙◌, arith}
use Rattle.std.proofs.lemmas.List.{append-nil, length-append}
use Rattle.hll_coupons.proofs.Yielded.{given}
use Rattle.hll_coupons.specs.Pair.{set_of}
use Rattle.hll_sketch.proofs.Merges.{added_more}
use Rattle.hll_sketch.specs.Adding.{add}
use Rattle.hll_sketch.specs.Laws.{add_in_turn}
use Rattle.hll_sketch.specs.Value.{Sketch}
use Rattle.hll_state.specs.Counter.{sketch_in}
use Rattle.hll_state.specs.Header.{IsWithin, HasRoom}
use Rattle.hll_state.proofs.Rooms.{room_fewer}
use Rattle.hll_state.proofs.header.Header.push_table.Goals as goal

pub push-requires-clause-room : goal.push-requires-clause-room
push-requires-clause-room g c =
    let rest : List ℕ = c.next.new.self in
    let all = given _ _ _ _ _ (c.into_iter-coupon-iterator.ensures.into_iter_gives ∙ c.iter-coupon-items.ensures) c.loop-coupon.yielded_by c.in-Some.ensures.steps in
    let total = ap length all ∙ length-append c.loop-coupon.yielded (c.in-Some.coupon ∷ rest) in
    room_fewer c.loop-coupon.self 1 (length rest + 1) (length c.loop-coupon.body) (omega arith) (c.loop-coupon.invariant.room (length rest + 1) (omega (arith, total)))

pub loop-coupon-preserved : goal.loop-coupon-preserved
loop-coupon-preserved g c =
    let x : Sketch = sketch_in c.loop-coupon.self c.loop-coupon.body in
    let old : Sketch = sketch_in c.args.self.now c.args.body.now in
    let coupon : ℕ = c.in-Some.coupon in
    let long : length c.loop-coupon.body ≡ length c.push.new.body = omega (arith, c.push.auto.body) in
    record {
      within = subst (IsWithin c.push.new.self) long c.push.ensures.within;
      added = c.push.ensures.added ∙ ap (λ n. add x (set_of (n ∷ []))) c.raw.ensures ∙ ap (λ y. add y (set_of (coupon ∷ []))) c.loop-coupon.invariant.added ∙ sym (added_more old c.loop-coupon.yielded coupon);
      widths = c.push.ensures.widths ∙ c.loop-coupon.invariant.widths;
      takes = λ n len enough. c.push.ensures.room n len (c.loop-coupon.invariant.takes (n + 1) len
          (subst (λ m. HasRoom c.args.self.now m len) (let e : n + length (c.loop-coupon.yielded ++ coupon ∷ []) ≡ n + 1 + length c.loop-coupon.yielded = omega (arith, length-append c.loop-coupon.yielded (coupon ∷ [])) in e) enough));
      room = λ n is. subst (HasRoom c.push.new.self n) long (c.push.ensures.room n (length c.loop-coupon.body) (c.loop-coupon.invariant.room (n + 1) (omega (arith, is, length-append c.loop-coupon.yielded (coupon ∷ [])))));
    }

pub returns-clause-added : goal.returns-clause-added
returns-clause-added g c =
    c.loop-coupon.invariant.added ∙ ap (add_in_turn (sketch_in c.args.self.now c.args.body.now)) (sym (append-nil c.loop-coupon.yielded)
    ∙ sym (given _ _ _ _ _ (c.into_iter-coupon-iterator.ensures.into_iter_gives ∙ c.iter-coupon-items.ensures) c.loop-coupon.yielded_by c.in-None.ensures.steps.0))

pub returns-clause-room : goal.returns-clause-room
returns-clause-room g c n len enough =
    let all = given _ _ _ _ _ (c.into_iter-coupon-iterator.ensures.into_iter_gives ∙ c.iter-coupon-items.ensures) c.loop-coupon.yielded_by c.in-None.ensures.steps.0 in
    c.loop-coupon.invariant.takes n len (subst (λ cs. HasRoom c.args.self.now (n + length cs) len) (all ∙ append-nil c.loop-coupon.yielded) enough)
