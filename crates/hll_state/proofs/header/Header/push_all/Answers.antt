-- SPDX-License-Identifier: Apache-2.0
use Rattle.std.proofs.Common.{◌≡◌, ℕ, ◌+◌, ◌-◌, ◌^◌, ◌≤◌, ◌++◌, [], ◌∷◌, List, length, take, drop, get_or, sym, ap, subst, ◌∙◌, arith}
use Rattle.std.proofs.lemmas.List.{drop_more, length-take-le}
use Rattle.hll_coupons.specs.Pair.{set_of}
use Rattle.hll_base.specs.declared.hll_type.HllType.TheVariants.{Hll8}
use Rattle.hll_sketch.specs.Adding.{add, content_with}
use Rattle.hll_sketch.specs.Laws.{add_in_turn}
use Rattle.hll_sketch.specs.Value.{Sketch}
use Rattle.hll_state.specs.Counter.{sketch_in, content_of}
use Rattle.hll_state.specs.CouponRun.{raws}
use Rattle.hll_registers.specs.State.{cleared_state}
use Rattle.hll_state.specs.Header.{of_registers, IsHeldWithin, IsWithin, HasRoom, HasRoomFor}
use Rattle.hll_state.specs.declared.header.Held.{Held}
use Rattle.hll_state.proofs.Rooms.{room_fewer}
use Rattle.hll_state.specs.Registers.{values}
use Rattle.hll_state.proofs.Raised.{all_raised, all_added}
use Rattle.hll_base.specs.Join.{join}
use Rattle.hll_coupons.specs.Fold.{fold_to}
use Rattle.std.proofs.Math.Seq.{take-append_seam}
use Rattle.hll_state.proofs.Raws.{length-raws, get_or-raws}
use Rattle.hll_state.proofs.header.Header.push_all.Goals as goal

pub loop-coupon-preserved : goal.loop-coupon-preserved
loop-coupon-preserved c =
    let coupons : List (List ℕ) = c.args.coupons.now in
    let i : ℕ = c.loop-coupon.coupon-index in
    let g : Sketch = sketch_in c.loop-coupon.self c.loop-coupon.body in
    let raw : ℕ = get_or (raws coupons) i 0 in
    let rest : List ℕ = drop (i + 1) (raws coupons) in
    let is : c.from_le_bytes.result ≡ raw = c.from_le_bytes.ensures ∙ sym (get_or-raws coupons i 0 (omega (arith, c.loop-coupon-test.true))) in
    let left : drop i (raws coupons) ≡ raw ∷ rest = drop_more (raws coupons) i 0 (omega (arith, c.loop-coupon-test.true, length-raws coupons)) in
    let next : length coupons - i ≡ length coupons - (i + 1) + 1 = omega (arith, c.loop-coupon-test.true) in
    let long : length c.loop-coupon.body ≡ length c.push.new.body = omega (arith, c.push.auto.body) in
    record {
      within = subst (IsWithin c.push.new.self) long c.push.ensures.within;
      added = ap (λ x. add_in_turn x rest) (c.push.ensures.added ∙ ap (λ n. add g (set_of (n ∷ []))) is) ∙ ap (add_in_turn g) (sym left) ∙ c.loop-coupon.invariant.added;
      widths = c.push.ensures.widths ∙ c.loop-coupon.invariant.widths;
      room = subst (HasRoom c.push.new.self (length coupons - (i + 1))) long
          (c.push.ensures.room (length coupons - (i + 1)) (length c.loop-coupon.body) (subst (λ n. HasRoom c.loop-coupon.self n (length c.loop-coupon.body)) next c.loop-coupon.invariant.room));
      takes = λ n room enough. c.push.ensures.room n room (c.loop-coupon.invariant.takes (n + 1) room (subst (λ m. HasRoom c.args.self.now m room) (let e : n + (i + 1) ≡ n + 1 + i = omega arith in e) enough));
    }

pub returns-then-has_cleared_registers-clause-added : goal.returns-then-has_cleared_registers-clause-added
returns-then-has_cleared_registers-clause-added c =
    let h = c.args.self.now in
    let body : List (List ℕ) = c.args.body.now in
    let n : ℕ = c.two_to.result in
    let new : List (List ℕ) = c.raise_all.new.elements in
    let order : List ℕ = raws c.args.coupons.now in
    let held : h.held ≡ of_registers cleared_state = c.has_cleared_registers.ensures c.if-has_cleared_registers.true in
    let there : 2 ^ (h.lg_k - 2) ≤ length body = subst (λ held. IsHeldWithin h.lg_k held (length body)) held c.requires.within.held in
    let long : 2 ^ (h.lg_k - 2) ≡ length new = omega (arith, c.raise_all.auto.elements, c.two_to.ensures, length-take-le n body (omega (arith, there, c.two_to.ensures))) in
    let first : take (2 ^ (h.lg_k - 2)) (new ++ drop n body) ≡ new = ap (λ m. take m (new ++ drop n body)) long ∙ take-append_seam new (drop n body) in
    let raised : values (take (2 ^ (h.lg_k - 2)) (new ++ drop n body)) ≡ join (values (take (2 ^ (h.lg_k - 2)) body)) (fold_to (set_of order) h.lg_k) =
    ap values first ∙ c.raise_all.ensures.joined ∙ ap (λ m. join (values (take m body)) (fold_to (set_of order) h.lg_k)) c.two_to.ensures in
    all_raised h held body (new ++ drop n body) order (omega (arith, c.requires.some, length-raws c.args.coupons.now)) raised

pub returns-clause-added : goal.returns-clause-added
returns-clause-added c =
    let h = c.args.self.now in
    let body : List (List ℕ) = c.args.body.now in
    let order : List ℕ = raws c.args.coupons.now in
    ap (λ content. let z : Sketch = record { lg_k = h.lg_k; width = Hll8; content = content } in z)
    (c.with_all.ensures.added ∙ ap (λ held. content_with h.lg_k (content_of h.lg_k held body) (set_of order)) (sym c.in-Coupons.is))
    ∙ sym (all_added (sketch_in h body) order (omega (arith, c.requires.some, length-raws c.args.coupons.now)))

pub returns-then-has_cleared_registers-clause-room : goal.returns-then-has_cleared_registers-clause-room
returns-then-has_cleared_registers-clause-room c n room enough = room_fewer c.args.self.now n (n + length c.args.coupons.now) room (omega arith) enough

pub returns-clause-room : goal.returns-clause-room
returns-clause-room c n room enough = c.with_all.ensures.room n room (subst (λ (held : Held). HasRoomFor c.args.self.now.lg_k held (n + length c.args.coupons.now) room) c.in-Coupons.is enough)
