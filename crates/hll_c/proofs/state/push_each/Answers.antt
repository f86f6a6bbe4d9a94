-- SPDX-License-Identifier: Apache-2.0
use Rattle.std.proofs.Common.{◌+◌, ◌-◌, List, ℕ, length, refl, sym, subst, ◌∙◌, arith}
use Rattle.hll_state.specs.Header.{IsWithin}
use Rattle.hll_c.proofs.States.{pushed, all_pushed, none_left}
use Rattle.hll_state.proofs.Rooms.{room_fewer}
use Rattle.hll_c.proofs.state.push_each.Goals as goal

pub loop-number-init : goal.loop-number-init
loop-number-init g c =
    let n : ℕ = length (g.C.Coupons.raw_coupons c.args.coupons.now) in
    record { within = c.requires.within; room = room_fewer c.args.header.now (n - 0) n (length c.args.body.now) (omega arith) c.requires.room; widths = refl; takes = λ n len. room_fewer c.args.header.now n (n + 0) len (omega arith); same = refl }

pub push-requires-clause-within : goal.push-requires-clause-within
push-requires-clause-within g c = c.loop-number.invariant.within

pub push-requires-clause-room : goal.push-requires-clause-room
push-requires-clause-room g c =
    room_fewer c.loop-number.header 1 (length (g.C.Coupons.raw_coupons c.args.coupons.now) - c.loop-number.number) (length c.loop-number.body)
    (omega (arith, c.loop-number-test.true, c.count-number-end.ensures)) c.loop-number.invariant.room

pub loop-number-preserved : goal.loop-number-preserved
loop-number-preserved g c =
    pushed c.args.header.now c.args.body.now c.loop-number.header c.push.new.self c.loop-number.body c.push.new.body (g.C.Coupons.raw_coupons c.args.coupons.now) c.loop-number.number 0 _
    (omega (arith, c.loop-number-test.true, c.count-number-end.ensures)) (sym (c.raw.ensures ∙ c.coupon.ensures))
    c.loop-number.invariant c.push.auto.body c.push.ensures.within c.push.ensures.room c.push.ensures.added c.push.ensures.widths

pub returns : goal.returns
returns g c =
    let cs : List ℕ = g.C.Coupons.raw_coupons c.args.coupons.now in
    record {
      within = subst (IsWithin c.loop-number.header) c.loop-number.auto.body c.loop-number.invariant.within;
      added = all_pushed c.args.header.now c.args.body.now c.loop-number.header c.loop-number.body cs c.loop-number.number (omega (arith, c.loop-number-test.false, c.count-number-end.ensures)) c.loop-number.invariant;
      grows = record {
        widths = c.loop-number.invariant.widths;
        takes = λ len. none_left c.args.header.now c.loop-number.header (length cs) c.loop-number.number len (omega (arith, c.loop-number.auto.number-end, c.count-number-end.ensures)) c.loop-number.invariant.takes;
      };
    }
