-- SPDX-License-Identifier: Apache-2.0
use Rattle.std.proofs.Common.{◌≡◌, ℕ, List, ◌+◌, ◌≤◌, ◌-◌, ◌<◌, ◌++◌, length, take, drop, get_or, arith, subst, sym, ap, ◌∙◌}
use Prim.Native.Nat.{min}
use mir.Val.{bool_byte}
use lib.Dec.{leb}
use Rattle.std.specs.Int.{w32, from_le_bytes}
use Rattle.std.specs.FinSet.{union}
use Rattle.std.proofs.lemmas.List.{drop-map, drop_all, length-drop, take_rest}
use Rattle.hll_coupons.specs.Coupons.{IsAscending}
use Rattle.hll_coupons.specs.Pair.{set_of}
use Rattle.hll_coupons.proofs.Merging.{MergesRest, merges_left, merges_right}
use Rattle.hll_state.specs.CouponRun.{raws}
use Rattle.hll_state.proofs.Steps.{step, moves}
use Rattle.hll_state.proofs.Raws.{length-raws}
use Rattle.hll_state.proofs.merge.merge.Goals as goal
use Rattle.hll_state.proofs.merge.merge.Goals.{then-loop-from-test+else-next-others, else-loop-from-test}

pub loop-from-preserved : goal.loop-from-preserved
loop-from-preserved c =
    let i = c.loop-from.invariant in
    let xs : List ℕ = take c.args.len (raws c.args.coupons.now) in
    let ys : List ℕ = raws c.args.others.now in
    let now : List ℕ = raws c.loop-from.coupons in
    let kept : ℕ = c.loop-from.kept in
    let from : ℕ = c.loop-from.from in
    let next : ℕ = c.loop-from.next in
    let l : from < length c.loop-from.coupons = c.loop-from-test.true in
    let r : next < length c.args.others.now = c.if-next-others.true in
    let after : kept < from = omega (arith, i.room, r) in
    let da : c.from-from.result ≡ bool_byte (leb (get_or now from 0) (get_or ys next 0)) = c.from-from.ensures ∙ (λ j. bool_byte (leb (c.get-left.ensures j) (c.get-right.ensures j))) in
    let db : c.from-next.result ≡ bool_byte (leb (get_or ys next 0) (get_or now from 0)) = c.from-next.ensures ∙ (λ j. bool_byte (leb (c.get-right.ensures j) (c.get-left.ensures j))) in
    let least : c.min.result ≡ min (get_or now from 0) (get_or ys next 0) = c.min.ensures ∙ (λ j. min (c.get-left.ensures j) (c.get-right.ensures j)) in
    let g = moves _ _ c.from-from.result c.from-next.result da db in
    record {
      room = omega (arith, i.room, g.0);
      left_within = omega (arith, l, g.1, c.set.auto.coupons);
      right_within = omega (arith, r, g.2);
      rest = subst (λ zs. MergesRest xs ys (take (kept + 1) zs) (drop (from + c.from-from.result) zs) (drop (next + c.from-next.result) ys)) (sym c.set.ensures)
          (step xs ys now ys kept from next c.min.result c.from-from.result c.from-next.result i.rest after
          (omega (arith, l, length-raws c.loop-from.coupons)) (omega (arith, r, length-raws c.args.others.now)) least da db);
    }

pub returns-then-next-others-2-clause-ascending : goal.returns-then-next-others-2-clause-ascending
returns-then-next-others-2-clause-ascending c =
    let i = c.loop-from.invariant in
    let others : List (List ℕ) = c.args.others.now in
    let next : ℕ = c.loop-from.next in
    let kept : ℕ = c.loop-from.kept in
    let r : next < length others = c.if-next-others-2.true in
    let ended : length c.loop-from.coupons ≤ c.loop-from.from = elim c.loop-from-test.branch [ then-loop-from-test+else-next-others w ↦ absurd (omega (arith, w.if-next-others.false, r)) | else-loop-from-test w ↦ w.loop-from-test.false ] in
    let rest : take (length others - next) (drop next others) ≡ drop next others = take_rest others next in
    let size : length others - next ≡ length (take (length others - next) (drop next others)) = sym (ap length rest ∙ length-drop next others) in
    subst (λ zs. IsAscending zs (union (set_of (take c.args.len (raws c.args.coupons.now))) (set_of (raws others))))
    (sym (ap (λ n. take (kept + n) (raws c.copy_to.new.coupons)) size ∙ c.copy_to.ensures
    ∙ ap (λ ys. take kept (raws c.loop-from.coupons) ++ ys) (ap raws rest ∙ sym (drop-map (from_le_bytes w32) next others))))
    (merges_right _ _ (take kept (raws c.loop-from.coupons)) _ _ i.rest (drop_all c.loop-from.from (raws c.loop-from.coupons) (omega (arith, ended, length-raws c.loop-from.coupons))))

pub returns-clause-ascending : goal.returns-clause-ascending
returns-clause-ascending c =
    let i = c.loop-from.invariant in
    let others : List (List ℕ) = c.args.others.now in
    let kept : ℕ = c.loop-from.kept in
    let r : length others ≤ c.loop-from.next = c.if-next-others-2.false in
    subst (λ zs. IsAscending zs (union (set_of (take c.args.len (raws c.args.coupons.now))) (set_of (raws others))))
    (sym (ap (λ m. take (kept + (m - c.loop-from.from)) (raws c.move_down.new.coupons)) c.move_down.auto.coupons ∙ c.move_down.ensures))
    (merges_left _ _ (take kept (raws c.loop-from.coupons)) _ _ i.rest (drop_all c.loop-from.next (raws others) (omega (arith, r, length-raws others))))
