-- SPDX-License-Identifier: Apache-2.0
use Rattle.std.proofs.Common.{◌≡◌, ℕ, ◌||◌, Bool, List, [], nat_eq, get_or, map, take, sym, ap, ◌∙◌, arith}
use Rattle.std.specs.Int.{w32, from_le_bytes}
use Rattle.std.specs.List.{list_any}
use Rattle.std.proofs.lemmas.List.{get_or-map, length-map, take_all}
use Rattle.std.proofs.lemmas.List.Folds.{list_any_more}
use Rattle.hll_sketch.proofs.raw_coupons.RawCoupons.stands_before.Goals as goal

pub loop-element-preserved : goal.loop-element-preserved
loop-element-preserved c =
    let items : List (List ℕ) = c.elements-element-items.result.now in
    let numbers : List ℕ = map (from_le_bytes w32) items in
    let i : ℕ = c.loop-element.element-index in
    let is_it : ℕ → Bool = λ w. nat_eq w c.args.raw_coupon in
    let at : get_or numbers i 0 ≡ c.from_le_bytes.result =
    get_or-map (from_le_bytes w32) items i [] 0 c.loop-element-test.true ∙ sym c.from_le_bytes.ensures in
    ap (λ b. b || is_it c.from_le_bytes.result) c.loop-element.invariant
    ∙ sym (list_any_more is_it numbers i 0 (omega (arith, c.loop-element-test.true, length-map items (from_le_bytes w32))) ∙ ap (λ w. list_any is_it (take i numbers) || is_it w) at)

pub returns : goal.returns
returns c =
    let items : List (List ℕ) = c.elements-element-items.result.now in
    let is_it : ℕ → Bool = λ w. nat_eq w c.args.raw_coupon in
    c.loop-element.invariant
    ∙ ap (list_any is_it) (take_all c.loop-element.element-index (map (from_le_bytes w32) items) (omega (arith, c.loop-element-test.false, length-map items (from_le_bytes w32))) ∙ c.elements-element-items.ensures)
