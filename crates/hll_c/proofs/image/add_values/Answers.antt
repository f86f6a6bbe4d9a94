-- SPDX-License-Identifier: Apache-2.0
use Rattle.std.proofs.Common.{◌≡◌, ◌≤◌, ℕ, List, All, length, take, drop, map, sym, ap, subst, ◌∙◌, arith}
use Rattle.std.proofs.lemmas.List.{length-take-le}
use Rattle.std.proofs.lemmas.List.Elements.{All-take, All-drop}
use Rattle.hll_coupons.specs.Hashed.{coupon_of_bytes}
use Rattle.hll_coupons.specs.Pair.{value_of}
use Rattle.hll_sketch.specs.Layout.{sketch_of}
use Rattle.hll_c.proofs.CouponsInTurn.{adds_more, all_valued}
use Rattle.hll_c.proofs.image.add_values.Goals as goal

pub update_with_raw_coupons-requires : goal.update_with_raw_coupons-requires
update_with_raw_coupons-requires g c =
    let strings : List (List ℕ) = g.S.Strings.strings c.args.values.now in
    let cs : List ℕ = map coupon_of_bytes strings in
    let Valued : ℕ → Type 0 = λ coupon. 1 ≤ value_of coupon in
    subst (All Valued) (sym c.put_each.ensures) (All-take Valued _ (drop c.loop-first.first cs) (All-drop Valued c.loop-first.first cs (all_valued strings)))

pub loop-first-preserved : goal.loop-first-preserved
loop-first-preserved g c =
    let cs : List ℕ = map coupon_of_bytes (g.S.Strings.strings c.args.values.now) in
    let size : length (take c.min-size.result c.loop-first.raw_coupons) ≡ c.min-size.result = length-take-le c.min-size.result c.loop-first.raw_coupons (omega (arith, c.min-size.ensures, c.min-size.array_long)) in (
      omega (arith, c.min-size.ensures, c.loop-first-test.true, c.loop-first.invariant.0),
      adds_more (sketch_of c.args.sketch.now) (sketch_of c.loop-first.sketch) (sketch_of c.update_with_raw_coupons.new.self) cs c.put_each.new.out c.loop-first.first c.min-size.result
          (c.put_each.ensures ∙ ap (λ n. take n (drop c.loop-first.first cs)) size) c.in_ok-update_with_raw_coupons.ensures.ok c.loop-first.invariant.1,
    )
