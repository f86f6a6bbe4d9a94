-- SPDX-License-Identifier: Apache-2.0
use Rattle.std.proofs.Common.{◌≡◌, ℕ, List, ◌+◌, ◌*◌, ◌-◌, ◌^◌, ◌<◌, ◌≤◌, ◌++◌, length, take, drop, sym, ap, ◌∙◌, arith}
use Rattle.std.proofs.lemmas.Grind.{flat_map-append}
use Rattle.std.proofs.lemmas.List.{length-append, length-drop}
use Rattle.std.proofs.lemmas.Nat.{pow_below}
use Rattle.hll_base.specs.Join.{join}
use Rattle.hll_coupons.specs.Fold.{fold_to, pairs}
use Rattle.hll_registers.proofs.Folding.{folded}
use Rattle.hll_state.specs.Registers.{values}
use Rattle.hll_sketch.proofs.FoldedInPlace.{first_block, block_there, next_block, all_blocks}
use Rattle.hll_state.proofs.Parts.{HaveFour-drop, values-take, values-drop}
use Rattle.hll_state.proofs.Values.{HaveFour, length-values, four_each}
use Rattle.hll_state.proofs.registers.fold_blocks.Goals as goal

module _ (front after : List (List ℕ)) (k e : ℕ) (front_four : HaveFour front) (after_four : HaveFour after) (least : 4 ≤ e) (le : e ≤ k) (small : k ≤ 21)
    (size : length front ≡ 2 ^ (e - 2)) (all : length (front ++ after) ≡ 2 ^ (k - 2)) where
  abbrev V : List ℕ
  V = values front

  abbrev B : List ℕ
  B = values after

  long : length V ≡ 4 * length front
  long = length-values front front_four

  more : length B ≡ 4 * length after
  more = length-values after after_four

  size_of : length V ≡ 2 ^ e
  size_of = long ∙ ap (λ n. 4 * n) size ∙ four_each e least

  all_of : length (V ++ B) ≡ 2 ^ k
  all_of =
      let least_k : 4 ≤ k = omega arith in
      omega (arith, length-append V B, long, more, length-append front after, ap (λ n. 4 * n) all, four_each k least_k)

  first : V ≡ folded (V ++ B) e ((0 + 1) * 2 ^ e)
  first = first_block V B k e small le size_of all_of

  module _ (i : ℕ) (inside : i < 2 ^ (k - e) - 1) where
    there : (i + 1) * length front ≤ length after
    there =
        let within : (i + 1) * length V ≤ length B = block_there V B k e small le size_of all_of i inside in
        let at : (i + 1) * length V ≡ 4 * ((i + 1) * length front) = ap (λ n. (i + 1) * n) long ∙ (let e' : (i + 1) * (4 * length front) ≡ 4 * ((i + 1) * length front) = omega arith in e') in
        omega (arith, within, at, more)

    few : i * length front * 4 < 2 ^ 64
    few =
        let low : i * length front ≤ (i + 1) * length front = omega arith in
        omega (arith, low, there, more, length-append V B, all_of, pow_below k 22 (omega (arith, small)))

    next : (W : List ℕ) → W ≡ folded (V ++ B) e ((i + 1) * 2 ^ e)
        → join W (values (take ((i + 1) * length front - i * length front) (drop (i * length front) after))) ≡ folded (V ++ B) e ((i + 1 + 1) * 2 ^ e)
    next W is =
        let n : ℕ = (i + 1) * length front - i * length front in
        let low : i * length front ≤ (i + 1) * length front = omega arith in
        let start : 4 * (i * length front) ≡ i * length V = (let e' : 4 * (i * length front) ≡ i * (4 * length front) = omega arith in e') ∙ ap (λ m. i * m) (sym long) in
        let stop : 4 * ((i + 1) * length front) ≡ (i + 1) * length V = (let e' : 4 * ((i + 1) * length front) ≡ (i + 1) * (4 * length front) = omega arith in e') ∙ ap (λ m. (i + 1) * m) (sym long) in
        let between : 4 * n ≡ (i + 1) * length V - i * length V = omega (arith, start, stop) in
        let block : values (take n (drop (i * length front) after)) ≡ take ((i + 1) * length V - i * length V) (drop (i * length V) B) =
        values-take n (drop (i * length front) after) (HaveFour-drop (i * length front) after after_four) (omega (arith, there, length-drop (i * length front) after))
        ∙ (λ j. take (between j) (values-drop (i * length front) after after_four (omega (arith, there, low)) j))
        ∙ ap (λ m. take ((i + 1) * length V - i * length V) (drop m B)) start in
        ap (join W) block ∙ next_block V B k e small le size_of all_of i inside W is

  last : (i : ℕ) (W : List ℕ) → 2 ^ (k - e) ≤ i + 1 → W ≡ folded (V ++ B) e ((i + 1) * 2 ^ e) → W ≡ fold_to (pairs (values (front ++ after))) e
  last i W end is = all_blocks V B k e small le size_of all_of i W end is ∙ ap (λ R. fold_to (pairs R) e) (sym (flat_map-append (λ (x : List ℕ). x) front after))

pub loop-block-init : goal.loop-block-init
loop-block-init c =
    first c.args.front.now c.args.after.now c.args.from c.args.to c.told-front c.told-after c.requires.least c.requires.within c.requires.most c.requires.size c.requires.all

pub offset_bounds-after-block : goal.offset_bounds-after-block
offset_bounds-after-block c = record {
  fits = few c.args.front.now c.args.after.now c.args.from c.args.to c.told-front c.told-after c.requires.least c.requires.within c.requires.most c.requires.size c.requires.all c.loop-block.block
      (omega (arith, c.loop-block-test.true, c.two_to-block-end.ensures));
}

pub slice_bounds-max_elements-end : goal.slice_bounds-max_elements-end
slice_bounds-max_elements-end c =
    there c.args.front.now c.args.after.now c.args.from c.args.to c.told-front c.told-after c.requires.least c.requires.within c.requires.most c.requires.size c.requires.all c.loop-block.block
    (omega (arith, c.loop-block-test.true, c.two_to-block-end.ensures))

pub loop-block-preserved : goal.loop-block-preserved
loop-block-preserved c =
    c.max_elements.ensures
    ∙ next c.args.front.now c.args.after.now c.args.from c.args.to c.told-front c.told-after c.requires.least c.requires.within c.requires.most c.requires.size c.requires.all c.loop-block.block
    (omega (arith, c.loop-block-test.true, c.two_to-block-end.ensures)) (values c.loop-block.front) c.loop-block.invariant

pub returns : goal.returns
returns c =
    last c.args.front.now c.args.after.now c.args.from c.args.to c.told-front c.told-after c.requires.least c.requires.within c.requires.most c.requires.size c.requires.all c.loop-block.block
    (values c.loop-block.front) (omega (arith, c.loop-block-test.false, c.two_to-block-end.ensures)) c.loop-block.invariant
