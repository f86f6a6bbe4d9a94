-- SPDX-License-Identifier: Apache-2.0
use Rattle.std.proofs.Common.{◌≡◌, ◌<◌, ◌≤◌, ◌+◌, ◌-◌, ◌*◌, ◌/◌, ◌%◌, ◌^◌, ◌++◌, ℕ, List, All, get_or, refl, sym, ap, subst, ◌∙◌, length, arith, true}
use Rattle.std.specs.Prelude.{nat_lt}
use Rattle.std.specs.List.{list_all}
use Rattle.std.proofs.lemmas.Bool.{true≢false, and_parts}
use Rattle.std.proofs.lemmas.List.{length-append, length-map}
use Rattle.std.proofs.lemmas.List.Elements.{All-from_get_or}
use Rattle.hll_kernels.specs.declared.kernels.WeightSums.{WeightSums}
use Rattle.hll_kernels.specs.Lanes.{window_units}
use Rattle.hll_kernels.specs.WeightSums.{AreSumsOf}
use Rattle.hll_kernels.proofs.Marks.{none_marked}
use Rattle.hll_kernels.proofs.NibbleWeights.{low_of, high_of, marked, unmarked, AreSumsOf-nibbles}
use Rattle.hll_kernels.proofs.Weights.{All-below}
use Rattle.hll_kernels.proofs.WeightParts.{AreSumsOf-shifted, AreSumsOf-fits}
use Rattle.hll_kernels.proofs.nibbles.unmarked_sums.Goals as goal
use mathlib.Core.List.{map}

-- the low nibbles, or the high ones, none of which is 15
module _ (N D : List ℕ) (is : N ≡ D) (none : list_all (λ n. nat_lt n 15) D ≡ true) where
  pub small : All (λ d. d < 16) N
  small = subst (All (λ d. d < 16)) (sym is) (λ k d l. let below : get_or D k d < 15 = All-below 15 D none k d l in omega (arith, below))

  -- and their sums
  pub summed : (s : WeightSums) (m : ℕ) → m ≤ 16 → s.low ≡ 2 ^ (16 - m) * window_units N → s.high ≡ 0 → AreSumsOf s (map (λ n. m + n) D)
  summed s m few low high = AreSumsOf-shifted s m (map (λ n. m + n) D) N (ap (map (λ n. m + n)) (sym is)) few small low high

pub returns-then-not-is_unmarked : goal.returns-then-not-is_unmarked
returns-then-not-is_unmarked c = record {
  unmarked = (
    λ e. absurd (true≢false (sym e)),
    marked c.args.block.now (none_marked c.args.block.now (All-from_get_or (λ b. b < 256) c.args.block.now 0 (λ k l. c.fits-block k)) ∙ sym c.is_unmarked.ensures ∙ c.if-not-is_unmarked.true),
  );
  sums = tt;
}

pub shifted_sums-low-requires-clause-small : goal.shifted_sums-low-requires-clause-small
shifted_sums-low-requires-clause-small c =
    let none = none_marked c.args.block.now (All-from_get_or (λ b. b < 256) c.args.block.now 0 (λ k l. c.fits-block k)) ∙ sym c.is_unmarked.ensures ∙ c.if-not-is_unmarked.false in
    small _ _ c.low_nibbles.ensures (and_parts _ _ none).0

pub shifted_sums-high-requires-clause-small : goal.shifted_sums-high-requires-clause-small
shifted_sums-high-requires-clause-small c =
    let none = none_marked c.args.block.now (All-from_get_or (λ b. b < 256) c.args.block.now 0 (λ k l. c.fits-block k)) ∙ sym c.is_unmarked.ensures ∙ c.if-not-is_unmarked.false in
    small _ _ c.high_nibbles.ensures (and_parts _ _ none).1

pub plus-requires : goal.plus-requires
plus-requires c =
    let B : List ℕ = c.args.block.now in
    let m : ℕ = c.args.minimum in
    let P : List ℕ = map (λ n. m + n) (low_of B) in
    let Q : List ℕ = map (λ n. m + n) (high_of B) in
    let few : length (P ++ Q) ≤ 8388608 = omega (arith, length-append P Q, length-map (low_of B) (λ n. m + n), length-map (high_of B) (λ n. m + n), length-map B (λ b. b % 16), length-map B (λ b. b / 16), c.told-block) in
    let none = none_marked B (All-from_get_or (λ b. b < 256) B 0 (λ k l. c.fits-block k)) ∙ sym c.is_unmarked.ensures ∙ c.if-not-is_unmarked.false in
    let low : AreSumsOf c.shifted_sums-low.result (map (λ n. m + n) (low_of B)) = summed _ _ c.low_nibbles.ensures (and_parts _ _ none).0 c.shifted_sums-low.result m c.requires c.shifted_sums-low.ensures.low c.shifted_sums-low.ensures.high in
    let high : AreSumsOf c.shifted_sums-high.result (map (λ n. m + n) (high_of B)) = summed _ _ c.high_nibbles.ensures (and_parts _ _ none).1 c.shifted_sums-high.result m c.requires c.shifted_sums-high.ensures.low c.shifted_sums-high.ensures.high in
    let fit = AreSumsOf-fits c.shifted_sums-low.result c.shifted_sums-high.result P Q (P ++ Q) low high refl few in
    record { low = fit.0; high = fit.1 }

pub returns : goal.returns
returns c =
    let B : List ℕ = c.args.block.now in
    let m : ℕ = c.args.minimum in
    let none = none_marked B (All-from_get_or (λ b. b < 256) B 0 (λ k l. c.fits-block k)) ∙ sym c.is_unmarked.ensures ∙ c.if-not-is_unmarked.false in
    let low : AreSumsOf c.shifted_sums-low.result (map (λ n. m + n) (low_of B)) = summed _ _ c.low_nibbles.ensures (and_parts _ _ none).0 c.shifted_sums-low.result m c.requires c.shifted_sums-low.ensures.low c.shifted_sums-low.ensures.high in
    let high : AreSumsOf c.shifted_sums-high.result (map (λ n. m + n) (high_of B)) = summed _ _ c.high_nibbles.ensures (and_parts _ _ none).1 c.shifted_sums-high.result m c.requires c.shifted_sums-high.ensures.low c.shifted_sums-high.ensures.high in
    record { unmarked = (λ e. unmarked B none, λ all. refl); sums = AreSumsOf-nibbles _ _ _ m B low high c.plus.ensures.low c.plus.ensures.high }
