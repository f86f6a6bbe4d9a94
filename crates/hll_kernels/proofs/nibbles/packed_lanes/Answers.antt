-- SPDX-License-Identifier: Apache-2.0
use Rattle.std.proofs.Common.{◌≡◌, ℕ, List, ◌∙◌, ◌++◌, ◌≤◌, length, ap, sym, subst, take, drop, arith}
use Rattle.std.specs.Simd.Lanes.{Each1}
use Rattle.std.proofs.lemmas.List.{take-append-drop, take_all, length-drop, length-take-le}
use Rattle.hll_kernels.specs.Lanes.{nibble_pairs}
use Rattle.hll_kernels.specs.Packed.{nibble}
use Rattle.hll_kernels.proofs.FourBitLanes.{nibble_pairs-nibbles, small_nibbles, nibbles-append}
use Rattle.hll_kernels.proofs.nibbles.packed_lanes.Goals as goal
use mathlib.Core.List.{map}

-- the nibbles of both halves are those of the block
both : (m : ℕ) (xs p q : List ℕ) → length xs ≡ 32 → p ≡ map (nibble m) (take 16 xs) → q ≡ map (nibble m) (take 16 (take 16 (drop 16 xs))) → p ++ q ≡ map (nibble m) xs
both m xs p q e first second =
    let last : take 16 (take 16 (drop 16 xs)) ≡ drop 16 xs =
    take_all 16 (take 16 (drop 16 xs)) (omega (arith, length-take-le 16 (drop 16 xs) (omega (arith, length-drop 16 xs)))) ∙ take_all 16 (drop 16 xs) (omega (arith, length-drop 16 xs)) in
    (λ i. first i ++ (second ∙ ap (map (nibble m)) last) i) ∙ sym (nibbles-append m (take 16 xs) (drop 16 xs)) ∙ ap (map (nibble m)) (take-append-drop 16 xs)

pub paired-requires : goal.paired-requires
paired-requires c =
    subst (Each1 (λ v. v ≤ 15)) (sym (both c.args.minimum c.args.block.now _ _ c.told-block c.nibbles_above-first.ensures c.nibbles_above-second.ensures)) (small_nibbles c.args.minimum c.args.block.now)

pub returns : goal.returns
returns c =
    c.paired.ensures
    ∙ ap nibble_pairs (both c.args.minimum c.args.block.now _ _ c.told-block c.nibbles_above-first.ensures c.nibbles_above-second.ensures)
    ∙ nibble_pairs-nibbles c.args.minimum c.args.block.now
