-- SPDX-License-Identifier: Apache-2.0
use Rattle.std.proofs.Common.{◌≡◌, ◌<◌, ◌+◌, ℕ, List, ◌++◌, length, take, drop, sym, ap, subst, ◌∙◌, arith}
use Rattle.std.specs.List.{range_with_len}
use Rattle.std.specs.Simd.Lanes.{sum_l, pick_l}
use Rattle.std.proofs.lemmas.List.{take_all, length-drop, take-append-drop}
use Rattle.std.proofs.lemmas.Simd.{pick_l_left, pick_l-range_with_len}
use Rattle.hll_kernels.proofs.Weights.{sum_l-append}
use Rattle.hll_kernels.proofs.kernels.halves_added.Goals as goal

-- the sums of both halves
halves : (xs : List ℕ) → length xs ≡ 16 → sum_l (pick_l 0 (xs ++ xs) (range_with_len 0 8)) + sum_l (pick_l 0 (xs ++ xs) (range_with_len 8 8)) ≡ sum_l xs
halves xs long =
    let first : pick_l 0 (xs ++ xs) (range_with_len 0 8) ≡ take 8 xs = pick_l_left 0 xs xs 16 (range_with_len 0 8) long tt ∙ pick_l-range_with_len 0 xs 0 8 (omega (arith, long)) in
    let second : pick_l 0 (xs ++ xs) (range_with_len 8 8) ≡ drop 8 xs =
    pick_l_left 0 xs xs 16 (range_with_len 8 8) long tt ∙ pick_l-range_with_len 0 xs 8 8 (omega (arith, long)) ∙ take_all 8 (drop 8 xs) (omega (arith, length-drop 8 xs, long)) in
    (λ i. sum_l (first i) + sum_l (second i)) ∙ sym (sum_l-append (take 8 xs) (drop 8 xs)) ∙ ap sum_l (take-append-drop 8 xs)

pub lanes_added-requires-clause-small : goal.lanes_added-requires-clause-small
lanes_added-requires-clause-small c = subst (λ n. n < 4294967296) (sym (halves c.args.lanes c.requires.lanes)) c.requires.small

pub returns-clause-sum : goal.returns-clause-sum
returns-clause-sum c = c.lanes_added.ensures.sum ∙ halves c.args.lanes c.requires.lanes
