-- SPDX-License-Identifier: Apache-2.0
use Rattle.std.proofs.Common.{ℕ, List, ◌+◌, ◌-◌, ◌≤◌, ◌++◌, length, take, drop, sym, ap, ◌∙◌, arith}
use Rattle.std.specs.Int.{w32, from_le_bytes}
use Rattle.std.proofs.lemmas.List.{take-map, drop-map, map-append, take_rest, length-drop}
use Rattle.std.proofs.lemmas.List.Edits.{take-paste}
use Rattle.hll_state.specs.CouponRun.{raws}
use Rattle.hll_state.proofs.elements.move_down.Goals as goal

pub returns : goal.returns
returns c =
    let xs : List (List ℕ) = c.args.coupons.now in
    let from : ℕ = c.args.from in
    let to : ℕ = c.args.to in
    let n : ℕ = length xs - from in
    let fits : n ≤ length (drop from xs) = omega (arith, length-drop from xs) in
    take-map (from_le_bytes w32) (to + n) c.copy_within.new.self
    ∙ ap raws (ap (take (to + n)) c.copy_within.ensures.after ∙ take-paste xs to (drop from xs) n (omega (arith, c.requires.down, c.requires.within)) fits
    ∙ ap (λ ys. take to xs ++ ys) (take_rest xs from))
    ∙ map-append (from_le_bytes w32) (take to xs) (drop from xs)
    ∙ (λ i. sym (take-map (from_le_bytes w32) to xs) i ++ sym (drop-map (from_le_bytes w32) from xs) i)
