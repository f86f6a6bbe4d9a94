-- SPDX-License-Identifier: Apache-2.0
use Rattle.std.proofs.Common.{◌≡◌, ℕ, List, ◌+◌, ◌++◌, length, take, sym, ap, ◌∙◌, arith}
use Rattle.std.specs.Int.{w32, from_le_bytes}
use Rattle.std.proofs.lemmas.List.{take-map, map-append}
use Rattle.std.proofs.lemmas.Slice.{take-put_mid}
use Rattle.hll_state.specs.CouponRun.{raws}
use Rattle.hll_state.proofs.elements.copy_to.Goals as goal

pub returns : goal.returns
returns c =
    let xs : List (List ℕ) = c.args.coupons.now in
    let at : ℕ = c.args.at in
    let n : at + length c.args.others.now ≡ at + length c.copy_from_slice.new.self = ap (λ ys. at + length ys) (sym c.copy_from_slice.ensures.after) in
    take-map (from_le_bytes w32) (at + length c.args.others.now) _
    ∙ ap raws (take-put_mid at _ xs c.copy_from_slice.new.self _ n (omega (arith, c.requires)) ∙ ap (λ ys. take at xs ++ ys) c.copy_from_slice.ensures.after)
    ∙ map-append (from_le_bytes w32) (take at xs) c.args.others.now
    ∙ ap (λ ys. ys ++ raws c.args.others.now) (sym (take-map (from_le_bytes w32) at xs))
