-- SPDX-License-Identifier: Apache-2.0
use Rattle.std.proofs.Common.{◌≡◌, ◌<◌, ℕ, List, [], length, take, get_or, subst, sym, ap, ◌∙◌, refl, arith}
use Rattle.std.specs.Int.{w32, from_le_bytes}
use Rattle.std.proofs.lemmas.List.{length-take-le, get_or-take, take-map}
use Rattle.hll_coupons.specs.Coupons.{IsAscending, raw_coupons}
use Rattle.hll_state.specs.CouponRun.{members, raws}
use Rattle.hll_state.proofs.Flattened.{raw_coupons-flat_map}
use Rattle.hll_state.proofs.run.CouponRun.as_bytes.Goals as goal

pub returns-clause-ascending : goal.returns-clause-ascending
returns-clause-ascending c =
    let used : ℕ = c.args.self.now.used in
    let coupons : List (List ℕ) = c.args.coupons.now in
    let front : List (List ℕ) = take used coupons in
    let size : length front ≡ used = length-take-le used coupons c.requires.run.used in
    let four : (k : ℕ) → k < length front → length (get_or front k []) ≡ 4 =
    λ k l. ap length (get_or-take used coupons k [] (omega (arith, l, size))) ∙ c.told-coupons k (omega (arith, l, size, c.requires.run.used)) in
    let read : raw_coupons used c.as_flattened-bytes.result.now ≡ take used (raws coupons) =
    (λ i. raw_coupons (sym size i) (c.as_flattened-bytes.ensures.value i)) ∙ raw_coupons-flat_map front four ∙ sym (take-map (from_le_bytes w32) used coupons) in
    subst (λ raws. IsAscending raws (members c.args.self.now coupons)) (sym read)
    (record { increasing = c.requires.ascends; members = refl })

pub returns-clause-written : goal.returns-clause-written
returns-clause-written c = record {
  order = raw_coupons c.args.self.now.used c.as_flattened-bytes.result.now;
  ascending = returns-clause-ascending c;
  is = c.bytes_are_written.ensures c.args.self.now.used (omega (arith, c.as_flattened-bytes.ensures.len, length-take-le c.args.self.now.used c.args.coupons.now c.requires.run.used));
}
