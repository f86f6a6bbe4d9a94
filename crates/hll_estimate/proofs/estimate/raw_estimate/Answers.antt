-- SPDX-License-Identifier: Apache-2.0
use Rattle.std.proofs.Common.{◌≡◌, ℕ, ◌+◌, ◌*◌, ◌/◌, ◌%◌, ◌^◌, ◌<◌, ◌≤◌, sym, ap, ◌∙◌, arith}
use Rattle.std.proofs.lemmas.Nat.{pow-add, pow_pos, mod_below, div_below, shl_whole}
use Rattle.std.proofs.Math.Nat.{mod-eq_of_lt, mul_assoc}
use Rattle.hll_estimate.specs.FixedPoint.{raw_estimate_of}
use Rattle.hll_estimate.proofs.Numbers.{in_steps, quotient_small}
use Rattle.hll_estimate.proofs.estimate.raw_estimate.Goals as goal

dividend : (k v : ℕ) → k ≤ 21 → v < 2 ^ 49 → (v * 2 ^ (2 * k + 37)) % 2 ^ 128 ≡ v * 2 ^ (2 * k + 37)
dividend k v small alpha = shl_whole v 49 (2 * k + 37) 128 alpha (omega arith)

whole_of : (k v : ℕ) → v * 2 ^ (2 * k + 47) ≡ v * 2 ^ (2 * k + 37) * 1024
whole_of k v = ap (λ x. v * x) (ap (λ i. 2 ^ i) (let e : 2 * k + 47 ≡ 2 * k + 37 + 10 = omega arith in e) ∙ pow-add 2 (2 * k + 37) 10) ∙ sym (mul_assoc v (2 ^ (2 * k + 37)) 1024)

-- the two steps of the division, as they are computed
pub divided : (k v z : ℕ) → k ≤ 21 → v < 2 ^ 49 → 2 ^ k ≤ z → z < 2 ^ 113 → (let n : ℕ = (v * 2 ^ (2 * k + 37)) % 2 ^ 128 in (n / z * 1024) % 2 ^ 128 + (n % z * 1024) % 2 ^ 128 / z ≡ v * 2 ^ (2 * k + 47) / z)
divided k v z small alpha le wide =
    let n : ℕ = v * 2 ^ (2 * k + 37) in
    let some : 0 < z = omega (arith, le, pow_pos k) in
    let high : (n / z * 1024) % 2 ^ 128 ≡ n / z * 1024 = let q : n / z < 2 ^ 107 = quotient_small k v z small alpha le in mod-eq_of_lt (let e : n / z * 1024 < 2 ^ 128 = omega (arith, q) in e) in
    let low : (n % z * 1024) % 2 ^ 128 ≡ n % z * 1024 = let r : n % z < z = mod_below n z some in mod-eq_of_lt (let e : n % z * 1024 < 2 ^ 128 = omega (arith, r) in e) in
    let whole = whole_of k v in
    rw (dividend k v small alpha, high, low, whole) (sym (in_steps n z some))

below : (k v z : ℕ) → k ≤ 21 → v < 2 ^ 49 → 2 ^ k ≤ z → v * 2 ^ (2 * k + 37) / z * 1024 + v * 2 ^ (2 * k + 37) % z * 1024 / z < 2 ^ 118
below k v z small alpha le =
    let n : ℕ = v * 2 ^ (2 * k + 37) in
    let some : 0 < z = omega (arith, le, pow_pos k) in
    let high : n / z < 2 ^ 107 = quotient_small k v z small alpha le in
    let rest : n % z < z = mod_below n z some in
    let low : n % z * 1024 / z < 1024 = div_below (n % z * 1024) z 1024 some (omega (arith, rest)) in
    omega (arith, high, low)

pub returns : goal.returns
unfolding raw_estimate_of
returns c =
    let k : ℕ = c.args.lg_k in
    let v : ℕ = c.twice_alpha.result in
    let z : ℕ = c.twice_weight-weight.result in
    let d = divided k v z c.requires.most c.twice_alpha.ensures.small c.twice_weight-weight.ensures.some c.twice_weight-weight.ensures.small in
    let some : 0 < z = omega (arith, c.twice_weight-weight.ensures.some, pow_pos k) in
    let last = rw c.divide-quotient.ensures.remainder at c.divide.ensures.quotient in
    record {
      value = rw (last, c.divide-quotient.ensures.quotient) (d ∙ (λ i. c.twice_alpha.ensures.value i * 2 ^ (2 * k + 47) / c.twice_weight-weight.ensures.value i));
      small = rw (last, c.divide-quotient.ensures.quotient) (rw d (rw (whole_of k v) (rw in_steps (below k v z c.requires.most c.twice_alpha.ensures.small c.twice_weight-weight.ensures.some))));
    }
