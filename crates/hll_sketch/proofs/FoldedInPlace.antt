-- SPDX-License-Identifier: Apache-2.0
-- Registers that are folded into their first block.
use Rattle.std.proofs.Common.{◌≡◌, ℕ, ◌+◌, ◌-◌, ◌*◌, ◌^◌, ◌<◌, ◌≤◌, List, ◌++◌, length, take, drop, sym, ap, ◌∙◌, arith}
use Rattle.std.proofs.Math.Nat.{mul-le-mul_right}
use Rattle.std.proofs.Math.Seq.{drop-append-add}
use Rattle.std.proofs.lemmas.List.{take_at, take_all, length-append}
use Rattle.std.proofs.lemmas.Nat.{pow_below}
use Rattle.hll_base.specs.Join.{join}
use Rattle.hll_coupons.specs.Fold.{fold_to, pairs}
use Rattle.hll_coupons.proofs.Registers.{fold_to-pairs}
use Rattle.hll_registers.proofs.Folding.{folded, folded-next, block-within, whole}

module _ (V B : List ℕ) (k e : ℕ) (small : k ≤ 21) (le : e ≤ k) (size : length V ≡ 2 ^ e) (all : length (V ++ B) ≡ 2 ^ k) where
  -- the first block is its own fold
  pub first_block : V ≡ folded (V ++ B) e ((0 + 1) * 2 ^ e)
  first_block =
      let one : length V ≡ (0 + 1) * 2 ^ e = omega (arith, size) in
      sym (ap (λ R. fold_to (pairs R) e) (take_at V B ((0 + 1) * 2 ^ e) one) ∙ fold_to-pairs V e (omega (arith, small, le)) size)

  module _ (i : ℕ) (inside : i < 2 ^ (k - e) - 1) where
    -- a block after it is inside
    pub block_there : (i + 1) * length V ≤ length B
    block_there =
        let within : (i + 1 + 1) * 2 ^ e ≤ 2 ^ k = block-within k e (i + 1) small le (omega (arith, inside)) in
        let at : (i + 1) * length V ≡ (i + 1) * 2 ^ e = ap (λ n. (i + 1) * n) size in
        omega (arith, within, at, all, length-append V B, size)

    -- and its maximum with the first block is taken
    pub next_block : (W : List ℕ) → W ≡ folded (V ++ B) e ((i + 1) * 2 ^ e)
        → join W (take ((i + 1) * length V - i * length V) (drop (i * length V) B)) ≡ folded (V ++ B) e ((i + 1 + 1) * 2 ^ e)
    next_block W is =
        let few : length (V ++ B) ≤ 2 ^ 22 = omega (arith, all, pow_below k 22 (omega (arith, small))) in
        let enough : (i + 1 + 1) * 2 ^ e ≤ length (V ++ B) = omega (arith, all, block-within k e (i + 1) small le (omega (arith, inside))) in
        let n : ℕ = length V in
        let one : (i + 1) * n - i * n ≡ 2 ^ e = omega (arith, size) in
        let at : n + i * n ≡ (i + 1) * 2 ^ e = (let e' : n + i * n ≡ (i + 1) * n = omega arith in e') ∙ ap (λ m. (i + 1) * m) size in
        let after : drop (i * n) B ≡ drop ((i + 1) * 2 ^ e) (V ++ B) = sym (drop-append-add V B (i * n)) ∙ ap (λ m. drop m (V ++ B)) at in
        (λ t. join (is t) (take (one t) (after t))) ∙ sym (folded-next (V ++ B) e (i + 1) few enough)

  -- and then all blocks are done
  pub all_blocks : (i : ℕ) (W : List ℕ) → 2 ^ (k - e) ≤ i + 1 → W ≡ folded (V ++ B) e ((i + 1) * 2 ^ e) → W ≡ fold_to (pairs (V ++ B)) e
  all_blocks i W last is =
      let most : length (V ++ B) ≤ (i + 1) * 2 ^ e = (let more : 2 ^ (k - e) * 2 ^ e ≤ (i + 1) * 2 ^ e = mul-le-mul_right (2 ^ e) last in omega (arith, more, whole k e 0 small le, all)) in
      is ∙ ap (λ R. fold_to (pairs R) e) (take_all ((i + 1) * 2 ^ e) (V ++ B) most)
