-- SPDX-License-Identifier: Apache-2.0
use Rattle.std.proofs.Common.{◌≤◌, length, get_or, ◌≡◌, ℕ, ◌-◌, ◌^◌, ◌∷◌, [], List, replicate, ap, ◌∙◌, arith}
use Rattle.std.proofs.lemmas.List.{ext_get_or, length-replicate, get_or-replicate}
use Rattle.std.proofs.lemmas.List.Elements.{All-from_get_or}
use Rattle.hll_kernels.specs.Packed.{AreRegisters}
use Rattle.hll_base.specs.Join.{join}
use Rattle.hll_coupons.specs.Fold.{fold_to}
use Rattle.hll_coupons.specs.Pair.{Pairs, set_of}
use Rattle.hll_state.specs.CouponRun.{raws}
use Rattle.hll_state.specs.Registers.{values}
use Rattle.hll_state.proofs.Promoting.{values-zeros, join_zeros}
use Rattle.hll_state.proofs.Values.{four_each}
use Rattle.hll_state.proofs.registers.make_registers.Goals as goal

-- the registers that were cleared
zeros_are : (k : ℕ) (V : List ℕ) → V ≡ replicate (2 ^ k) 0 → AreRegisters k V
zeros_are k V is = record {
  size = ap length is ∙ length-replicate {A = ℕ} (2 ^ k) 0;
  small = All-from_get_or (λ v. v ≤ 63) V 0 (λ s h. omega (arith, ap (λ (X : List ℕ). get_or X s 0) is, get_or-replicate {A = ℕ} (2 ^ k) s 0 0 (omega (arith, h, ap length is, length-replicate {A = ℕ} (2 ^ k) 0))));
}

cleared : (k : ℕ) (now : List (List ℕ)) → 4 ≤ k → now ≡ replicate (2 ^ (k - 2)) (0 ∷ 0 ∷ 0 ∷ 0 ∷ []) → values now ≡ replicate (2 ^ k) 0
cleared k now least is = ap values is ∙ values-zeros (2 ^ (k - 2)) ∙ ap (λ n. replicate {A = ℕ} n 0) (four_each k least)

pub returns : goal.returns
returns c =
    let k : ℕ = c.args.lg_k in
    let P : Pairs = set_of (raws c.args.coupons.now) in
    let none : List ℕ = 0 ∷ 0 ∷ 0 ∷ 0 ∷ [] in
    let clear : c.fill.new.self ≡ replicate (2 ^ (k - 2)) none = c.fill.ensures.after (λ y same. ext_get_or 0 y none same.long (λ i l. same.at i 0 0 (omega (arith, l, same.long)))) ∙ ap (λ n. replicate n none) c.requires.size in
    let zero : values c.fill.new.self ≡ replicate (2 ^ k) 0 = cleared k c.fill.new.self c.requires.least clear in
    record {
      folded = c.raise_all.ensures.joined ∙ ap (λ R. join R (fold_to P k)) zero ∙ join_zeros P k;
      small = c.raise_all.ensures.small (zeros_are k (values c.fill.new.self) zero);
    }
