-- SPDX-License-Identifier: Apache-2.0
use Rattle.std.proofs.Common.{◌≡◌, ℕ, ◌*◌, ◌-◌, ◌%◌, ◌^◌, ◌<◌, ◌≤◌, List, [], ◌∷◌, replicate, refl, sym, ap, subst, ◌∙◌, arith, rules}
use Rattle.std.proofs.Math.Nat.{mod-eq_of_lt}
use Rattle.std.proofs.lemmas.Nat.{pow_below}
use Rattle.std.proofs.lemmas.List.{ext_get_or, length-replicate}
use Rattle.std.proofs.lemmas.List.Elements.{All-replicate}
use Rattle.hll_registers.specs.State.{cleared_state}
use Rattle.hll_kernels.specs.Groups.{registers_in, AreGroups, IsGroup}
use Rattle.hll_kernels.proofs.Grouping.{groups-pow, registers_in-replicate}
use Rattle.hll_kernels.specs.Packed.{zeros}
use Rattle.hll_arrays.proofs.ZeroCounts.{zeros_all}
use Rattle.hll_arrays.proofs.array6.Array6.new.Goals as goal

-- the registers of groups of zeros
zero_registers_in : (k : ℕ) (G : List (List ℕ)) → 2 ≤ k → G ≡ replicate (2 ^ (k - 2)) (0 ∷ 0 ∷ 0 ∷ []) → registers_in G ≡ replicate (2 ^ k) 0
zero_registers_in k G least are = ap registers_in are ∙ registers_in-replicate (2 ^ (k - 2)) ∙ ap (λ n. replicate n 0) (groups-pow k least)

zero_group : IsGroup (0 ∷ 0 ∷ 0 ∷ [])
zero_group = record { three = refl; bytes = search rules }

zero_groups : (k : ℕ) → AreGroups k (replicate (2 ^ (k - 2)) (0 ∷ 0 ∷ 0 ∷ []))
zero_groups k = record {
  size = length-replicate {A = List ℕ} (2 ^ (k - 2)) (0 ∷ 0 ∷ 0 ∷ []);
  bytes = All-replicate IsGroup (2 ^ (k - 2)) (0 ∷ 0 ∷ 0 ∷ []) zero_group;
}

pub invariant_of-result : goal.invariant_of-result
invariant_of-result g c =
    let k : ℕ = c.args.lg_config_k in
    let fits : 2 ^ (k - 2) < 2 ^ 64 = pow_below (k - 2) 64 (omega (arith, c.requires.most)) in
    let once : 1 * 2 ^ (k - 2) ≡ 2 ^ (k - 2) = omega arith in
    let many : 1 * 2 ^ (k - 2) % 18446744073709551616 ≡ 2 ^ (k - 2) = ap (λ n. n % 18446744073709551616) once ∙ mod-eq_of_lt fits in
    let items : c.in_ok-vec.field-0.items ≡ replicate (1 * 2 ^ (k - 2) % 18446744073709551616) (0 ∷ 0 ∷ 0 ∷ []) =
    c.in_ok-vec.ensures.items_if_clones_equal (λ y clone. ext_get_or 0 y (0 ∷ 0 ∷ 0 ∷ []) clone.long (λ i h. clone.at i 0 0 (omega (arith, h, clone.long)))) in
    let are : c.in_ok-vec.field-0.items ≡ replicate (2 ^ (k - 2)) (0 ∷ 0 ∷ 0 ∷ []) = items ∙ ap (λ n. replicate n (0 ∷ 0 ∷ 0 ∷ [])) many in
    let none : registers_in c.in_ok-vec.field-0.items ≡ replicate (2 ^ k) 0 = zero_registers_in k c.in_ok-vec.field-0.items (omega (arith, c.requires.least)) are in (
      c.requires.least,
      c.requires.most,
      subst (AreGroups k) (sym are) (zero_groups k),
      search rules,
      c.two_to.ensures ∙ sym (ap zeros none ∙ zeros_all (2 ^ k)),
    )

pub returns-clause-ok : goal.returns-clause-ok
returns-clause-ok g c =
    let k : ℕ = c.args.lg_config_k in
    let fits : 2 ^ (k - 2) < 2 ^ 64 = pow_below (k - 2) 64 (omega (arith, c.requires.most)) in
    let once : 1 * 2 ^ (k - 2) ≡ 2 ^ (k - 2) = omega arith in
    let many : 1 * 2 ^ (k - 2) % 18446744073709551616 ≡ 2 ^ (k - 2) = ap (λ n. n % 18446744073709551616) once ∙ mod-eq_of_lt fits in
    let items : c.in_ok-vec.field-0.items ≡ replicate (1 * 2 ^ (k - 2) % 18446744073709551616) (0 ∷ 0 ∷ 0 ∷ []) =
    c.in_ok-vec.ensures.items_if_clones_equal (λ y clone. ext_get_or 0 y (0 ∷ 0 ∷ 0 ∷ []) clone.long (λ i h. clone.at i 0 0 (omega (arith, h, clone.long)))) in
    let none : registers_in c.in_ok-vec.field-0.items ≡ replicate (2 ^ k) 0 = zero_registers_in k c.in_ok-vec.field-0.items (omega (arith, c.requires.least)) (items ∙ ap (λ n. replicate n (0 ∷ 0 ∷ 0 ∷ [])) many) in
    λ i. record { lg_k = k; registers = none i; state = cleared_state }
