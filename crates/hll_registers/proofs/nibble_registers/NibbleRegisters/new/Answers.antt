-- SPDX-License-Identifier: Apache-2.0
use Rattle.std.proofs.Common.{ℕ, ◌≡◌, ◌∙◌, ◌^◌, ◌-◌, ◌≤◌, None, List, replicate, sym, ap, subst}
use Rattle.hll_registers.specs.FourBits.{IsPacked}
use Rattle.hll_registers.proofs.FourBits.{packed_here, packed_zeros, unpacked_is}
use Rattle.hll_registers.proofs.nibble_registers.NibbleRegisters.new.Goals as goal

-- what is stored are zeros
zeros : (k n : ℕ) (bytes : List ℕ) → 4 ≤ k → n ≡ 2 ^ k → bytes ≡ replicate (2 ^ (k - 1)) 0 → IsPacked k 0 n bytes None (replicate (2 ^ k) 0)
zeros k n bytes low count is = subst (λ n. IsPacked k 0 n bytes None (replicate (2 ^ k) 0)) (sym count) (subst (λ bs. IsPacked k 0 (2 ^ k) bs None (replicate (2 ^ k) 0)) (sym is) (packed_zeros k low))

pub invariant_of-result : goal.invariant_of-result
invariant_of-result g c = (
  c.requires.least,
  c.requires.most,
  packed_here c.args.lg_k 0 c.two_to.result c.in_ok-vec.field-0.items None _ c.requires.most (zeros c.args.lg_k c.two_to.result c.in_ok-vec.field-0.items c.requires.least c.two_to.ensures (c.in_ok-vec.ensures.items_if_clones_equal (λ y clone. clone) ∙ ap (λ n. replicate n 0) c.two_to-2.ensures)),
)

pub returns-clause-ok : goal.returns-clause-ok
returns-clause-ok g c =
    let registers = unpacked_is c.args.lg_k 0 c.two_to.result c.in_ok-vec.field-0.items None _ c.requires.most (zeros c.args.lg_k c.two_to.result c.in_ok-vec.field-0.items c.requires.least c.two_to.ensures (c.in_ok-vec.ensures.items_if_clones_equal (λ y clone. clone) ∙ ap (λ n. replicate n 0) c.two_to-2.ensures)) in
    λ i. record { lg_k = c.args.lg_k; registers = registers i; exceptions = None }
