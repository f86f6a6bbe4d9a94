-- SPDX-License-Identifier: Apache-2.0
use Rattle.std.proofs.Common.{◌≡◌, ◌%◌, ◌^◌, ◌∙◌, ℕ, List, length, replicate, take, arith, ap, sym}
use Rattle.std.proofs.lemmas.List.{length-replicate, take_all, with_items_is}
use Rattle.hll_base.specs.Join.{join}
use Rattle.hll_kernels.proofs.SixBitLanes.{join_zeros}
use Rattle.hll_registers.specs.FourBits.{unpacked, unboxed}
use Rattle.hll_registers.proofs.Folding.{power-groups}
use Rattle.hll_registers.proofs.FourBitReading.{length-unpacked}
use Rattle.hll_registers.proofs.nibble_registers.values_of.Goals as goal

-- the maximum of zeros and registers
raised : (n : ℕ) (zeros values registers : List ℕ) → zeros ≡ replicate n 0 → length registers ≡ n → values ≡ join zeros (take (length zeros) registers) → values ≡ registers
raised n zeros values registers none size is =
    let many : length zeros ≡ n = ap length none ∙ length-replicate {A = ℕ} n 0 in
    is
    ∙ (λ i. join (none i) (take_all (length zeros) registers (omega (arith, many, size)) i))
    ∙ ap (λ zs. join zs registers) (sym (take_all n (replicate n 0) (omega (arith, length-replicate {A = ℕ} n 0))))
    ∙ join_zeros n n registers (omega arith) size

pub max_with_registers-requires-clause-groups : goal.max_with_registers-requires-clause-groups
max_with_registers-requires-clause-groups g c =
    let size : length c.deref_mut.result.now ≡ 2 ^ c.args.lg_k =
    ap length (c.deref_mut.ensures.value ∙ c.in_ok-values.ensures.items_if_clones_equal (λ y clone. clone)) ∙ length-replicate {A = ℕ} c.two_to.result 0 ∙ c.two_to.ensures in
    ap (λ n. n % 4) size ∙ power-groups c.args.lg_k c.requires.least

pub returns-clause-ok : goal.returns-clause-ok
returns-clause-ok g c =
    let zeros : c.deref_mut.result.now ≡ replicate (2 ^ c.args.lg_k) 0 =
    c.deref_mut.ensures.value ∙ c.in_ok-values.ensures.items_if_clones_equal (λ y clone. clone) ∙ ap (λ n. replicate n 0) c.two_to.ensures in
    with_items_is c.in_ok-values.values c.max_with_registers.new.values (c.max_with_registers.auto.values ∙ c.deref_mut.ensures.len)
    ∙ raised (2 ^ c.args.lg_k) c.deref_mut.result.now c.max_with_registers.new.values (unpacked c.args.lg_k c.args.minimum c.args.nibbles.now (unboxed c.args.map.now)) zeros
    (length-unpacked c.args.lg_k c.args.minimum c.args.nibbles.now (unboxed c.args.map.now)) c.max_with_registers.ensures
