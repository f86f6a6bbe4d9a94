-- SPDX-License-Identifier: Apache-2.0
use Rattle.std.proofs.Common.{◌∙◌, ◌^◌, ap, sym, nat_eq, eqb}
use Rattle.hll_registers.proofs.FourBits.{all_by_count}
use Rattle.hll_arrays.proofs.array4.Array4.is_empty.Goals as goal

pub returns : goal.returns
returns g c =
    (λ i. nat_eq (c.num_zeros.ensures i) ((c.two_to.ensures ∙ ap (λ k. 2 ^ k) c.lg_k.ensures.lg_k ∙ sym c.lg_k.ensures.legal.registers.size) i)) ∙ all_by_count (λ v. eqb v 0) c.args.self.now.stored.registers
