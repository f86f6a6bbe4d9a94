-- SPDX-License-Identifier: Apache-2.0
use Rattle.std.proofs.Common.{◌≡◌, ℕ, ◌∙◌, ◌==◌, sym, subst, nat_eq, eqb, List, Option}
use Rattle.std.specs.Prelude.{IfSome}
use Rattle.std.specs.List.{list_all}
use Rattle.hll_kernels.specs.Packed.{zeros}
use Rattle.hll_registers.specs.Store.{Stored}
use Rattle.hll_registers.proofs.FourBits.{all_by_count}
use Rattle.hll_arrays.proofs.array8.Array8.is_empty.Goals as goal

pub returns-in-Some : goal.returns-in-Some
returns-in-Some g c =
    let R : List ℕ = c.self.inside.registers.items in
    let counted : c.in-Some.count ≡ zeros R = subst (λ (o : Option ℕ). IfSome o (λ n. n ≡ zeros R)) c.in-Some.is c.self.invariant.4 in
    let here : nat_eq c.in-Some.count c.two_to.result ≡ list_all (λ v. v == 0) R = (λ i. nat_eq (counted i) ((c.two_to.ensures ∙ sym c.self.invariant.2.size) i)) ∙ all_by_count (λ v. eqb v 0) R in
    record { empty = subst (λ (x : Stored). nat_eq c.in-Some.count c.two_to.result ≡ list_all (λ v. v == 0) x.registers) c.self.view_is here }
