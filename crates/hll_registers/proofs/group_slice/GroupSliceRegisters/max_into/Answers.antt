-- SPDX-License-Identifier: Apache-2.0
use Rattle.std.proofs.Common.{◌≡◌, ℕ, ◌+◌, ◌*◌, ◌-◌, ◌/◌, ◌^◌, ◌≤◌, List, length, take, drop, sym, ap, ◌∙◌, arith, rules}
use Rattle.hll_base.specs.Join.{join}
use Rattle.hll_kernels.specs.Groups.{registers_in}
use Rattle.hll_kernels.proofs.Grouping.{size-AreGroups, take-registers_in, drop-registers_in}
use Rattle.hll_registers.specs.Store.{Stored}
use Rattle.hll_registers.proofs.group_slice.GroupSliceRegisters.max_into.Goals as goal

pub slice_bounds-max_groups_into-end : goal.slice_bounds-max_groups_into-end
slice_bounds-max_groups_into-end c =
    let x = c.self.inside in
    let size : 4 * length x.groups.now ≡ 2 ^ x.lg_k = size-AreGroups x.lg_k x.groups.now (omega (arith, c.self.invariant.0)) c.self.invariant.2 in
    let end : c.args.first / 4 + length c.args.values.now / 4 ≤ length x.groups.now =
    omega (arith, size, c.requires.within, c.requires.aligned, c.requires.groups, ap (λ (l : Stored). 2 ^ l.lg_k) c.self.view_is) in
    search rules

pub returns : goal.returns
returns c =
    let G : List (List ℕ) = c.self.inside.groups.now in
    let V : List ℕ = c.args.values.now in
    let first : ℕ = c.args.first / 4 in
    let n : ℕ = length V / 4 in
    let count : first + n - first ≡ n = omega arith in
    let from : 4 * first ≡ c.args.first = omega (arith, c.requires.aligned) in
    let many : 4 * n ≡ length V = omega (arith, c.requires.groups) in
    let registers : registers_in G ≡ c.args.self.now.registers = ap (λ (l : Stored). l.registers) c.self.view_is in
    let part : registers_in (take (first + n - first) (drop first G)) ≡ take (length V) (drop c.args.first c.args.self.now.registers) =
    (λ i. registers_in (take (count i) (drop first G))) ∙ sym (take-registers_in n (drop first G)) ∙ ap (take (4 * n)) (sym (drop-registers_in first G)) ∙ (λ i. take (many i) (drop (from i) (registers i))) in
    c.max_groups_into.ensures ∙ ap (join V) part
