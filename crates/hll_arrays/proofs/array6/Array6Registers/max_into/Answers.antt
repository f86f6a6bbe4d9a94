-- SPDX-License-Identifier: Apache-2.0
use Rattle.std.proofs.Common.{◌≡◌, ℕ, ◌+◌, ◌*◌, ◌-◌, ◌/◌, ◌^◌, ◌≤◌, List, length, take, drop, sym, ap, ◌∙◌, arith, rules}
use Rattle.hll_base.specs.Join.{join}
use Rattle.hll_kernels.specs.Groups.{registers_in}
use Rattle.hll_registers.specs.Store.{Stored}
use Rattle.hll_kernels.proofs.Grouping.{size-AreGroups, take-registers_in, drop-registers_in}
use Rattle.hll_arrays.proofs.array6.Array6Registers.max_into.Goals as goal

pub slice_bounds-groups-end : goal.slice_bounds-groups-end
slice_bounds-groups-end g c =
    let G : List (List ℕ) = c.self.inside.groups.items in
    let size : 4 * length G ≡ 2 ^ c.self.inside.lg_config_k = size-AreGroups c.self.inside.lg_config_k G (omega (arith, c.self.invariant.0)) c.self.invariant.2 in
    let end : c.args.first / 4 + length c.args.values.now / 4 ≤ length c.deref.result.now =
    omega (arith, size, c.requires.within, c.requires.aligned, c.requires.groups, ap length c.deref.ensures.value, ap (λ (x : Stored). 2 ^ x.lg_k) c.self.view_is) in
    search rules

pub returns : goal.returns
returns g c =
    let first : ℕ = c.args.first / 4 in
    let n : ℕ = length c.args.values.now / 4 in
    let count : first + n - first ≡ n = omega arith in
    let from : 4 * first ≡ c.args.first = omega (arith, c.requires.aligned) in
    let many : 4 * n ≡ length c.args.values.now = omega (arith, c.requires.groups) in
    let groups : registers_in (take (first + n - first) (drop first c.deref.result.now)) ≡ registers_in (take n (drop first c.self.inside.groups.items)) =
    λ i. registers_in (take (count i) (drop first (c.deref.ensures.value i))) in
    let registers : registers_in c.self.inside.groups.items ≡ c.args.self.now.registers = ap (λ (x : Stored). x.registers) c.self.view_is in
    let part : registers_in (take n (drop first c.self.inside.groups.items)) ≡ take (length c.args.values.now) (drop c.args.first c.args.self.now.registers) =
    sym (take-registers_in n (drop first c.self.inside.groups.items)) ∙ ap (take (4 * n)) (sym (drop-registers_in first c.self.inside.groups.items)) ∙ (λ i. take (many i) (drop (from i) (registers i))) in
    c.max_groups_into.ensures ∙ ap (join c.args.values.now) (groups ∙ part)
