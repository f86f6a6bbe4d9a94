-- SPDX-License-Identifier: Apache-2.0
use Rattle.std.proofs.Common.{◌≡◌, ℕ, ◌*◌, List, length, sym, ap, ◌∙◌, arith, rules}
use Rattle.hll_kernels.proofs.Grouping.{groups-pow, length-registers_in}
use Rattle.hll_kernels.specs.Packed.{zeros}
use Rattle.hll_arrays.proofs.array6.Array6RegisterStore.from_values.Goals as goal

pub pack_groups-requires-clause-whole : goal.pack_groups-requires-clause-whole
pack_groups-requires-clause-whole g c = omega (arith, c.requires.registers.size, groups-pow c.args.lg_k (omega (arith, c.requires.least)))

pub invariant_of-result : goal.invariant_of-result
invariant_of-result g c =
    let G : List (List ℕ) = c.in_ok-pack_groups.field-0.items in
    let many : length c.args.values.now ≡ 4 * length G = ap length (sym c.in_ok-pack_groups.ensures.registers) ∙ length-registers_in G in (
      c.requires.least,
      c.requires.most,
      record { size = omega (arith, many, c.requires.registers.size, groups-pow c.args.lg_k (omega (arith, c.requires.least))); bytes = c.in_ok-pack_groups.ensures.groups },
      search rules,
      omega (arith, c.count_zeros.ensures.zeros, ap zeros c.in_ok-pack_groups.ensures.registers),
    )
