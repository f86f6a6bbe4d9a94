-- SPDX-License-Identifier: Apache-2.0
use Rattle.std.proofs.Common.{ℕ, List, [], ap, sym, ◌∙◌}
use Rattle.std.specs.List.{flat_map}
use Rattle.hll_kernels.proofs.Grouping.{registers_in-same}
use Rattle.hll_kernels.proofs.SixBitLanes.{fields-flat_map}
use Rattle.hll_kernels.specs.Packed.{fields}
use Rattle.hll_registers.specs.Store.{Stored}
use Rattle.hll_registers.proofs.SameRegisters.{tested}
use Rattle.hll_registers.proofs.group_slice.GroupSlice.has_same_registers.Goals as goal

pub returns : goal.returns
returns c =
    let G : List (List ℕ) = c.self.inside.groups.now in
    let H : List (List ℕ) = c.other.inside.groups.now in
    let x = ap (λ (l : Stored). l.registers) c.self.view_is in
    let y = ap (λ (l : Stored). l.registers) c.other.view_is in
    let bytes = tested c.eq.result _ _ (flat_map (λ g. g) G) (flat_map (λ g. g) H) c.eq.ensures c.as_flattened.ensures.value c.as_flattened-2.ensures.value in
    let left = fields-flat_map G (λ k l. (c.self.invariant.2.bytes k [] l).three) in
    let right = fields-flat_map H (λ k l. (c.other.invariant.2.bytes k [] l).three) in (
      λ t. sym x ∙ sym left ∙ ap fields (bytes.0 t) ∙ right ∙ y,
      λ e. bytes.1 (ap (flat_map (λ g. g)) (registers_in-same G H c.self.invariant.2.bytes c.other.invariant.2.bytes (x ∙ e ∙ sym y))),
    )
