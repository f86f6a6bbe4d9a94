-- SPDX-License-Identifier: Apache-2.0
use Rattle.std.proofs.Common.{◌≡◌, ◌/◌, ◌++◌, ℕ, List, All, length, take, drop, sym, ap, subst, ◌∙◌, arith}
use Rattle.std.proofs.Math.Seq.{take-append_seam}
use Rattle.hll_kernels.specs.Groups.{IsGroup, registers_in}
use Rattle.hll_kernels.proofs.SixBitLanes.{registers_in-groups_of, IsGroup-groups_of}
use Rattle.hll_kernels.proofs.groups.pack_groups.Goals as goal

pub returns-clause-registers : goal.returns-clause-registers
returns-clause-registers g c =
    let R : List ℕ = c.args.registers.now in
    let new : List (List ℕ) = c.pack_groups_into.new.groups in
    let old : List (List ℕ) = c.in_ok-groups.groups.items in
    let whole : c.in_ok-groups.groups.len ≡ length new = sym (c.pack_groups_into.auto.groups ∙ c.deref_mut.ensures.len) in
    let items : take c.in_ok-groups.groups.len (new ++ drop (length new) old) ≡ new = ap (λ n. take n (new ++ drop (length new) old)) whole ∙ take-append_seam new (drop (length new) old) in
    ap registers_in items ∙ ap registers_in c.pack_groups_into.ensures ∙ registers_in-groups_of (length R / 4) R (omega (arith, c.requires.whole)) c.requires.small

pub returns-clause-groups : goal.returns-clause-groups
returns-clause-groups g c =
    let R : List ℕ = c.args.registers.now in
    let new : List (List ℕ) = c.pack_groups_into.new.groups in
    let old : List (List ℕ) = c.in_ok-groups.groups.items in
    let whole : c.in_ok-groups.groups.len ≡ length new = sym (c.pack_groups_into.auto.groups ∙ c.deref_mut.ensures.len) in
    let items : take c.in_ok-groups.groups.len (new ++ drop (length new) old) ≡ new = ap (λ n. take n (new ++ drop (length new) old)) whole ∙ take-append_seam new (drop (length new) old) in
    subst (All IsGroup) (sym (items ∙ c.pack_groups_into.ensures)) (IsGroup-groups_of (length R / 4) R (omega (arith, c.requires.whole)) c.requires.small)
