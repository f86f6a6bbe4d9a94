-- SPDX-License-Identifier: Apache-2.0
use Rattle.std.proofs.Common.{◌≡◌, ℕ, ◌+◌, ◌*◌, ◌/◌, ◌%◌, ◌≤◌, List, [], ◌∷◌, get_or, sym, ap, ◌∙◌, arith}
use Rattle.hll_kernels.specs.Groups.{group_fields}
use Rattle.hll_kernels.proofs.Grouping.{four, group_fields-group_bytes}
use Rattle.hll_kernels.proofs.groups.pack_group.Goals as goal

pub returns-clause-bytes : goal.returns-clause-bytes
returns-clause-bytes c =
    let R : List ℕ = c.args.registers in
    let g : ℕ = get_or R 0 0 + 64 * get_or R 1 0 + 4096 * get_or R 2 0 + 262144 * get_or R 3 0 in
    let a : get_or R 0 0 ≤ 63 = c.requires 0 0 (omega arith) in
    let b : get_or R 1 0 ≤ 63 = c.requires 1 0 (omega arith) in
    let e : get_or R 2 0 ≤ 63 = c.requires 2 0 (omega arith) in
    let d : get_or R 3 0 ≤ 63 = c.requires 3 0 (omega arith) in
    let bits : c.from.result + c.from-2.result * 64 % 4294967296 + c.from-3.result * 4096 % 4294967296 + c.from-4.result * 262144 % 4294967296 ≡ g = omega arith in
    let high : g / 65536 % 256 ≡ g / 65536 = omega arith in
    let L : ℕ → ℕ = λ j. get_or c.to_le_bytes.result j 0 in
    let first : L 0 ≡ g % 256 = ap (λ l. get_or l 0 0) c.to_le_bytes.ensures ∙ ap (λ n. n % 256) bits in
    let second : L 1 ≡ g / 256 % 256 = ap (λ l. get_or l 1 0) c.to_le_bytes.ensures ∙ ap (λ n. n / 256 % 256) bits in
    let third : L 2 ≡ g / 65536 = ap (λ l. get_or l 2 0) c.to_le_bytes.ensures ∙ ap (λ n. n / 65536 % 256) bits ∙ high in
    λ i. first i ∷ second i ∷ third i ∷ []

pub returns-clause-fields : goal.returns-clause-fields
returns-clause-fields c =
    let R : List ℕ = c.args.registers in
    ap group_fields (returns-clause-bytes c)
    ∙ group_fields-group_bytes (get_or R 0 0) (get_or R 1 0) (get_or R 2 0) (get_or R 3 0) (c.requires 0 0 (omega arith)) (c.requires 1 0 (omega arith)) (c.requires 2 0 (omega arith)) (c.requires 3 0 (omega arith))
    ∙ sym (four R (omega arith))
