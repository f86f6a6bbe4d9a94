-- SPDX-License-Identifier: Apache-2.0
use Rattle.std.proofs.Common.{◌≤◌, ◌-◌, ◌^◌, ℕ, min, arith}
use Rattle.std.proofs.Math.Pow.{pow_mono}
use Rattle.hll_state.proofs.Rooms.{used_most}
use Rattle.hll_state.proofs.header.Header.len_to_merge.Goals as goal

pub returns-in-None-clause-most : goal.returns-in-None-clause-most
returns-in-None-clause-most g c =
    let h = c.args.self.now in
    let l : ℕ = c.lg_k.result in
    let less : 2 ^ (min h.lg_k l - 2) ≤ 2 ^ (h.lg_k - 2) = pow_mono {i = min h.lg_k l - 2} {j = h.lg_k - 2} (omega arith) in
    omega (arith, c.len_for_registers.ensures, less, used_most h c.requires.0 c.requires.1)
