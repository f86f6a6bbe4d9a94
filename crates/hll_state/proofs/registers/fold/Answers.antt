-- SPDX-License-Identifier: Apache-2.0
use Rattle.std.proofs.Common.{◌-◌, ◌^◌, ◌≤◌, arith}
use Rattle.std.proofs.Math.Pow.{pow_mono}
use Rattle.hll_state.proofs.registers.fold.Goals as goal

pub split_at_mut-front-requires : goal.split_at_mut-front-requires
split_at_mut-front-requires c =
    let less : 2 ^ (c.args.to - 2) ≤ 2 ^ (c.args.from - 2) = pow_mono (omega (arith, c.requires.within)) in
    omega (arith, less, c.two_to.ensures, c.requires.size)
