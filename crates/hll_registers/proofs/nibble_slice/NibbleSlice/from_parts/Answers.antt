-- SPDX-License-Identifier: Apache-2.0
use Rattle.std.proofs.Common.{rules, arith, ◌<◌, All}
use Rattle.std.proofs.Math.Pow.{pow_mono}
use Rattle.std.proofs.lemmas.List.Elements.{All-from_get_or}
use Rattle.hll_registers.proofs.nibble_slice.NibbleSlice.from_parts.Goals as goal

pub counts_of-zeros-requires : goal.counts_of-zeros-requires
counts_of-zeros-requires g c = omega (arith, c.requires.size, pow_mono {i = c.args.lg_k} {j = 21} c.requires.most)

pub invariant_of-result : goal.invariant_of-result
invariant_of-result g c =
    let fits : All (λ b. b < 256) c.args.nibbles.now = All-from_get_or (λ b. b < 256) c.args.nibbles.now 0 (λ i l. (c.type_inv.nibbles i).fits) in
    (c.requires.least, c.requires.most, c.requires.size, fits, c.requires.map, c.agree.ensures.all c.if-not-agree.false, c.counts_of-zeros.ensures.zeros, search rules)
