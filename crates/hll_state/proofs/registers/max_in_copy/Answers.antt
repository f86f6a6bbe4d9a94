-- SPDX-License-Identifier: Apache-2.0
use Rattle.std.proofs.Common.{◌≡◌, ◌*◌, length, ap, ◌∙◌, arith}
use Rattle.hll_state.proofs.Values.{four_each}
use Rattle.hll_state.proofs.registers.max_in_copy.Goals as goal

pub max_folds-requires-clause-size : goal.max_folds-requires-clause-size
max_folds-requires-clause-size g c =
    let copied : length c.copy_from_slice.new.self ≡ length c.args.elements.now * 4 = ap length c.copy_from_slice.ensures.after ∙ c.as_flattened.ensures.len in
    omega (arith, copied, ap (λ n. 4 * n) c.requires.size, four_each c.args.lg_k c.requires.least)

pub whole_as_front-copy : goal.whole_as_front-copy
whole_as_front-copy g c = (c.requires.few, omega (arith, c.requires.small))
