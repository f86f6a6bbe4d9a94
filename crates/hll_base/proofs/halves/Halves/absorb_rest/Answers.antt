-- SPDX-License-Identifier: Apache-2.0
use Rattle.std.proofs.Common.{◌≡◌, ap, ◌∙◌, arith}
use Rattle.std.specs.Prelude.{bit_xor}
use Rattle.hll_base.specs.Hash.{Halves, first_scramble, first_word}
use Rattle.hll_base.proofs.Hashing.{rest_first}
use Rattle.hll_base.proofs.halves.Halves.absorb_rest.Goals as goal

pub returns-else-count-gt8 : goal.returns-else-count-gt8
returns-else-count-gt8 c rest e is =
    let word : c.scramble_first.result ≡ first_scramble (first_word c.args.block.now) = c.scramble_first.ensures ∙ ap first_scramble c.words-low.ensures.first in
    (λ i. let x : Halves = record { first = bit_xor (c.self.view_is i).first (word i); second = (c.self.view_is i).second } in x)
    ∙ rest_first c.args.self.now c.args.block.now rest c.args.count e is (omega (arith, c.if-count-eq0.false)) c.if-count-gt8.false
