-- SPDX-License-Identifier: Apache-2.0
use Rattle.std.proofs.Common.{◌-◌, List, ℕ, length, take, drop, sym, ◌∙◌, arith}
use Rattle.hll_c.proofs.StringsByNumber.{length-strings, string_ended}
use Rattle.hll_c.proofs.strings.EndedStrings.string.Goals as goal

pub bounds_of-start-requires-clause-within : goal.bounds_of-start-requires-clause-within
bounds_of-start-requires-clause-within c = omega (arith, c.requires.within, length-strings 0 c.args.self.now.bytes.now c.args.self.now.ends.now)

pub returns : goal.returns
returns c =
    let bytes : List ℕ = c.args.self.now.bytes.now in
    let ends : List ℕ = c.args.self.now.ends.now in
    (λ i. take (c.bounds_of-start.ensures.end i - c.bounds_of-start.ensures.start i) (drop (c.bounds_of-start.ensures.start i) bytes))
    ∙ sym (string_ended 0 bytes ends c.args.number (omega (arith, c.requires.within, length-strings 0 bytes ends)))
