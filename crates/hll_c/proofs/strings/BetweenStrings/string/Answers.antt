-- SPDX-License-Identifier: Apache-2.0
use Rattle.std.proofs.Common.{◌+◌, ◌-◌, List, ℕ, length, take, drop, sym, ◌∙◌, arith}
use Rattle.hll_c.proofs.StringsByNumber.{string_between, length-strings_by, string_at}
use Rattle.hll_c.proofs.strings.BetweenStrings.string.Goals as goal

pub bounds_of-start-requires-clause-within : goal.bounds_of-start-requires-clause-within
bounds_of-start-requires-clause-within c =
    omega (arith, c.requires.within, length-strings_by (string_between c.args.self.now.offsets.now c.args.self.now.bytes.now) (length c.args.self.now.offsets.now - 1))

pub returns : goal.returns
returns c =
    (λ i. take (c.bounds_of-start.ensures.end i - c.bounds_of-start.ensures.start i) (drop (c.bounds_of-start.ensures.start i) c.args.self.now.bytes.now))
    ∙ sym (string_at (string_between c.args.self.now.offsets.now c.args.self.now.bytes.now) (length c.args.self.now.offsets.now - 1) c.args.number c.requires.within)
