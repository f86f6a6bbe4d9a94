-- SPDX-License-Identifier: Apache-2.0
use Rattle.std.proofs.Common.{sym, subst, arith}
use Rattle.std.specs.Int.{w32, from_le_bytes}
use Rattle.std.specs.List.Sorted.{IsStrictlyIncreasing}
use Rattle.std.proofs.lemmas.List.{take-map}
use Rattle.hll_state.proofs.header.CouponTable.are_resolved.Goals as goal

pub returns : goal.returns
returns c =
    let same = take-map (from_le_bytes w32) c.args.self.now.run.used c.args.body.now in (
      λ up. record {
        settled = omega (arith, c.if-self.false, c.requires.within.run);
        ascends = subst IsStrictlyIncreasing (sym same) (c.ascends.ensures.0 up);
        stays = c.has_table.ensures.0 c.if-not-has_table.false;
      },
      λ resolved. c.ascends.ensures.1 (subst IsStrictlyIncreasing same resolved.ascends),
    )
